use Rattle.std.proofs.Common.{◌≡◌, drop}
use Rattle.script_files.specs.Audiences.{is_one_of}
use Rattle.script_files.proofs.audience.are_meant.Given as goal

abbrev pub invariant-loop-member : goal.invariant-loop-member
invariant-loop-member l = is_one_of l.rank l.incarnation (drop l.member-index l.members) ≡
    is_one_of l.rank l.incarnation l.members
