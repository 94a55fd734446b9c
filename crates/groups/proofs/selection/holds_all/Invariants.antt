-- The ranks so far are all there.
use Rattle.std.proofs.Common.{◌≡◌, take, true}
use Rattle.std.specs.List.{list_all}
use Rattle.groups.specs.Groups.{is_member}
use Rattle.groups.proofs.selection.holds_all.Given as goal

abbrev pub invariant-loop-rank : goal.invariant-loop-rank
invariant-loop-rank l = list_all (is_member l.first) (take l.rank-index l.second) ≡ true
