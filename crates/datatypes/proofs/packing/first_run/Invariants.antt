use Rattle.std.proofs.Common.{◌≡◌, get_or, take}
use Rattle.std.specs.List.{range_with_len}
use Rattle.datatypes.proofs.packing.first_run.Given as goal

abbrev pub invariant-loop-i : goal.invariant-loop-i
invariant-loop-i l = take l.i l.offsets ≡ range_with_len (get_or l.offsets 0 0) l.i
