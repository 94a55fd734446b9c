-- What is left decides.
use Rattle.std.proofs.Common.{◌≡◌, drop}
use Rattle.start_marks.specs.Marks.{are_there}
use Rattle.start_marks.proofs.marks.are_there.Given as goal

abbrev pub invariant-loop-mark : goal.invariant-loop-mark
invariant-loop-mark l = are_there (drop l.mark-index l.marks) ≡ are_there l.marks
