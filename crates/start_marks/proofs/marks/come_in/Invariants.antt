-- What was counted and what is left come to all of it.
use Rattle.std.proofs.Common.{◌≡◌, ◌+◌, ◌≤◌, drop}
use Rattle.start_marks.specs.Marks.{come_in}
use Rattle.start_marks.proofs.marks.come_in.Given as goal

abbrev pub invariant-loop-mark : goal.invariant-loop-mark
invariant-loop-mark l =
    (l.count + come_in (drop l.mark-index l.marks) ≡ come_in l.marks) × (l.count ≤ l.mark-index)
