-- The rows of the ranks so far.
use Rattle.std.proofs.Common.{◌≡◌, take}
use Rattle.collective_steps.specs.Steps.{rows_from}
use Rattle.collective_steps.proofs.split.rows_of.Given as goal

abbrev pub invariant-loop-place : goal.invariant-loop-place
invariant-loop-place l = l.rows.items ≡ rows_from l.seat.own l.seat.inside.now l.seat.notes.now 0 (take l.place l.ranks)
