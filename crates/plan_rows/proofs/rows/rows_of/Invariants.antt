-- What is told so far, and what is left to be told.
use Rattle.std.proofs.Common.{◌≡◌, ◌++◌, drop}
use Rattle.plan_rows.specs.Rows.{rows_told}
use Rattle.plan_rows.proofs.RowLoops.{with_before}
use Rattle.plan_rows.proofs.rows.rows_of.Given as goal

abbrev pub invariant-loop-step : goal.invariant-loop-step
invariant-loop-step l = l.rows.items ++ rows_told (with_before l.before (drop l.step-index l.plan)) ≡ rows_told l.plan
