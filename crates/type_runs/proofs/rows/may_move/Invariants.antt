use Rattle.std.proofs.Common.{take}
use Rattle.type_runs.specs.Runs.{MayMove}
use Rattle.type_runs.proofs.rows.may_move.Given as goal

abbrev pub invariant-loop-run : goal.invariant-loop-run
invariant-loop-run l = MayMove l.fn.by (take l.run-index l.runs)
