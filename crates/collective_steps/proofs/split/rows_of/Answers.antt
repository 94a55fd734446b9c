-- One more member has its row.
use Rattle.std.proofs.Common.{arith}
use Rattle.std.proofs.lemmas.Grind.{common_steps}
use Rattle.collective_steps.proofs.Rows.{rows_more}
use Rattle.collective_steps.proofs.split.rows_of.Goals as goal

pub loop-place-preserved : goal.loop-place-preserved
loop-place-preserved c = grind (arith, common_steps, rows_more)
