-- One more part has its communicator.
use Rattle.std.proofs.Common.{arith}
use Rattle.std.proofs.lemmas.Grind.{common_steps}
use Rattle.collective_steps.proofs.Rows.{made_more}
use Rattle.collective_steps.proofs.split.made_by.Goals as goal

pub loop-place-preserved : goal.loop-place-preserved
loop-place-preserved c = grind (arith, common_steps, made_more)
