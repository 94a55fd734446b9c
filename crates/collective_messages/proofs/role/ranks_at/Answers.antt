-- One more place, with its rank or without one.
use Rattle.std.proofs.Common.{arith}
use Rattle.std.proofs.lemmas.Grind.{common_steps}
use Rattle.collective_messages.proofs.Places.{ranks_more}
use Rattle.collective_messages.proofs.role.ranks_at.Goals as goal

pub loop-place-preserved : goal.loop-place-preserved
loop-place-preserved c = grind (arith, common_steps, ranks_more)
