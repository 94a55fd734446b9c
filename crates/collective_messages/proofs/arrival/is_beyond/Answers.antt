-- One more rank is looked at.
use Rattle.std.proofs.Common.{arith}
use Rattle.std.proofs.lemmas.Grind.{common_steps}
use Rattle.collective_messages.proofs.Values.{any_more}
use Rattle.datatypes.specs.Contents.{values_of}
use Rattle.collective_messages.proofs.arrival.is_beyond.Goals as goal

pub loop-place-preserved : goal.loop-place-preserved
unfolding values_of
loop-place-preserved c = grind (arith, common_steps, any_more)
