use Rattle.std.proofs.Common.{length}
use Rattle.world.proofs.engines.+engines_are_alike.Given as goal

abbrev pub decreases-engines_are_alike : goal.decreases-engines_are_alike
decreases-engines_are_alike l = length l.these.now
