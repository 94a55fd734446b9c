use Rattle.std.proofs.Common.{length}
use Rattle.cartesian_grids.proofs.places.+places.Given as goal

abbrev pub decreases-places : goal.decreases-places
decreases-places l = length l.sizes.now
