use Rattle.std.proofs.Common.{length}
use Rattle.cartesian_grids.proofs.places.+places_within.Given as goal

abbrev pub decreases-places_within : goal.decreases-places_within
decreases-places_within l = length l.sizes.now
