use Rattle.std.proofs.Common.{length}
use Rattle.cartesian_grids.proofs.parts.+places_among.Given as goal

abbrev pub decreases-places_among : goal.decreases-places_among
decreases-places_among l = length l.sizes.now
