use Rattle.std.proofs.Common.{length}
use Rattle.cartesian_grids.proofs.places.+coordinate.Given as goal

abbrev pub decreases-coordinate : goal.decreases-coordinate
decreases-coordinate l = length l.sizes.now
