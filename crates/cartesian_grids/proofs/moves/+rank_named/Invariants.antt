use Rattle.std.proofs.Common.{length}
use Rattle.cartesian_grids.proofs.moves.+rank_named.Given as goal

abbrev pub decreases-rank_named : goal.decreases-rank_named
decreases-rank_named l = length l.sizes.now
