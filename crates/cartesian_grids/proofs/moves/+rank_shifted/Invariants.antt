use Rattle.std.proofs.Common.{length}
use Rattle.cartesian_grids.proofs.moves.+rank_shifted.Given as goal

abbrev pub decreases-rank_shifted : goal.decreases-rank_shifted
decreases-rank_shifted l = length l.sizes.now
