use Rattle.std.proofs.Common.{length}
use Rattle.cartesian_grids.proofs.parts.+rank_among.Given as goal

abbrev pub decreases-rank_among : goal.decreases-rank_among
decreases-rank_among l = length l.sizes.now
