use Rattle.std.proofs.Common.{length}
use Rattle.cartesian_grids.proofs.balance.+given_within.Given as goal

abbrev pub decreases-given_within : goal.decreases-given_within
decreases-given_within l = length l.sizes.now
