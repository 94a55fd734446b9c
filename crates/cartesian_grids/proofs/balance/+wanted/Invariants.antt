use Rattle.std.proofs.Common.{length}
use Rattle.cartesian_grids.proofs.balance.+wanted.Given as goal

abbrev pub decreases-wanted : goal.decreases-wanted
decreases-wanted l = length l.sizes.now
