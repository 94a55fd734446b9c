use Rattle.cartesian_grids.proofs.GridProofs.{ranks_are_places}
use Rattle.cartesian_grids.proofs.laws.ranks_are_places.Goals as goal

pub returns : goal.returns
returns c = ranks_are_places
