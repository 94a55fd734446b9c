use Rattle.cartesian_grids.proofs.GridProofs.{back_undoes_ahead}
use Rattle.cartesian_grids.proofs.laws.steps_back_undo_steps_ahead.Goals as goal

pub returns : goal.returns
returns c = back_undoes_ahead
