use Rattle.c_rank.proofs.WindowSteps.{defers_nothing}
use Rattle.c_rank.proofs.laws.nothing_is_deferred_without_windows.Goals as goal

pub returns : goal.returns
returns c = defers_nothing
