use Rattle.world.proofs.RunningPasts.{past_is_placed}
use Rattle.world.proofs.QuietPairs.{quiet_iff}
use Rattle.world.proofs.running.RunningWorld.is_quiet.Goals as goal

pub returns : goal.returns
returns c =
    rw (← c.self.view_is)
    (quiet_iff _ _ (past_is_placed _ c.self.invariant) (rw (c.deref.ensures.value) at c.are_quiet.ensures))
