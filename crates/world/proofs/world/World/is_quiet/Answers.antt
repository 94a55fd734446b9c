use Rattle.world.proofs.SessionOrder.{nothing_is_held}
use Rattle.world.proofs.Places.{sound_placed}
use Rattle.world.proofs.QuietPairs.{quiet_iff}
use Rattle.world.proofs.world.World.is_quiet.Goals as goal

pub returns-clause-quiet : goal.returns-clause-quiet
returns-clause-quiet c =
    rw (← c.self.view_is)
    (quiet_iff _ _ (sound_placed _ _ _ c.self.invariant) (rw (c.deref.ensures.value) at c.are_quiet.ensures))

pub returns-clause-held : goal.returns-clause-held
returns-clause-held c =
    rw (← c.self.view_is)
    (λ t. nothing_is_held _ _ _ c.self.invariant
    ((quiet_iff _ _ (sound_placed _ _ _ c.self.invariant) (rw (c.deref.ensures.value) at c.are_quiet.ensures)).0 t))
