use Rattle.std.proofs.Common.{sym, ◌∙◌, arith}
use Rattle.sessions.proofs.Busy.{count_of_receiver}
use Rattle.sessions.proofs.PeerLemmas.{sound_with_receiver}
use Rattle.sessions.proofs.sessions.Sessions.discard.Goals as goal

pub invariant_of-self : goal.invariant_of-self
invariant_of-self c =
    rw c.discard_at.ensures (sound_with_receiver _ _ _ _ _ _ _
    (c.self.invariant.counts ∙
    sym (count_of_receiver _ _ _ (omega (arith, rw (← c.self.view_is) at c.requires, c.self.invariant.each))))
    c.self.invariant)
