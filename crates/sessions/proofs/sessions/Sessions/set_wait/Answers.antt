use Rattle.std.proofs.Common.{sym, ◌∙◌, arith}
use Rattle.sessions.proofs.Busy.{count_of_wait}
use Rattle.sessions.proofs.PeerLemmas.{peer_not_ahead, sound_with_sender}
use Rattle.sessions.proofs.sessions.Sessions.set_wait.Goals as goal

pub invariant_of-self : goal.invariant_of-self
invariant_of-self c =
    rw c.set_wait_at.ensures (sound_with_sender _ _ _ _ _ _ _ (peer_not_ahead _ _ _ c.self.invariant.clocks)
    (c.self.invariant.counts ∙
    sym (count_of_wait _ _ _ (omega (arith, rw (← c.self.view_is) at c.requires, c.self.invariant.each))))
    c.self.invariant)
