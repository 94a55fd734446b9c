use Rattle.std.proofs.Common.{arith}
use Rattle.sessions.proofs.Busy.{busy_few, busy_part, recounted}
use Rattle.sessions.proofs.PeerLemmas.{sound_with_peer}
use Rattle.sessions.proofs.sessions.Sessions.put_back.Goals as goal

pub overflow_sub-self : goal.overflow_sub-self
overflow_sub-self c =
    omega (
      arith,
      rw c.deref.ensures.value at c.busy_at-before.ensures.count,
      busy_part c.self.inside.peers.items c.args.rank,
      c.self.invariant.counts,
    )

pub overflow_add-self : goal.overflow_add-self
overflow_add-self c =
    omega (
      arith,
      c.self.invariant.counts,
      busy_few c.self.inside.peers.items,
      c.self.invariant.each,
      c.self.invariant.size,
      c.busy_at.ensures.once,
    )

pub invariant_of-self : goal.invariant_of-self
invariant_of-self c =
    rw c.put_at.ensures (sound_with_peer _ _ _ _ _ _ _ (rw (← c.self.view_is) at c.requires.clock)
    (recounted _ _ _ _ _ _ (rw (← c.self.view_is) at c.requires.there) c.self.invariant.counts
    (rw c.deref.ensures.value at c.busy_at-before.ensures.count)
    (rw (c.deref-2.ensures.value, c.put_at.ensures) at c.busy_at.ensures.count)) c.self.invariant)
