use Rattle.std.proofs.Common.{ap, ◌∙◌, arith}
use Rattle.sessions.specs.SessionsState.{SessionsState}
use Rattle.sessions.proofs.Busy.{busy_few, busy_part, recounted}
use Rattle.sessions.proofs.PeerLemmas.{peer_not_ahead, sound_with_sender}
use Rattle.sessions.proofs.sessions.Sessions.send.Goals as goal

pub overflow_sub-self : goal.overflow_sub-self
overflow_sub-self c =
    omega (
      arith,
      rw c.deref.ensures.value at c.busy_at-before.ensures.count,
      busy_part c.self-2.inside.peers.items c.args.outgoing.target,
      c.self-2.invariant.counts,
    )

pub overflow_add-self : goal.overflow_add-self
overflow_add-self c =
    omega (
      arith,
      c.self-2.invariant.counts,
      busy_few c.self-2.inside.peers.items,
      c.self-2.invariant.each,
      c.self-2.invariant.size,
      c.busy_at.ensures.once,
    )

pub invariant_of-self-2 : goal.invariant_of-self-2
invariant_of-self-2 c =
    rw c.in_ok-send_at.ensures.state (sound_with_sender _ _ _ _ _ _ _ (peer_not_ahead _ _ _ c.self-2.invariant.clocks)
    (recounted _ _ _ _ _ _
    (omega (
      arith,
      c.requires.frame.there,
      c.self-2.invariant.each,
      ap (λ (s : SessionsState). s.place.size) (c.self-2.view_is ∙ c.in_ok-bytes.ensures.kept),
    ))
    c.self-2.invariant.counts (rw c.deref.ensures.value at c.busy_at-before.ensures.count)
    (rw (c.deref-2.ensures.value, c.in_ok-send_at.ensures.state) at c.busy_at.ensures.count)) c.self-2.invariant)
