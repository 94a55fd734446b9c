use Rattle.std.proofs.Common.{◌≡◌, ◌∙◌, List, [], ap, arith}
use Rattle.std.proofs.lemmas.Grind.{common_steps}
use Rattle.sessions.specs.Peers.{due_out}
use Rattle.sessions.specs.declared.peers.Peer.{Peer}
use Rattle.sessions.proofs.Due.{on_error, out_some}
use Rattle.sessions.proofs.PeerLemmas.{none_due}
use Rattle.sessions.proofs.sessions.Sessions.emit_due.Goals as goal

pub returns-then-self-eq0-clause-ok : goal.returns-then-self-eq0-clause-ok
returns-then-self-eq0-clause-ok c =
    none_due c.args.self.now c.args.now _ (rw (← c.self.view_is) c.self.invariant.counts) c.if-self-eq0.true

pub returns-clause-memory : goal.returns-clause-memory
returns-clause-memory c =
    on_error c.emit_all.result
    (rw (← c.self.view_is)
    (out_some 0 c.args.now c.self.inside.peers.items (λ none.
    let is : c.in_ok-frames.frames.items ≡ [] = c.in_ok-frames.ensures.ok ∙ ap (λ (ps : List Peer). due_out 0 ps c.args.now) c.deref.ensures.value ∙ none in
    grind (arith, common_steps))))
