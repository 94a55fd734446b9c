use Rattle.std.proofs.Common.{◌≡◌, ◌∙◌, ℕ, List, [], ap, arith}
use Rattle.std.proofs.lemmas.Grind.{common_steps}
use Rattle.sessions.specs.Peers.{frames_out}
use Rattle.sessions.proofs.Due.{on_error, some_due}
use Rattle.sessions.proofs.peers.add_due_frames.Goals as goal

pub returns-clause-memory : goal.returns-clause-memory
returns-clause-memory c =
    on_error c.emit_all.result
    (some_due c.args.peer.now.sender c.args.now (λ none.
    let is : c.in_ok-due.due.items ≡ [] = c.in_ok-due.ensures.ok ∙ ap (λ (ns : List ℕ). frames_out c.args.rank c.args.peer.now.sender ns) none in
    grind (arith, common_steps)))
