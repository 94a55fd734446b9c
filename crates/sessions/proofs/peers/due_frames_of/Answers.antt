use Rattle.std.proofs.Common.{◌≡◌, ◌∙◌, [], arith}
use Rattle.std.proofs.lemmas.Grind.{common_steps}
use Rattle.sessions.proofs.Due.{on_error, some_due}
use Rattle.sessions.proofs.peers.due_frames_of.Goals as goal

pub returns-clause-memory : goal.returns-clause-memory
returns-clause-memory c =
    on_error c.frames_of.result
    (some_due c.args.peer.now.sender c.args.now (λ none.
    let is : c.in-Ok.numbers.items ≡ [] = c.in-Ok.ensures.due ∙ none in
    grind (arith, common_steps)))
