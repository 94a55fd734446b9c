use Rattle.std.proofs.Common.{◌≡◌, ◌∷◌, [], ◌++◌, ◌==◌, filter, subst}
use Rattle.datagram.specs.Spellings.{OutgoingText}
use Rattle.sessions.specs.Events.{sendings}
use Rattle.engine_calls.proofs.StepFrames.{one_chosen}
use Rattle.engine_calls.specs.Steps.{written}
use Rattle.engine_calls.specs.declared.frames.Written.{Written}
use Rattle.engine_calls.proofs.frames.add_for.Goals as goal

pub loop-message-preserved : goal.loop-message-preserved
loop-message-preserved c =
    let before = c.loop-message in
    one_chosen c.args.rank c.args.messages.now before.message-index c.message-item.result
    (sendings c.args.frames.now.items) (sendings before.frames.items) (sendings c.add_if_for.new.frames.items)
    c.loop-message-test.true before.invariant
    (subst
    (λ (w : Written). sendings c.add_if_for.new.frames.items ≡ sendings before.frames.items ++
    filter (λ (f : OutgoingText). f.target == c.args.rank) (written w ∷ []))
    c.message-item.is c.in_ok-add_if_for.ensures.ok)
