-- One more message is written out, or it can't go.
use Rattle.std.proofs.Common.{map, sym, subst, take}
use Rattle.std.proofs.lemmas.Result.{err_from_is_err_and}
use Rattle.collective_messages.specs.declared.message.CollectiveMessage.{CollectiveMessage}
use Rattle.point_to_point_calls.specs.declared.refusal.Refusal.{Refusal}
use Rattle.rendezvous.specs.PayloadNumbers.{counted, with_lesson}
use Rattle.engine_calls.proofs.StepFrames.{one_left_out, one_more}
use Rattle.engine_calls.proofs.StepNumbers.{ready_left}
use Rattle.engine_calls.specs.Frames.{all_can_go, can_go}
use Rattle.engine_calls.specs.Steps.{IsAdded, IsLeftOut, written}
use Rattle.engine_calls.proofs.frames.write_each.Goals as goal

pub add_message-requires-clause-left : goal.add_message-requires-clause-left
add_message-requires-clause-left c =
    let ns = with_lesson c.args.lesson c.args.transfers.now.state.numbers in
    let before = c.loop-message in
    ready_left c.args.place ns (counted ns before.announced.items) (take before.message-index c.args.messages.now)
    (map written before.frames.items) before.announced.items before.invariant

pub loop-message-preserved : goal.loop-message-preserved
loop-message-preserved c =
    let ns = with_lesson c.args.lesson c.args.transfers.now.state.numbers in
    let before = c.loop-message in
    let after = c.add_message.new in
    one_more c.args.place ns c.args.messages.now before.message-index c.message-item.result
    (map written before.frames.items) (map written after.frames.items) before.announced.items after.announced.items
    (counted ns before.announced.items) (counted ns after.announced.items)
    c.loop-message-test.true before.invariant
    (subst
    (λ (m : CollectiveMessage). IsAdded c.args.place (counted ns before.announced.items) m
    (map written before.frames.items) (map written after.frames.items) before.announced.items
    after.announced.items (counted ns after.announced.items))
    c.message-item.is c.in_ok-add_message.ensures.ok)

pub returns-in_err-add_message-clause-err : goal.returns-in_err-add_message-clause-err
returns-in_err-add_message-clause-err c =
    let ns = with_lesson c.args.lesson c.args.transfers.now.state.numbers in
    let p = err_from_is_err_and c.from_residual.result c.from_residual.ensures.1 in
    let before = c.loop-message in
    rw p.1
    (subst (λ (e : Refusal). IsLeftOut (all_can_go c.args.place ns c.args.messages.now) e)
    (sym p.2)
    (one_left_out c.args.place ns (counted ns before.announced.items) c.args.messages.now before.message-index
    c.message-item.result
    (map written before.frames.items) before.announced.items c.in_err-add_message.field-0.0 c.loop-message-test.true
    before.invariant
    (subst (λ (m : CollectiveMessage). IsLeftOut (can_go c.args.place (counted ns before.announced.items) m)
    c.in_err-add_message.field-0.0) c.message-item.is
    c.in_err-add_message.ensures.err)))
