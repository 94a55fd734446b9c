-- None is in order, and each next one stays in it.
use Rattle.std.proofs.Common.{List, [], subst, sym, arith}
use Rattle.sessions.specs.Events.{sendings}
use Rattle.datagram.specs.declared.frame.Outgoing.{Outgoing}
use Rattle.engine_calls.proofs.FrameOrder.{AreOrdered, none_in_order, one_in_order_as}
use Rattle.engine_calls.proofs.frames.frames_in_order.Goals as goal

pub loop-message-init : goal.loop-message-init
loop-message-init c =
    subst (λ (t : List Outgoing). AreOrdered c.args.size 0 [] (sendings t)) (sym c.new-frames.ensures.items)
    (none_in_order c.args.size)

pub loop-message-preserved : goal.loop-message-preserved
loop-message-preserved c =
    let before = c.loop-message in
    one_in_order_as c.args.size before.last c.args.messages.now before.message-index c.message-item.result
    (sendings before.frames.items) (sendings c.put_frame.new.frames.items)
    c.message-item.is c.loop-message-test.true (omega (arith, c.if-message-size.false))
    (omega (arith, c.if-message-last.false)) before.invariant
    c.in_ok-put_frame.ensures.ok
