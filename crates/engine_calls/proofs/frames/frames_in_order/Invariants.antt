use Rattle.std.proofs.Common.{take}
use Rattle.sessions.specs.Events.{sendings}
use Rattle.engine_calls.proofs.FrameOrder.{AreOrdered}
use Rattle.engine_calls.proofs.frames.frames_in_order.Given as goal

abbrev pub invariant-loop-message : goal.invariant-loop-message
invariant-loop-message l = AreOrdered l.size l.last (take l.message-index l.messages) (sendings l.frames.items)
