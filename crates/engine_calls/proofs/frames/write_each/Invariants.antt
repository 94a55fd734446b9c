use Rattle.std.proofs.Common.{map, take}
use Rattle.engine_calls.specs.Steps.{AreReady, written}
use Rattle.rendezvous.specs.PayloadNumbers.{counted, with_lesson}
use Rattle.engine_calls.proofs.frames.write_each.Given as goal

abbrev pub invariant-loop-message : goal.invariant-loop-message
invariant-loop-message l =
    AreReady l.place (with_lesson l.lesson l.transfers.state.numbers) (take l.message-index l.messages)
    (map written l.frames.items) l.announced.items
    (counted (with_lesson l.lesson l.transfers.state.numbers) l.announced.items)
