use Rattle.std.proofs.Common.{ap}
use Rattle.match_queues.specs.declared.envelope.PostedReceive.{PostedReceive}
use Rattle.match_queues.specs.Slots.{Slots}
use Rattle.match_queues.proofs.SlotLemmas.{found_request}
use Rattle.match_queues.proofs.posted.PostedQueue.place_of.Goals as goal

pub returns-then-self : goal.returns-then-self
returns-then-self c =
    found_request c.args.request c.self.inside.by_request.keys c.self.inside.slots.items c.args.self.now.slots
    c.first_for.result
    (ap (λ (s : Slots PostedReceive). s.slots) c.self.view_is) (c.self.invariant c.if-self.true).1 c.first_for.ensures
