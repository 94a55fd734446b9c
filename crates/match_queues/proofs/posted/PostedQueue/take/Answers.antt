use Rattle.match_queues.specs.declared.envelope.PostedReceive.{PostedReceive}
use Rattle.match_queues.specs.Keys.{key_of}
use Rattle.match_queues.proofs.SlotLemmas.{emptied}
use Rattle.match_queues.proofs.posted.PostedQueue.take.Goals as goal

pub invariant_of-self : goal.invariant_of-self
invariant_of-self c = λ is. (
  emptied key_of c.self.inside.slots.items c.take_at.new.slots.items c.self.inside.by_key.keys c.leave.new.by_key.keys
      c.args.place (c.self.invariant is).0 (c.leave.ensures.keys is) c.take_at.ensures.items,
  emptied (λ (r : PostedReceive). r.request) c.self.inside.slots.items c.take_at.new.slots.items
      c.self.inside.by_request.keys c.leave.new.by_request.keys c.args.place (c.self.invariant is).1
      (c.leave.ensures.requests is) c.take_at.ensures.items,
)
