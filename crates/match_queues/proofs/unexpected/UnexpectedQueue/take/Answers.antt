use Rattle.std.proofs.Common.{true, false}
use Rattle.match_queues.specs.Keys.{key_for}
use Rattle.match_queues.proofs.SlotLemmas.{emptied}
use Rattle.match_queues.proofs.unexpected.UnexpectedQueue.take.Goals as goal

pub invariant_of-self : goal.invariant_of-self
invariant_of-self c = λ is.
    let i = c.self.invariant is in
    record {
      by_exact =
          emptied (key_for false false) c.self.inside.slots.items c.take_at.new.slots.items c.self.inside.exact.keys
          c.leave.new.index.keys c.args.place i.by_exact (c.leave.ensures.keys is) c.take_at.ensures.items;
      by_tag = emptied (key_for true false) c.self.inside.slots.items c.take_at.new.slots.items
          c.self.inside.from_any.keys c.leave-2.new.index.keys c.args.place i.by_tag (c.leave-2.ensures.keys is)
          c.take_at.ensures.items;
      by_sender =
          emptied (key_for false true) c.self.inside.slots.items c.take_at.new.slots.items c.self.inside.with_any.keys
          c.leave-3.new.index.keys c.args.place i.by_sender (c.leave-3.ensures.keys is) c.take_at.ensures.items;
      by_context =
          emptied (key_for true true) c.self.inside.slots.items c.take_at.new.slots.items c.self.inside.any.keys
          c.leave-4.new.index.keys c.args.place i.by_context (c.leave-4.ensures.keys is) c.take_at.ensures.items;
    }
