use Rattle.engine.proofs.CallLaws.{stays_placed}
use Rattle.engine_calls.specs.declared.call.Call.TheVariants as calls
use Rattle.engine.proofs.engine.Engine.mrecv.Goals as goal

pub returns : goal.returns
returns c =
    let i = c.self.inside in
    rw (← c.self.view_is, c.mrecv.ensures.payloads)
    (c.mrecv.ensures.exact (record { ended = i.ended; payloads = i.parts.core.payloads.state }))

pub invariant_of-self-inside : goal.invariant_of-self-inside
invariant_of-self-inside c = record {
  placed = stays_placed c.self.inside.parts _ _ (calls.Mrecv c.args.message c.args.into) c.mrecv.result c.mrecv.ensures.exact;
}
