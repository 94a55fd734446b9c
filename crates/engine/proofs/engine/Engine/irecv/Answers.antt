use Rattle.engine.proofs.CallLaws.{stays_placed}
use Rattle.engine_calls.specs.declared.call.Call.TheVariants as calls
use Rattle.engine.proofs.engine.Engine.irecv.Goals as goal

pub returns : goal.returns
returns c =
    let i = c.self.inside in
    rw (← c.self.view_is, c.irecv.ensures.payloads)
    (c.irecv.ensures.exact (record { ended = i.ended; payloads = i.parts.core.payloads.state }))

pub invariant_of-self-inside : goal.invariant_of-self-inside
invariant_of-self-inside c = record {
  placed = stays_placed c.self.inside.parts _ _ (calls.Irecv c.args.receive) c.irecv.result c.irecv.ensures.exact;
}
