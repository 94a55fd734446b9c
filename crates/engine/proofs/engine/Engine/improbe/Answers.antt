use Rattle.engine.proofs.CallLaws.{stays_placed}
use Rattle.engine_calls.specs.declared.call.Call.TheVariants as calls
use Rattle.engine.proofs.engine.Engine.improbe.Goals as goal

pub returns : goal.returns
returns c =
    let i = c.self.inside in
    rw (← c.self.view_is, c.improbe.ensures.payloads)
    (c.improbe.ensures.exact (record { ended = i.ended; payloads = i.parts.core.payloads.state }))

pub invariant_of-self-inside : goal.invariant_of-self-inside
invariant_of-self-inside c = record {
  placed = stays_placed c.self.inside.parts _ _ (calls.Improbe c.args.probe) c.improbe.result c.improbe.ensures.exact;
}
