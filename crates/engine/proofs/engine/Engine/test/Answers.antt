use Rattle.engine.proofs.CallLaws.{stays_placed}
use Rattle.engine_calls.specs.declared.call.Call.TheVariants as calls
use Rattle.engine.proofs.engine.Engine.test.Goals as goal

pub returns : goal.returns
returns c =
    let i = c.self.inside in
    rw (← c.self.view_is, c.test.ensures.payloads)
    (c.test.ensures.exact (record { ended = i.ended; payloads = i.parts.core.payloads.state })
    i.parts.sessions)

pub invariant_of-self-inside : goal.invariant_of-self-inside
invariant_of-self-inside c = record {
  placed = stays_placed c.self.inside.parts _ _ (calls.Test c.args.request) c.test.result
      (λ rest. c.test.ensures.exact rest c.self.inside.parts.sessions);
}
