use Rattle.engine.proofs.CallLaws.{stays_placed}
use Rattle.engine_calls.specs.declared.call.Call.TheVariants as calls
use Rattle.engine.proofs.engine.Engine.waitany.Goals as goal

pub returns : goal.returns
returns c =
    let i = c.self.inside in
    rw (← c.self.view_is, c.waitany.ensures.payloads)
    (c.waitany.ensures.exact (record { ended = i.ended; payloads = i.parts.core.payloads.state })
    i.parts.sessions)

pub invariant_of-self-inside : goal.invariant_of-self-inside
invariant_of-self-inside c = record {
  placed = stays_placed c.self.inside.parts _ _ (calls.Waitany c.args.list) c.waitany.result
      (λ rest. c.waitany.ensures.exact rest c.self.inside.parts.sessions);
}
