use Rattle.engine.proofs.CallLaws.{stays_placed}
use Rattle.engine_calls.specs.declared.call.Call.TheVariants as calls
use Rattle.engine.proofs.engine.Engine.cancel.Goals as goal

pub returns : goal.returns
returns c =
    let i = c.self.inside in
    rw (← c.self.view_is, c.cancel.ensures.payloads)
    (c.cancel.ensures.exact (record { ended = i.ended; payloads = i.parts.core.payloads.state })
    i.parts.sessions)

pub invariant_of-self-inside : goal.invariant_of-self-inside
invariant_of-self-inside c = record {
  placed = stays_placed c.self.inside.parts _ _ (calls.Cancel c.args.request) c.cancel.result
      (λ rest. c.cancel.ensures.exact rest c.self.inside.parts.sessions);
}
