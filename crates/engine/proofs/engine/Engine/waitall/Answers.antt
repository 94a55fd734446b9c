use Rattle.engine.proofs.CallLaws.{stays_placed}
use Rattle.engine_calls.specs.declared.call.Call.TheVariants as calls
use Rattle.engine.proofs.engine.Engine.waitall.Goals as goal

pub returns : goal.returns
returns c =
    let i = c.self.inside in
    rw (← c.self.view_is, c.waitall.ensures.payloads)
    (c.waitall.ensures.exact (record { ended = i.ended; payloads = i.parts.core.payloads.state })
    i.parts.sessions)

pub invariant_of-self-inside : goal.invariant_of-self-inside
invariant_of-self-inside c = record {
  placed = stays_placed c.self.inside.parts _ _ (calls.Waitall c.args.list) c.waitall.result
      (λ rest. c.waitall.ensures.exact rest c.self.inside.parts.sessions);
}
