use Rattle.std.proofs.Common.{sym, ap}
use Rattle.point_to_point_calls.specs.declared.call.Send.{Send}
use Rattle.engine_calls.specs.declared.call.Call.TheVariants as calls
use Rattle.engine.proofs.engine.Engine.judge_send.Goals as goal

pub returns-in-Ok-clause-fault : goal.returns-in-Ok-clause-fault
returns-in-Ok-clause-fault c =
    let i = c.self.inside in
    rw (← c.self.view_is)
    (sym (c.in-Ok.ensures (record { ended = i.ended; payloads = i.parts.core.payloads.state })).0.allowed)

pub returns-in-Ok-clause-back : goal.returns-in-Ok-clause-back
returns-in-Ok-clause-back c =
    let i = c.self.inside in
    (c.in-Ok.ensures (record { ended = i.ended; payloads = i.parts.core.payloads.state })).0.back

pub returns-in-Err-clause-fault : goal.returns-in-Err-clause-fault
returns-in-Err-clause-fault c =
    let i = c.self.inside in
    rw (← c.self.view_is)
    (sym (c.in-Err.ensures (record { ended = i.ended; payloads = i.parts.core.payloads.state })).0)

pub returns-in-Err-clause-back : goal.returns-in-Err-clause-back
returns-in-Err-clause-back c =
    let i = c.self.inside in
    let same = c.in-Err.ensures (record { ended = i.ended; payloads = i.parts.core.payloads.state }) in
    ap (λ (v : Send). calls.Isend v) same.1
