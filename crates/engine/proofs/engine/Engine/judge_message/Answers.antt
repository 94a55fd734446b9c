use Rattle.std.proofs.Common.{sym, ap}
use Rattle.requests.specs.declared.region.Region.{Region}
use Rattle.engine_calls.specs.declared.call.Call.TheVariants as calls
use Rattle.engine.proofs.engine.Engine.judge_message.Goals as goal

pub returns-in-Ok-clause-fault : goal.returns-in-Ok-clause-fault
returns-in-Ok-clause-fault c =
    let i = c.self.inside in
    rw (← c.self.view_is)
    (sym (c.in-Ok.ensures.judged (record { ended = i.ended; payloads = i.parts.core.payloads.state })).allowed)

pub returns-in-Ok-clause-back : goal.returns-in-Ok-clause-back
returns-in-Ok-clause-back c =
    let i = c.self.inside in
    (c.in-Ok.ensures.judged (record { ended = i.ended; payloads = i.parts.core.payloads.state })).back

pub returns-in-Err-clause-fault : goal.returns-in-Err-clause-fault
returns-in-Err-clause-fault c =
    let i = c.self.inside in
    rw (← c.self.view_is)
    (sym (c.in-Err.ensures.judged (record { ended = i.ended; payloads = i.parts.core.payloads.state })).0)

pub returns-in-Err-clause-back : goal.returns-in-Err-clause-back
returns-in-Err-clause-back c =
    let i = c.self.inside in
    let same = c.in-Err.ensures.judged (record { ended = i.ended; payloads = i.parts.core.payloads.state }) in
    ap (λ (v : Region). calls.Mrecv c.args.message v) same.1
