use Rattle.engine_calls.proofs.Looks.{looking_gives, looking_refused}
use Rattle.engine.specs.Parts.{engine_with}
use Rattle.engine.proofs.engine.Engine.iprobe.Goals as goal

pub returns-in-Ok : goal.returns-in-Ok
returns-in-Ok c =
    let i = c.self.inside in
    rw (← c.self.view_is)
    (looking_gives (engine_with i.parts i.ended) c.args.probe c.in-Ok.found
    (c.in-Ok.ensures (record { ended = i.ended; payloads = i.parts.core.payloads.state })))

pub returns-in-Err : goal.returns-in-Err
returns-in-Err c =
    let i = c.self.inside in
    rw (← c.self.view_is)
    (looking_refused (engine_with i.parts i.ended) c.args.probe
    c.in-Err.refused
    (c.in-Err.ensures (record { ended = i.ended; payloads = i.parts.core.payloads.state })))
