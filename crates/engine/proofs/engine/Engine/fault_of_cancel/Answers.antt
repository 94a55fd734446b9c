use Rattle.engine.proofs.engine.Engine.fault_of_cancel.Goals as goal

pub returns : goal.returns
returns c =
    let i = c.self.inside in
    rw (← c.self.view_is)
    (c.fault_of_cancel.ensures (record { ended = i.ended; payloads = i.parts.core.payloads.state })
    i.parts.sessions)
