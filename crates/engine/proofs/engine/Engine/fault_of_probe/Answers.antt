use Rattle.engine.proofs.engine.Engine.fault_of_probe.Goals as goal

pub returns : goal.returns
returns c =
    rw (← c.self.view_is)
    (c.fault_of_look.ensures (record { ended = c.self.inside.ended; payloads = c.self.inside.parts.core.payloads.state }))
