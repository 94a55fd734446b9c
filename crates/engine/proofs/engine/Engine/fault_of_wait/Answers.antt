use Rattle.engine.proofs.engine.Engine.fault_of_wait.Goals as goal

pub returns-clause-wait : goal.returns-clause-wait
returns-clause-wait c =
    let i = c.self.inside in
    rw (← c.self.view_is)
    (c.fault_of_wait.ensures.wait (record { ended = i.ended; payloads = i.parts.core.payloads.state })
    i.parts.sessions)

pub returns-clause-test : goal.returns-clause-test
returns-clause-test c =
    let i = c.self.inside in
    rw (← c.self.view_is)
    (c.fault_of_wait.ensures.test (record { ended = i.ended; payloads = i.parts.core.payloads.state })
    i.parts.sessions)
