use Rattle.engine.proofs.engine.Engine.fault_of_list.Goals as goal

pub returns-clause-any : goal.returns-clause-any
returns-clause-any c =
    let i = c.self.inside in
    rw (← c.self.view_is)
    (c.fault_of_list.ensures.any (record { ended = i.ended; payloads = i.parts.core.payloads.state })
    i.parts.sessions)

pub returns-clause-all : goal.returns-clause-all
returns-clause-all c =
    let i = c.self.inside in
    rw (← c.self.view_is)
    (c.fault_of_list.ensures.all (record { ended = i.ended; payloads = i.parts.core.payloads.state })
    i.parts.sessions)
