use Rattle.port_transport.proofs.Steps.{goes, on_ok}
use Rattle.port_transport.proofs.transport.PortTransport.finish.Goals as goal

pub returns-clause-passes : goal.returns-clause-passes
returns-clause-passes g c =
    on_ok c.flush.result
    (λ wire. goes g.W.Wire.did c.args.self.now c.flush.new.self c.flush.ensures.is wire c.flush.ensures.others.0
    c.flush.ensures.none)
    c.flush.ensures.wire
