use Rattle.std.proofs.Common.{[], refl}
use Rattle.port_transport.proofs.PortSteps.{passes_joined}
use Rattle.port_transport.proofs.Steps.{goes, on_ok, stays}
use Rattle.port_transport.proofs.transport.PortTransport.flush_and_sleep.Goals as goal

pub returns-clause-passes : goal.returns-clause-passes
returns-clause-passes g c =
    on_ok c.sleep.result
    (λ wire. passes_joined g.W.Wire.did g.met.W.Wire.joined c.args.self.now c.flush.new.self c.sleep.new.self [] [] [] [] []
    []
    (goes g.W.Wire.did c.args.self.now c.flush.new.self c.flush.ensures.is c.in_ok-flush.ensures.wire
    c.flush.ensures.others.0 c.flush.ensures.none)
    (stays g.W.Wire.did c.flush.new.self c.sleep.new.self [] [] [] wire c.sleep.ensures.others.0 c.sleep.ensures.others.1
    refl refl refl))
    c.sleep.ensures.wire
