use Rattle.std.proofs.Common.{[], refl}
use Rattle.port_transport.proofs.PortSteps.{passes_joined}
use Rattle.port_transport.specs.Ports.{received_in}
use Rattle.port_transport.specs.Wires.{arrived}
use Rattle.port_transport.proofs.Steps.{goes_or_stays, none_gone, none_written, stays}
use Rattle.port_transport.proofs.transport.PortTransport.receive.Goals as goal

pub returns-clause-passes : goal.returns-clause-passes
returns-clause-passes g c =
    let found = c.in_ok-found.found in
    let buffer = c.take_in.new.buffer in
    passes_joined g.W.Wire.did g.met.W.Wire.joined c.args.self.now c.begin_receive.new.self c.take_in.new.self [] [] []
    (received_in found buffer) [] []
    (goes_or_stays g.W.Wire.did c.args.self.now c.begin_receive.new.self c.begin_receive.ensures.is
    c.in_ok-begin_receive.ensures.wire)
    (stays g.W.Wire.did c.begin_receive.new.self c.take_in.new.self (arrived found buffer) (received_in found buffer) []
    c.in_ok-found.ensures.wire c.take_in.ensures.others.0 c.take_in.ensures.others.1 (none_gone found buffer) refl
    (none_written found buffer))
