use Rattle.std.proofs.Common.{[], refl}
use Rattle.port_transport.proofs.PortSteps.{passes_joined}
use Rattle.port_transport.proofs.Steps.{from_same, goes, on_ok, stays}
use Rattle.port_transport.proofs.transport.PortTransport.wait.Goals as goal

pub returns-clause-passes : goal.returns-clause-passes
returns-clause-passes g c =
    let asked = c.has_carried in
    let soon = c.comes_soon.ensures in
    let flush = c.flush in
    on_ok flush.result
    (λ wire. from_same g.W.Wire.did c.args.self.now asked.new.self flush.new.self [] [] [] asked.ensures.others.0
    asked.ensures.others.1 asked.ensures.others.2
    (passes_joined g.W.Wire.did g.met.W.Wire.joined asked.new.self c.comes_soon.new.self flush.new.self [] [] [] [] []
    []
    (stays g.W.Wire.did asked.new.self c.comes_soon.new.self [] [] [] soon.wire soon.others.0 soon.others.1 refl refl
    refl)
    (goes g.W.Wire.did c.comes_soon.new.self flush.new.self flush.ensures.is wire flush.ensures.others.0
    flush.ensures.none)))
    flush.ensures.wire
