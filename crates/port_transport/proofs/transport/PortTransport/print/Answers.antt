use Rattle.std.proofs.Common.{[], ◌∷◌, refl}
use Rattle.port_transport.proofs.PortSteps.{passes_joined}
use Rattle.port_transport.specs.declared.wire.WireEvent.TheVariants.{Wrote}
use Rattle.port_transport.specs.Ports.{with_end}
use Rattle.port_transport.proofs.Steps.{goes, on_ok, stays}
use Rattle.port_transport.proofs.transport.PortTransport.print.Goals as goal

pub returns-in-Ok-clause-passes : goal.returns-in-Ok-clause-passes
returns-in-Ok-clause-passes g c =
    let line = c.args.line.now in
    on_ok c.write_line.result
    (λ wire. passes_joined g.W.Wire.did g.met.W.Wire.joined c.args.self.now c.flush.new.self c.write_line.new.self [] [] []
    [] [] (line ∷ [])
    (goes g.W.Wire.did c.args.self.now c.flush.new.self c.flush.ensures.is c.in-Ok.ensures.wire c.flush.ensures.others.0
    c.flush.ensures.none)
    (stays g.W.Wire.did c.flush.new.self c.write_line.new.self (Wrote (with_end line) ∷ []) [] (line ∷ []) wire
    c.write_line.ensures.others.0 c.write_line.ensures.others.1 refl refl refl))
    c.write_line.ensures.wire
