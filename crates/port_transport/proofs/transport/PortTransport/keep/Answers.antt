use Rattle.std.proofs.Common.{[], ◌∷◌}
use Rattle.port_transport.proofs.PortSteps.{passes_joined}
use Rattle.port_transport.specs.Wires.{Parcel}
use Rattle.port_transport.proofs.Steps.{from_same, goes, goes_or_stays, on_ok}
use Rattle.port_transport.proofs.transport.PortTransport.keep.Goals as goal

pub returns-then-is_urgent-clause-passes : goal.returns-then-is_urgent-clause-passes
returns-then-is_urgent-clause-passes g c =
    let asked = c.is_urgent_now-is_urgent in
    let parcel : Parcel = (c.args.next.target, c.args.next.bytes) in
    on_ok c.flush.result
    (λ wire. passes_joined g.W.Wire.did g.met.W.Wire.joined c.args.self.now c.keep_back.new.self c.flush.new.self
    (parcel ∷ []) [] [] [] [] []
    (from_same g.W.Wire.did c.args.self.now asked.new.self c.keep_back.new.self (parcel ∷ []) [] []
    asked.ensures.others.0 asked.ensures.others.1 asked.ensures.others.2 c.in_ok-keep_back.ensures.passes)
    (goes g.W.Wire.did c.keep_back.new.self c.flush.new.self c.flush.ensures.is wire c.flush.ensures.others.0
    c.flush.ensures.none))
    c.flush.ensures.wire

pub returns-clause-passes : goal.returns-clause-passes
returns-clause-passes g c =
    let asked = c.is_urgent_now-is_urgent in
    let parcel : Parcel = (c.args.next.target, c.args.next.bytes) in
    on_ok c.flush_if_over.result
    (λ either. passes_joined g.W.Wire.did g.met.W.Wire.joined c.args.self.now c.keep_back.new.self
    c.flush_if_over.new.self (parcel ∷ []) [] [] [] [] []
    (from_same g.W.Wire.did c.args.self.now asked.new.self c.keep_back.new.self (parcel ∷ []) [] []
    asked.ensures.others.0 asked.ensures.others.1 asked.ensures.others.2 c.in_ok-keep_back.ensures.passes)
    (goes_or_stays g.W.Wire.did c.keep_back.new.self c.flush_if_over.new.self c.flush_if_over.ensures.is either))
    c.flush_if_over.ensures.wire
