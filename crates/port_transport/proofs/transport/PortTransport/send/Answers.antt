use Rattle.std.proofs.Common.{[]}
use Rattle.port_transport.proofs.Keeping.{behind_short, named, next_from_same}
use Rattle.port_transport.proofs.Steps.{carried, from_same, none_told, on_ok}
use Rattle.port_transport.proofs.transport.PortTransport.send.Goals as goal

pub returns-in-Some-clause-passes : goal.returns-in-Some-clause-passes
returns-in-Some-clause-passes g c =
    let noted = c.note_carried in
    on_ok c.keep.result
    (λ passes. from_same g.W.Wire.did c.args.self.now noted.new.self c.keep.new.self _ [] [] noted.ensures.others.0
    noted.ensures.others.1 noted.ensures.others.2
    (named g.W.Wire.did noted.new.self c.keep.new.self c.args.target c.args.bytes.now c.in-Some.next
    c.in-Some.ensures.whole.0 c.in-Some.ensures.whole.1 passes))
    c.keep.ensures.passes

pub returns-in-Some-clause-keeps : goal.returns-in-Some-clause-keeps
returns-in-Some-clause-keeps g c =
    let noted = c.note_carried in
    on_ok c.keep.result
    (λ keeps. behind_short g.W.Wire.tells c.args.self.now c.keep.new.self c.args.target c.args.bytes.now c.in-Some.next
    c.delayed_of.result _ c.delayed_of.ensures.said c.delayed_of.ensures.whole c.in-Some.is
    (next_from_same g.W.Wire.tells c.args.self.now noted.new.self c.keep.new.self c.in-Some.next
    noted.ensures.others.0 noted.ensures.others.2 noted.ensures.others.3 noted.ensures.others.4 keeps))
    c.keep.ensures.keeps

pub returns-in-None-clause-passes : goal.returns-in-None-clause-passes
returns-in-None-clause-passes g c =
    let noted = c.note_carried in
    let none = none_told _ _ _ c.delayed_of.ensures.said c.in-None.is in
    on_ok c.carry.result
    (λ wire. from_same g.W.Wire.did c.args.self.now noted.new.self c.carry.new.self _ [] [] noted.ensures.others.0
    noted.ensures.others.1 noted.ensures.others.2
    (carried g.W.Wire.did noted.new.self c.carry.new.self c.args.target c.args.bytes.now none wire
    c.carry.ensures.others.0 c.carry.ensures.others.1))
    c.carry.ensures.wire
