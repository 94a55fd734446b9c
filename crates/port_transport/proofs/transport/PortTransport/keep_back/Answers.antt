use Rattle.std.proofs.Common.{sym, subst}
use Rattle.port_transport.proofs.Keeping.{delay_from_same, next_delay}
use Rattle.port_transport.proofs.Steps.{on_ok, puts}
use Rattle.port_transport.specs.Ports.{IsDelayOfNext}
use Rattle.port_transport.proofs.transport.PortTransport.keep_back.Goals as goal

pub returns-clause-passes : goal.returns-clause-passes
returns-clause-passes g c =
    let taken = c.take_kept-former in
    let before = c.sent_before-leaves in
    on_ok c.put.result
    (λ wire. puts g.W.Wire.did c.args.self.now taken.new.self c.put.new.self taken.result before.result c.args.next
    taken.ensures.value taken.ensures.is c.requires before.ensures.lost before.ensures.other taken.ensures.others.0
    taken.ensures.others.1 wire c.put.ensures.others.0 c.put.ensures.kept.0)
    c.put.ensures.wire

pub returns-clause-delay : goal.returns-clause-delay
returns-clause-delay g c =
    let taken = c.take_kept-former in
    let before = c.sent_before-leaves in
    let delay = c.delay_behind-delay in
    let tells = g.W.Wire.tells in
    let old = c.args.self.now in
    let said = c.args.next.said in
    subst (λ d. IsDelayOfNext (tells old.wire) old.kept old.delay said d) (sym c.put.ensures.kept.1)
    (delay_from_same tells taken.new.self.wire old.wire taken.result old.kept taken.new.self.delay old.delay said
    delay.result taken.ensures.others.0 taken.ensures.value taken.ensures.others.2
    (next_delay (tells taken.new.self.wire) taken.result before.result c.args.next taken.new.self.delay delay.result
    before.ensures.lost before.ensures.covered delay.ensures.goes_on delay.ensures.begins))
