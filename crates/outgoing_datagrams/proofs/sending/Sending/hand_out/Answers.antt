use Rattle.std.proofs.Common.{rules, ◌≡◌, subst}
use Rattle.std.specs.Prelude.{None, max}
use Rattle.outgoing_datagrams.specs.HandedDatagrams.{HandsOn, kept_in}
use Rattle.outgoing_datagrams.proofs.HandedSteps.{none_out, out_run}
use Rattle.outgoing_datagrams.proofs.sending.Sending.hand_out.Goals as goal

pub returns-clause-went : goal.returns-clause-went
returns-clause-went c =
    let s = c.args.self.now in
    let m = c.pass_all.new.self in
    let none : c.pass_all.result ≡ None = search rules in
    out_run s m c.put_next-run.new.self c.args.most c.put_next-run.result c.tell_of.new.outgoing c.args.into.now
    c.put_next-run.new.into
    (subst (λ o. HandsOn s.kept s.waiting (kept_in o) m.kept m.waiting) none c.pass_all.ensures.hands)
    c.pass_all.ensures.time (c.pass_all.ensures.none none) c.put_next-run.ensures.run c.put_next-run.ensures.rest
    c.tell_of.ensures.count c.tell_of.ensures.each c.pass_all.ensures.keeps

pub returns-clause-stays : goal.returns-clause-stays
returns-clause-stays c = λ empty.
    none_out c.args.self.now c.pass_all.new.self c.put_next-run.new.self (max c.args.most 1) c.put_next-run.result
    c.tell_of.new.outgoing c.args.into.now c.put_next-run.new.into (c.pass_all.ensures.stays empty).1 empty
    c.put_next-run.ensures.run c.put_next-run.ensures.rest c.tell_of.ensures.count.0
