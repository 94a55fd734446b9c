use Rattle.std.proofs.Common.{rules, ◌≡◌, length, ap}
use Rattle.outgoing_datagrams.specs.HandedDatagrams.{SendingState}
use Rattle.outgoing_datagrams.proofs.HandedSteps.{through}
use Rattle.outgoing_datagrams.proofs.sending.Sending.is_through.Goals as goal

pub returns : goal.returns
returns c =
    let size : c.len.result ≡ length c.self.inside.out.items = search rules in
    through c.self.inside.out.items c.args.self.now.waiting c.len.result c.self.inside.next size
    (ap (λ (s : SendingState). s.waiting) c.self.view_is)
