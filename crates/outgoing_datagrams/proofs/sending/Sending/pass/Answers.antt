use Rattle.std.proofs.Common.{rules}
use Rattle.outgoing_datagrams.proofs.KeptSteps.{keeps_passed}
use Rattle.outgoing_datagrams.proofs.sending.Sending.pass.Goals as goal

pub returns-in-None-clause-keeps : goal.returns-in-None-clause-keeps
returns-in-None-clause-keeps c =
    keeps_passed c.args.self.now c.give_way.new.self c.pass_next.new.self c.pass_next.result c.args.next c.requires.next
    c.requires.is (c.give_way.ensures.stays (search rules)).0 c.pass_next.ensures.waiting c.pass_next.ensures.kept
    c.pass_next.ensures.urgent c.pass_next.ensures.over c.pass_next.ensures.last c.pass_next.ensures.since
    c.pass_next.ensures.many
