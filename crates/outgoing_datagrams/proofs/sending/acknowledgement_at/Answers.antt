use Rattle.std.proofs.Common.{rules, ◌<◌, length}
use Rattle.outgoing_datagrams.proofs.HandedSteps.{read_at}
use Rattle.outgoing_datagrams.proofs.RunSteps.{at_place}
use Rattle.outgoing_datagrams.proofs.sending.acknowledgement_at.Goals as goal

pub returns-clause-next : goal.returns-clause-next
returns-clause-next c =
    let d = c.index-list-place.result in
    let within : c.args.place < length c.args.list.now = search rules in
    read_at c.args.list.now c.args.place d c.as_slice.result.now c.delayed_of.result
    (at_place c.args.list.now c.args.place d within c.index-list-place.is)
    c.as_slice.ensures c.delayed_of.ensures.said c.delayed_of.ensures.whole
