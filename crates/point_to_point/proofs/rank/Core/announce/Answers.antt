-- Who announces the next transfer is a rank of the job.
use Rattle.std.proofs.Common.{ap}
use Rattle.datagram.specs.Spellings.{request_text}
use Rattle.point_to_point.specs.CoreState.{Held}
use Rattle.point_to_point.proofs.Allowances.{answerable}
use Rattle.point_to_point.proofs.rank.Core.announce.Goals as goal

pub receive_or_keep-requires-clause-answerable : goal.receive_or_keep-requires-clause-answerable
receive_or_keep-requires-clause-answerable c =
    answerable c.self.inside.place.size c.self.inside.transfers.state.numbers c.args.self.now.state.transfers.numbers
    c.args.source (request_text c.args.request) c.announced_of.result c.self.invariant.width
    (ap (λ (h : Held). h.state.transfers.numbers) c.self.view_is) c.requires.next c.announced_of.ensures
