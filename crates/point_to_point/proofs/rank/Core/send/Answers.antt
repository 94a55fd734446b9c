-- What a send offers goes to a rank of the job, and is within the limit of a message.
use Rattle.std.proofs.Common.{sym, ◌∙◌}
use Rattle.point_to_point.proofs.FaultlessCalls.{allowed_send, offer_is_there, offer_is_within}
use Rattle.point_to_point.proofs.rank.Core.send.Goals as goal

pub offer-requires-clause-there : goal.offer-requires-clause-there
offer-requires-clause-there c =
    offer_is_there c.args.self.now.state c.args.send.routed c.in-Some.rank (allowed_send _ _ c.requires.allowed)
    (sym c.requires.addressed.announced_is ∙ c.in-Some.is)

pub offer-requires-clause-limit : goal.offer-requires-clause-limit
offer-requires-clause-limit c =
    offer_is_within c.args.self.now.state c.args.send.routed c.into_elements-elements.result
    (allowed_send _ _ c.requires.allowed) c.into_elements-elements.ensures
