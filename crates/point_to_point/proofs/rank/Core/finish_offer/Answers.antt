-- PROOF, and for speed: the goals answered by `search rules` are proved without this file, too.
use Rattle.std.proofs.Common.{rules}
use Rattle.point_to_point.proofs.CoreLaws.{kept_on_cts}
use Rattle.point_to_point.proofs.TakenMessages.{kept_on_answer}
use Rattle.point_to_point.proofs.rank.Core.finish_offer.Goals as goal

pub on_cts-requires : goal.on_cts-requires
on_cts-requires c = search rules

pub finish_send-requires : goal.finish_send-requires
finish_send-requires c = search rules

pub drop-offer-requires : goal.drop-offer-requires
drop-offer-requires c = search rules

pub invariant_of-self : goal.invariant_of-self
invariant_of-self c =
    rw (c.finish_send.ensures, c.on_cts.ensures.state)
    (kept_on_answer _ _ _ _ (kept_on_cts _ _ _ _ _ _ c.self.invariant) _)

pub invariant_of-self-in_default : goal.invariant_of-self-in_default
invariant_of-self-in_default c = rw c.on_cts.ensures.state (kept_on_cts _ _ _ _ _ _ c.self.invariant)

pub returns-in-Some-clause-exact : goal.returns-in-Some-clause-exact
returns-in-Some-clause-exact c = search rules

pub returns-in-Some-clause-placed : goal.returns-in-Some-clause-placed
returns-in-Some-clause-placed c = search rules

pub returns-in_default-clause-exact : goal.returns-in_default-clause-exact
returns-in_default-clause-exact c = search rules

pub returns-in_default-clause-placed : goal.returns-in_default-clause-placed
returns-in_default-clause-placed c = search rules
