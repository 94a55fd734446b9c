-- PROOF, and for speed: the goals answered by `search rules` are proved without this file, too.
use Rattle.std.proofs.Common.{rules}
use Rattle.point_to_point.proofs.CoreLaws.{kept_on_withdrawal}
use Rattle.point_to_point.proofs.TakenMessages.{kept_on_cancel}
use Rattle.point_to_point.proofs.rank.Core.cancel.Goals as goal

pub cancel-requires : goal.cancel-requires
cancel-requires c = search rules

pub invariant_of-self : goal.invariant_of-self
invariant_of-self c = rw c.cancel.ensures.exact (kept_on_cancel _ _ _ _ c.self.invariant _)

pub cancel-requires-2 : goal.cancel-requires-2
cancel-requires-2 c = search rules

pub invariant_of-self-2 : goal.invariant_of-self-2
invariant_of-self-2 c =
    rw (c.cancel.ensures.exact, c.cancel-2.ensures.state)
    (kept_on_cancel _ _ _ _ (kept_on_withdrawal _ _ _ _ _ c.self.invariant) _)

pub returns-then-cancel-clause-exact : goal.returns-then-cancel-clause-exact
returns-then-cancel-clause-exact c = search rules

pub returns-then-cancel-clause-placed : goal.returns-then-cancel-clause-placed
returns-then-cancel-clause-placed c = search rules

pub returns-in_default-clause-exact : goal.returns-in_default-clause-exact
returns-in_default-clause-exact c = search rules

pub returns-in_default-clause-placed : goal.returns-in_default-clause-placed
returns-in_default-clause-placed c = search rules
