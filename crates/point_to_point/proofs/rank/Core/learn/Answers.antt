-- What is left is kept as all was.
use Rattle.point_to_point.proofs.CoreLaws.{kept_on_drop}
use Rattle.point_to_point.proofs.TakenMessages.{kept_on_replaces}
use Rattle.point_to_point.proofs.rank.Core.learn.Goals as goal

pub invariant_of-self : goal.invariant_of-self
invariant_of-self c =
    rw (c.replace_each.ensures, c.drop_from.ensures.state, c.drop_from-in-Some.ensures.state)
    (kept_on_replaces _ _ _ _ (kept_on_drop _ _ _ _ _ _ c.self.invariant) c.deref.result.now)
