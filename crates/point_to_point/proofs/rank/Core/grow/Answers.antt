-- Data that come leave the messages that were taken out.
use Rattle.point_to_point.proofs.CoreLaws.{kept_on_data}
use Rattle.point_to_point.proofs.TakenMessages.{kept_on_delivery}
use Rattle.point_to_point.proofs.rank.Core.grow.Goals as goal

pub invariant_of-self : goal.invariant_of-self
invariant_of-self c =
    rw (c.deliver.ensures, c.on_data.ensures.state)
    (kept_on_delivery _ _ _ _ (kept_on_data _ _ _ _ _ _ _ c.self.invariant) _ _)
