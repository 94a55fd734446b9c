-- A send that ends holds no message.
use Rattle.point_to_point.proofs.TakenMessages.{kept_on_answer}
use Rattle.point_to_point.proofs.rank.Core.finish_own.Goals as goal

pub invariant_of-self : goal.invariant_of-self
invariant_of-self c = rw c.finish_send.ensures (kept_on_answer _ _ _ _ c.self.invariant _)
