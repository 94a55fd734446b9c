-- The message that is received is taken out no more, and the others stay.
use Rattle.point_to_point.proofs.TakenMessages.{kept_on_receive}
use Rattle.point_to_point.proofs.rank.Core.receive_message.Goals as goal

pub invariant_of-self : goal.invariant_of-self
invariant_of-self c = rw c.receive.ensures (kept_on_receive _ _ _ _ c.self-2.invariant _ _)
