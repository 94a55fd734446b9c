use Rattle.reliable_link.proofs.Fresh.{stands}
use Rattle.reliable_link.proofs.open_sender.OpenSender.stands_at.Goals as goal

pub returns-then-now-self : goal.returns-then-now-self
returns-then-now-self c = λ t. stands _ _ c.args.now c.self.view_is c.if-now-self.true _ t c.self.invariant
