use Rattle.std.proofs.Common.{refl, arith}
use Rattle.std.proofs.lemmas.Bool.{ltb-true}
use Rattle.reliable_link.proofs.Senders.{ticked}
use Rattle.reliable_link.proofs.Fresh.{unticked, kept_ticked}
use Rattle.reliable_link.proofs.open_sender.OpenSender.mark_sent.Goals as goal

pub returns : goal.returns
returns c = ticked _ _ _ c.args.now _ c.self.view_is refl c.mark_due.ensures

pub returns-then-self : goal.returns-then-self
returns-then-self c = unticked _ _ c.args.now c.self.view_is c.if-now-self.true _ c.if-self.true c.self.invariant

pub invariant_of-self : goal.invariant_of-self
invariant_of-self c =
    kept_ticked c.self.inside.wait c.self.inside.lowest c.args.now _ _ c.self.inside.frames _ (λ t. ltb-true _ _ t)
    c.mark_due.ensures refl (omega arith)
