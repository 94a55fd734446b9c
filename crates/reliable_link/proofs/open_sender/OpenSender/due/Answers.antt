use Rattle.std.proofs.Common.{◌∙◌}
use Rattle.reliable_link.proofs.Fresh.{none_due}
use Rattle.reliable_link.proofs.open_sender.OpenSender.due.Goals as goal

pub returns-then-self-clause-due : goal.returns-then-self-clause-due
returns-then-self-clause-due c =
    c.new.ensures.items ∙ none_due _ _ c.args.now c.self.view_is c.if-now-self-2.true _ c.if-self.true c.self.invariant
