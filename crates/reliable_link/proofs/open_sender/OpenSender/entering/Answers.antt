use Rattle.std.proofs.Common.{arith}
use Rattle.reliable_link.proofs.Senders.{entering_end, nothing_enters}
use Rattle.reliable_link.proofs.open_sender.OpenSender.entering.Goals as goal

pub returns-then-n-self-clause-end : goal.returns-then-n-self-clause-end
returns-then-n-self-clause-end c =
    nothing_enters _ _ c.args.n c.out_of.result c.self.view_is (omega arith) (omega arith)

pub returns-clause-end : goal.returns-clause-end
returns-clause-end c = entering_end _ _ c.args.n c.out_of-2.result c.self.view_is (omega arith) c.requires (omega arith)
