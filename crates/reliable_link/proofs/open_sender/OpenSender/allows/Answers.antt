use Rattle.std.proofs.Common.{◌+◌, arith}
use Rattle.std.proofs.lemmas.Bool.{le-leb, eqb-true, eq-eqb}
use Rattle.reliable_link.proofs.Senders.{sent_enough, sent_so_far, marks_none_beyond}
use Rattle.reliable_link.proofs.open_sender.OpenSender.allows.Goals as goal

pub returns-then-sent-ge64 : goal.returns-then-sent-ge64
returns-then-sent-ge64 c = (
  λ t. sent_enough _ _ c.args.n c.args.held (c.self.inside.lowest + c.out_of.result) c.self.view_is (omega arith)
      (omega arith) (omega arith) (omega arith),
  λ h. le-leb _ _ c.if-sent-ge64.true,
)

pub returns-else-sent-ge64 : goal.returns-else-sent-ge64
returns-else-sent-ge64 c = (
  λ t. sent_so_far _ _ c.args.n c.args.held (c.self.inside.lowest + c.out_of.result) c.self.view_is (omega arith)
      (omega arith) (eqb-true _ _ t),
  λ h. eq-eqb _ _ (marks_none_beyond _ _ c.args.n c.args.held (c.self.inside.lowest + c.out_of.result) c.self.view_is
      (omega arith) h),
)
