use Rattle.std.proofs.Common.{sym, ap, ◌∙◌, arith}
use Rattle.reliable_link.specs.SenderState.{SenderState, with_marks}
use Rattle.reliable_link.proofs.Senders.{is_late, is_noted, room_for_marks}
use Rattle.reliable_link.proofs.open_sender.OpenSender.on_ack.Goals as goal

pub mark-requires : goal.mark-requires
mark-requires c =
    rw c.pass.ensures
    (room_for_marks c.args.self.now c.args.n c.args.held
    (omega (arith, ap (λ (s : SenderState). s.lowest) c.self.view_is)) (c.allows.ensures.0 c.if-not-allows.false))

pub returns-then-n-self-clause-state : goal.returns-then-n-self-clause-state
returns-then-n-self-clause-state c = c.mark.ensures ∙ ap (with_marks c.args.held) c.pass.ensures ∙
    sym (is_noted c.args.self.now c.args.n c.args.held
    (omega (arith, ap (λ (s : SenderState). s.lowest) c.self.view_is)))

pub returns-else-n-self-clause-state : goal.returns-else-n-self-clause-state
returns-else-n-self-clause-state c =
    sym (is_late c.args.self.now c.args.n c.args.held
    (omega (arith, ap (λ (s : SenderState). s.lowest) c.self.view_is)))
