-- What the receive of a message breaks, and what it asks.
use Rattle.std.proofs.Common.{Some, refl, sym, ◌∙◌}
use Rattle.engine_calls.proofs.Asks.{message_asked, message_faulty, message_refused, no_fault}
use Rattle.engine_calls.specs.Asks.{groups_of}
use Rattle.engine_calls.proofs.message_receives.judge_message.Goals as goal

pub returns-in-Some-clause-judged : goal.returns-in-Some-clause-judged
returns-in-Some-clause-judged c = λ rest. (
  message_refused c.args.core.now.state (groups_of c.args.communicators.now) c.args.sessions.now c.args.message
      c.args.into c.in-Some.refused (sym c.is_busy.ensures ∙ c.if-is_busy.false) (sym c.fault_of_message.ensures ∙ c.in-Some.is) rest,
  refl,
)

pub returns-in-None-clause-judged : goal.returns-in-None-clause-judged
returns-in-None-clause-judged c =
    message_asked c.args.core.now.state (groups_of c.args.communicators.now) c.args.sessions.now c.args.message
    c.args.into (sym c.is_busy.ensures ∙ c.if-is_busy.false)
    (sym c.fault_of_message.ensures ∙ sym (no_fault _ c.in_default.not-Some))
    (sym c.in-None.is ∙ c.fault_of_receive.ensures)

pub returns-in-Some-fault_of_receive-clause-judged : goal.returns-in-Some-fault_of_receive-clause-judged
returns-in-Some-fault_of_receive-clause-judged c = λ rest. (
  message_faulty c.args.core.now.state (groups_of c.args.communicators.now) c.args.sessions.now c.args.message
      c.args.into (Some c.in-Some-fault_of_receive.refused) (sym c.is_busy.ensures ∙ c.if-is_busy.false)
      (sym c.fault_of_message.ensures ∙ sym (no_fault _ c.in_default.not-Some))
      (sym c.in-Some-fault_of_receive.is ∙ c.fault_of_receive.ensures) rest,
  refl,
)
