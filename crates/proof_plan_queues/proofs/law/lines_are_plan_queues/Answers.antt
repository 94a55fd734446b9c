-- The laws of lines.
use Rattle.proof_plan_queues.proofs.LineProofs.{calls_keep_lines, messages_join_lines, receives_are_begun}
use Rattle.proof_plan_queues.proofs.LineProofs.{settling_keeps_lines, steps_are_arrivals}
use Rattle.proof_plan_queues.proofs.law.lines_are_plan_queues.Goals as goal

pub returns-clause-arrivals : goal.returns-clause-arrivals
returns-clause-arrivals c = steps_are_arrivals

pub returns-clause-messages : goal.returns-clause-messages
returns-clause-messages c = messages_join_lines

pub returns-clause-begun : goal.returns-clause-begun
returns-clause-begun c = receives_are_begun

pub returns-clause-calls : goal.returns-clause-calls
returns-clause-calls c = calls_keep_lines

pub returns-clause-settling : goal.returns-clause-settling
returns-clause-settling c = settling_keeps_lines
