use Rattle.proof_network_bridge.proofs.Reasons.{engines_are_ranks, engines_judge_as_the_machine}
use Rattle.proof_network_bridge.proofs.Reasons.{engines_refuse_as_the_machine, engines_take_no_fault}
use Rattle.proof_network_bridge.proofs.law.engines_refuse_as_the_machine.Goals as goal

pub returns-clause-refused : goal.returns-clause-refused
returns-clause-refused c = engines_refuse_as_the_machine

pub returns-clause-taken : goal.returns-clause-taken
returns-clause-taken c = engines_take_no_fault

pub returns-clause-judged : goal.returns-clause-judged
returns-clause-judged c = engines_judge_as_the_machine

pub returns-clause-ranks : goal.returns-clause-ranks
returns-clause-ranks c = engines_are_ranks
