-- The laws stand.
use Rattle.proof_queue_calls.proofs.CallFaults.{judged_alike, of_both_halves}
use Rattle.proof_queue_calls.proofs.law.calls_are_of_both_halves.Goals as goal

pub returns-clause-judged : goal.returns-clause-judged
returns-clause-judged c = judged_alike

pub returns-clause-fault : goal.returns-clause-fault
returns-clause-fault c = of_both_halves
