-- By what is known of those for whom the rank waits.
use Rattle.proof_collective_steps.proofs.Relays.{relays_follow, warnings_follow}
use Rattle.proof_collective_steps.proofs.Verdicts as proofs
use Rattle.proof_collective_steps.proofs.Words.{words_follow}
use Rattle.proof_collective_steps.proofs.verdict_law.verdicts_follow.Goals as goal

pub returns-clause-verdicts : goal.returns-clause-verdicts
returns-clause-verdicts c = proofs.verdicts_follow

pub returns-clause-warnings : goal.returns-clause-warnings
returns-clause-warnings c = warnings_follow

pub returns-clause-relays : goal.returns-clause-relays
returns-clause-relays c = relays_follow

pub returns-clause-words : goal.returns-clause-words
returns-clause-words c = words_follow
