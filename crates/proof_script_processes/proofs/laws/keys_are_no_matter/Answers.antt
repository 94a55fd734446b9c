use Rattle.proof_script_processes.proofs.NextSteps.{keys_are_no_matter, requests_are_handed_on}
use Rattle.proof_script_processes.proofs.laws.keys_are_no_matter.Goals as goal

pub returns-clause-any : goal.returns-clause-any
returns-clause-any c = requests_are_handed_on

pub returns-clause-keys : goal.returns-clause-keys
returns-clause-keys c = keys_are_no_matter
