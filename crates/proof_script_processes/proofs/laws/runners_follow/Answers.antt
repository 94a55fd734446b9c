use Rattle.proof_script_processes.proofs.ProcessViews.{runners_follow, starts_follow}
use Rattle.proof_script_processes.proofs.laws.runners_follow.Goals as goal

pub returns-clause-start : goal.returns-clause-start
returns-clause-start c = starts_follow

pub returns-clause-on : goal.returns-clause-on
returns-clause-on c = runners_follow
