use Rattle.rank_findings.proofs.Statuses.{runs_give_statuses}
use Rattle.rank_findings.proofs.laws.statuses_tell_of_runs.Goals as goal

pub returns : goal.returns
returns c = runs_give_statuses
