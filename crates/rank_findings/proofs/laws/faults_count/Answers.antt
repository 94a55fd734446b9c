use Rattle.rank_findings.proofs.Weights.{faults_are_wrong}
use Rattle.rank_findings.proofs.laws.faults_count.Goals as goal

pub returns-clause-faults : goal.returns-clause-faults
returns-clause-faults c = faults_are_wrong
