use Rattle.launch_plan.proofs.FaultLaws.{faults_stay}
use Rattle.launch_plan.proofs.planning.first_fault_stays.Goals as goal

pub returns : goal.returns
returns c = faults_stay
