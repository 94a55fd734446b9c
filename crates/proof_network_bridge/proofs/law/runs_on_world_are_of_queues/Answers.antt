use Rattle.proof_network_bridge.proofs.WorldRuns.{runs_on_world_are_of_queues}
use Rattle.proof_network_bridge.proofs.law.runs_on_world_are_of_queues.Goals as goal

pub returns : goal.returns
returns c = runs_on_world_are_of_queues
