-- By the eight collectives.
use Rattle.proof_collective_steps.proofs.RolesJoin.{meet}
use Rattle.proof_collective_steps.proofs.roles.roles_meet.Goals as goal

pub returns : goal.returns
returns c = meet
