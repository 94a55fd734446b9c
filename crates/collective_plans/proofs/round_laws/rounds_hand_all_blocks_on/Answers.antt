-- The laws of rounds.
use Rattle.collective_plans.proofs.BruckProofs.{round_allgather_gives, round_alltoall_gives}
use Rattle.collective_plans.proofs.round_laws.rounds_hand_all_blocks_on.Goals as goal

pub returns-clause-allgather : goal.returns-clause-allgather
returns-clause-allgather c = round_allgather_gives

pub returns-clause-alltoall : goal.returns-clause-alltoall
returns-clause-alltoall c = round_alltoall_gives
