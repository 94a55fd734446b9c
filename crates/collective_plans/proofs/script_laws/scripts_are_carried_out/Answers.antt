-- The laws of scripts.
use Rattle.collective_plans.proofs.ScriptProofs.{scripts_are_played}
use Rattle.collective_plans.proofs.EnteringProofs.{goes_without_data, nothing_of_the_absent}
use Rattle.collective_plans.proofs.TreeProofs.{tree_allreduce_gives, tree_broadcast_gives, tree_reduce_gives}
use Rattle.collective_plans.proofs.BarrierProofs.{barrier_waits}
use Rattle.collective_plans.proofs.OrderedProofs.{ordered_allreduce_gives, ordered_reduce_gives}
use Rattle.collective_plans.proofs.script_laws.scripts_are_carried_out.Goals as goal

pub returns-clause-played : goal.returns-clause-played
returns-clause-played c = scripts_are_played

pub returns-clause-absent : goal.returns-clause-absent
returns-clause-absent c = nothing_of_the_absent

pub returns-clause-dataless : goal.returns-clause-dataless
returns-clause-dataless c = goes_without_data

pub returns-clause-broadcast : goal.returns-clause-broadcast
returns-clause-broadcast c = tree_broadcast_gives

pub returns-clause-reduce : goal.returns-clause-reduce
returns-clause-reduce c = tree_reduce_gives

pub returns-clause-allreduce : goal.returns-clause-allreduce
returns-clause-allreduce c = tree_allreduce_gives

pub returns-clause-barrier : goal.returns-clause-barrier
returns-clause-barrier c = barrier_waits

pub returns-clause-ordered_reduce : goal.returns-clause-ordered_reduce
returns-clause-ordered_reduce c = ordered_reduce_gives

pub returns-clause-ordered_allreduce : goal.returns-clause-ordered_allreduce
returns-clause-ordered_allreduce c = ordered_allreduce_gives
