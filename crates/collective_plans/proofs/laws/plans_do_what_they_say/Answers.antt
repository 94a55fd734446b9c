-- The laws of plans.
use Rattle.collective_plans.proofs.RunProofs.{no_one_waits_for_who_waits, runs_are_meant}
use Rattle.collective_plans.proofs.ExchangeProofs.{allgather_gives, alltoall_gives, exchanges_go_on, in_place_gives}
use Rattle.collective_plans.proofs.ExchangeProofs.{reduce_scatter_gives}
use Rattle.collective_plans.proofs.ChainProofs.{ahead_gives, exscan_gives, scan_gives, scan_in_place_gives}
use Rattle.collective_plans.proofs.StarProofs.{gather_gives, scatter_gives}
use Rattle.collective_plans.proofs.laws.plans_do_what_they_say.Goals as goal

pub returns-clause-meant : goal.returns-clause-meant
returns-clause-meant c = runs_are_meant

pub returns-clause-waits : goal.returns-clause-waits
returns-clause-waits c = no_one_waits_for_who_waits

pub returns-clause-exchanges : goal.returns-clause-exchanges
returns-clause-exchanges c = exchanges_go_on

pub returns-clause-alltoall : goal.returns-clause-alltoall
returns-clause-alltoall c = alltoall_gives

pub returns-clause-allgather : goal.returns-clause-allgather
returns-clause-allgather c = allgather_gives

pub returns-clause-reduce_scatter : goal.returns-clause-reduce_scatter
returns-clause-reduce_scatter c = reduce_scatter_gives

pub returns-clause-scan : goal.returns-clause-scan
returns-clause-scan c = scan_gives

pub returns-clause-ahead : goal.returns-clause-ahead
returns-clause-ahead c = ahead_gives

pub returns-clause-in_place : goal.returns-clause-in_place
returns-clause-in_place c = in_place_gives

pub returns-clause-gather : goal.returns-clause-gather
returns-clause-gather c = gather_gives

pub returns-clause-scatter : goal.returns-clause-scatter
returns-clause-scatter c = scatter_gives

pub returns-clause-scan_in_place : goal.returns-clause-scan_in_place
returns-clause-scan_in_place c = scan_in_place_gives

pub returns-clause-exscan : goal.returns-clause-exscan
returns-clause-exscan c = exscan_gives
