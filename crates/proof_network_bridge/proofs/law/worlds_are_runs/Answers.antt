use Rattle.proof_network_bridge.proofs.WorldLaws.{calls_follow, datagrams_follow, following_is_run, opening_follows}
use Rattle.proof_network_bridge.proofs.WorldLaws.{refusals_follow, restarts_follow, ticks_follow}
use Rattle.proof_network_bridge.proofs.law.worlds_are_runs.Goals as goal

pub returns-clause-opening : goal.returns-clause-opening
returns-clause-opening c = opening_follows

pub returns-clause-calls : goal.returns-clause-calls
returns-clause-calls c = calls_follow

pub returns-clause-datagrams : goal.returns-clause-datagrams
returns-clause-datagrams c = datagrams_follow

pub returns-clause-refusals : goal.returns-clause-refusals
returns-clause-refusals c = refusals_follow

pub returns-clause-ticks : goal.returns-clause-ticks
returns-clause-ticks c = ticks_follow

pub returns-clause-restarts : goal.returns-clause-restarts
returns-clause-restarts c = restarts_follow

pub returns-clause-run : goal.returns-clause-run
returns-clause-run c = following_is_run
