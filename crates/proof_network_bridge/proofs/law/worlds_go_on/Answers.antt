use Rattle.proof_network_bridge.proofs.WorldLaws.{calls_follow_on, datagrams_follow_on, engines_share_groups}
use Rattle.proof_network_bridge.proofs.WorldLaws.{following_is_each_run, opening_follows_none, refusals_stand}
use Rattle.proof_network_bridge.proofs.WorldLaws.{restarts_follow_on, ticks_stand}
use Rattle.proof_network_bridge.proofs.law.worlds_go_on.Goals as goal

pub returns-clause-opening : goal.returns-clause-opening
returns-clause-opening c = opening_follows_none

pub returns-clause-calls : goal.returns-clause-calls
returns-clause-calls c = calls_follow_on

pub returns-clause-datagrams : goal.returns-clause-datagrams
returns-clause-datagrams c = datagrams_follow_on

pub returns-clause-refusals : goal.returns-clause-refusals
returns-clause-refusals c = refusals_stand

pub returns-clause-ticks : goal.returns-clause-ticks
returns-clause-ticks c = ticks_stand

pub returns-clause-restarts : goal.returns-clause-restarts
returns-clause-restarts c = restarts_follow_on

pub returns-clause-run : goal.returns-clause-run
returns-clause-run c = following_is_each_run

pub returns-clause-groups : goal.returns-clause-groups
returns-clause-groups c = engines_share_groups
