use Rattle.proof_network_runs.proofs.GoingOn.{each_has_a_run, happenings_go_on, none_is_a_run, one_group_along_runs}
use Rattle.proof_network_runs.proofs.GoingOn.{runs_show_all}
use Rattle.proof_network_runs.proofs.law.runs_go_on_event_by_event.Goals as goal

pub returns-clause-none : goal.returns-clause-none
returns-clause-none c = none_is_a_run

pub returns-clause-more : goal.returns-clause-more
returns-clause-more c = happenings_go_on

pub returns-clause-some : goal.returns-clause-some
returns-clause-some c = each_has_a_run

pub returns-clause-shows : goal.returns-clause-shows
returns-clause-shows c = runs_show_all

pub returns-clause-one_group : goal.returns-clause-one_group
returns-clause-one_group c = one_group_along_runs
