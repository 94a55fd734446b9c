-- FOR SPEED ALONE: each goal here is proved without this file, too; with it a wrong body is refused soon.
use Rattle.std.proofs.Common.{rules}
use Rattle.event_loop.proofs.turn.turn.Goals as goal

pub tick-requires : goal.tick-requires
tick-requires g c = search rules

pub listen-requires : goal.listen-requires
listen-requires g c = search rules

pub returns-in_default-clause-exact : goal.returns-in_default-clause-exact
returns-in_default-clause-exact g c = search rules

pub returns-in_default-clause-failures : goal.returns-in_default-clause-failures
returns-in_default-clause-failures g c = search rules

pub take_completion-completion-requires : goal.take_completion-completion-requires
take_completion-completion-requires g c = search rules

pub is_some-answered-requires : goal.is_some-answered-requires
is_some-answered-requires g c κs = search rules

pub hear_answer-requires : goal.hear_answer-requires
hear_answer-requires g c = search rules

pub go_on-requires : goal.go_on-requires
go_on-requires g c = search rules

pub returns-in_default-go_on-clause-failures : goal.returns-in_default-go_on-clause-failures
returns-in_default-go_on-clause-failures g c = search rules

pub take_out-out-requires : goal.take_out-out-requires
take_out-out-requires g c = search rules

pub deref-requires : goal.deref-requires
deref-requires g c κs = search rules

pub send_all-requires : goal.send_all-requires
send_all-requires g c = search rules

pub drop-out-requires : goal.drop-out-requires
drop-out-requires g c κs = search rules

pub returns-in_default-send_all-clause-failures : goal.returns-in_default-send_all-clause-failures
returns-in_default-send_all-clause-failures g c = search rules

pub give_back-requires : goal.give_back-requires
give_back-requires g c = search rules

pub is_ready-requires : goal.is_ready-requires
is_ready-requires g c = search rules

pub returns-then-answered-clause-failures : goal.returns-then-answered-clause-failures
returns-then-answered-clause-failures g c = search rules

pub returns-else-answered-clause-failures : goal.returns-else-answered-clause-failures
returns-else-answered-clause-failures g c = search rules
