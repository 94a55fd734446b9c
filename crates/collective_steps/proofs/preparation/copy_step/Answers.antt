-- FOR SPEED ALONE: each goal here is proved without this file, too; with it a wrong body is refused soon.
use Rattle.std.proofs.Common.{rules}
use Rattle.collective_steps.proofs.preparation.copy_step.Goals as goal

pub context_after-requires : goal.context_after-requires
context_after-requires c = search rules

pub returns-in_default-clause-ok : goal.returns-in_default-clause-ok
returns-in_default-clause-ok c = search rules

pub returns-in_default-clause-err : goal.returns-in_default-clause-err
returns-in_default-clause-err c = search rules

pub number-requires : goal.number-requires
number-requires c = search rules

pub ranks-requires : goal.ranks-requires
ranks-requires c = search rules

pub tell_others-requires : goal.tell_others-requires
tell_others-requires c = search rules

pub returns-in_default-tell_others-clause-ok : goal.returns-in_default-tell_others-clause-ok
returns-in_default-tell_others-clause-ok c = search rules

pub returns-in_default-tell_others-clause-err : goal.returns-in_default-tell_others-clause-err
returns-in_default-tell_others-clause-err c = search rules

pub with_group_of-requires : goal.with_group_of-requires
with_group_of-requires c = search rules

pub drop-messages-requires : goal.drop-messages-requires
drop-messages-requires c = search rules

pub returns-in_default-with_group_of-clause-ok : goal.returns-in_default-with_group_of-clause-ok
returns-in_default-with_group_of-clause-ok c = search rules

pub returns-in_default-with_group_of-clause-err : goal.returns-in_default-with_group_of-clause-err
returns-in_default-with_group_of-clause-err c = search rules

pub returns-clause-ok : goal.returns-clause-ok
returns-clause-ok c = search rules

pub returns-clause-err : goal.returns-clause-err
returns-clause-err c = search rules
