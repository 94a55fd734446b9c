-- FOR SPEED ALONE: each goal here is proved without this file, too; with it a wrong body is refused soon.
use Rattle.std.proofs.Common.{rules}
use Rattle.context_agreement.proofs.contexts.Contexts.new.Goals as goal

pub of_first_ranks-requires : goal.of_first_ranks-requires
of_first_ranks-requires c = search rules

pub returns-in_default-clause-ok : goal.returns-in_default-clause-ok
returns-in_default-clause-ok c = search rules

pub returns-in_default-clause-err : goal.returns-in_default-clause-err
returns-in_default-clause-err c = search rules

pub with_capacity-requires : goal.with_capacity-requires
with_capacity-requires c κs = search rules

pub drop-group-inside-requires : goal.drop-group-inside-requires
drop-group-inside-requires c κs = search rules

pub returns-in_default-with_capacity-clause-ok : goal.returns-in_default-with_capacity-clause-ok
returns-in_default-with_capacity-clause-ok c = search rules

pub returns-in_default-with_capacity-clause-err : goal.returns-in_default-with_capacity-clause-err
returns-in_default-with_capacity-clause-err c = search rules

pub of_self-requires : goal.of_self-requires
of_self-requires c = search rules

pub of_rank-requires : goal.of_rank-requires
of_rank-requires c = search rules

pub push-requires : goal.push-requires
push-requires c κs = search rules

pub is_err-requires : goal.is_err-requires
is_err-requires c κs = search rules

pub drop-push-requires : goal.drop-push-requires
drop-push-requires c κs = search rules

pub drop-own-requires : goal.drop-own-requires
drop-own-requires c κs = search rules

pub push-requires-else-is_err : goal.push-requires-else-is_err
push-requires-else-is_err c κs = search rules

pub is_err-requires-else-is_err : goal.is_err-requires-else-is_err
is_err-requires-else-is_err c κs = search rules

pub drop-push-requires-else-is_err : goal.drop-push-requires-else-is_err
drop-push-requires-else-is_err c κs = search rules

pub drop-held-requires : goal.drop-held-requires
drop-held-requires c κs = search rules

pub returns-then-is_err-clause-ok : goal.returns-then-is_err-clause-ok
returns-then-is_err-clause-ok c = search rules

pub returns-then-is_err-clause-err : goal.returns-then-is_err-clause-err
returns-then-is_err-clause-err c = search rules

pub invariant_of-result : goal.invariant_of-result
invariant_of-result c = search rules

pub returns-clause-ok : goal.returns-clause-ok
returns-clause-ok c = search rules

pub returns-clause-err : goal.returns-clause-err
returns-clause-err c = search rules
