-- FOR SPEED ALONE: each goal here is proved without this file, too; with it a wrong body is refused soon.
use Rattle.std.proofs.Common.{rules}
use Rattle.tokens.specs.Fields.{rank_of}
use Rattle.tokens.proofs.fields.rank_of.Goals as goal

pub number_or-requires : goal.number_or-requires
unfolding rank_of
number_or-requires c = search rules

pub overflow_cast-result : goal.overflow_cast-result
unfolding rank_of
overflow_cast-result c = search rules

pub returns-in-Some-clause-gives : goal.returns-in-Some-clause-gives
unfolding rank_of
returns-in-Some-clause-gives c = search rules

pub returns-in-Some-clause-err : goal.returns-in-Some-clause-err
unfolding rank_of
returns-in-Some-clause-err c = search rules

pub returns-in-None-clause-gives : goal.returns-in-None-clause-gives
unfolding rank_of
returns-in-None-clause-gives c = search rules

pub returns-in-None-clause-err : goal.returns-in-None-clause-err
unfolding rank_of
returns-in-None-clause-err c = search rules
