-- FOR SPEED ALONE: each goal here is proved without this file, too; with it a wrong body is refused soon.
use Rattle.std.proofs.Common.{rules}
use Rattle.tokens.specs.Fields.{large_of}
use Rattle.tokens.proofs.fields.large_of.Goals as goal

pub number_or-requires : goal.number_or-requires
unfolding large_of
number_or-requires c = search rules

pub require-requires : goal.require-requires
unfolding large_of
require-requires c κs = search rules

pub returns-clause-gives : goal.returns-clause-gives
unfolding large_of
returns-clause-gives c = search rules

pub returns-clause-err : goal.returns-clause-err
unfolding large_of
returns-clause-err c = search rules
