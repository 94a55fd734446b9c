-- FOR SPEED ALONE: each goal here is proved without this file, too; with it a wrong body is refused soon.
use Rattle.std.proofs.Common.{rules}
use Rattle.tokens.specs.Numbers.{number_or}
use Rattle.tokens.proofs.number.number_or.Goals as goal

pub is_numeral-requires : goal.is_numeral-requires
unfolding number_or
is_numeral-requires c = search rules

pub returns-then-not-is_numeral-clause-exact : goal.returns-then-not-is_numeral-clause-exact
unfolding number_or
returns-then-not-is_numeral-clause-exact c = search rules

pub returns-then-not-is_numeral-clause-most : goal.returns-then-not-is_numeral-clause-most
unfolding number_or
returns-then-not-is_numeral-clause-most c = search rules

pub numeral_value-requires : goal.numeral_value-requires
unfolding number_or
numeral_value-requires c = search rules

pub returns-in-Some-clause-exact : goal.returns-in-Some-clause-exact
unfolding number_or
returns-in-Some-clause-exact c = search rules

pub returns-in-Some-clause-most : goal.returns-in-Some-clause-most
unfolding number_or
returns-in-Some-clause-most c = search rules

pub returns-in_default-clause-exact : goal.returns-in_default-clause-exact
unfolding number_or
returns-in_default-clause-exact c = search rules

pub returns-in_default-clause-most : goal.returns-in_default-clause-most
unfolding number_or
returns-in_default-clause-most c = search rules

pub returns-in_default-2-clause-exact : goal.returns-in_default-2-clause-exact
unfolding number_or
returns-in_default-2-clause-exact c = search rules

pub returns-in_default-2-clause-most : goal.returns-in_default-2-clause-most
unfolding number_or
returns-in_default-2-clause-most c = search rules
