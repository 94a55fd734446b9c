-- FOR SPEED ALONE: each goal here is proved without this file, too; with it a wrong body is refused soon.
use Rattle.std.proofs.Common.{rules}
use Rattle.tokens.specs.Numbers.{number_up_to}
use Rattle.tokens.proofs.number.number_up_to.Goals as goal

pub is_numeral-requires : goal.is_numeral-requires
unfolding number_up_to
is_numeral-requires c = search rules

pub returns-then-not-is_numeral-clause-exact : goal.returns-then-not-is_numeral-clause-exact
unfolding number_up_to
returns-then-not-is_numeral-clause-exact c = search rules

pub returns-then-not-is_numeral-clause-most : goal.returns-then-not-is_numeral-clause-most
unfolding number_up_to
returns-then-not-is_numeral-clause-most c = search rules

pub numeral_value-requires : goal.numeral_value-requires
unfolding number_up_to
numeral_value-requires c = search rules

pub branch-number-requires : goal.branch-number-requires
unfolding number_up_to
branch-number-requires c κs = search rules

pub from_residual-requires : goal.from_residual-requires
unfolding number_up_to
from_residual-requires c κs = search rules

pub returns-in_err-number-clause-exact : goal.returns-in_err-number-clause-exact
unfolding number_up_to
returns-in_err-number-clause-exact c = search rules

pub returns-in_err-number-clause-most : goal.returns-in_err-number-clause-most
unfolding number_up_to
returns-in_err-number-clause-most c = search rules

pub returns-then-number-most-clause-exact : goal.returns-then-number-most-clause-exact
unfolding number_up_to
returns-then-number-most-clause-exact c = search rules

pub returns-then-number-most-clause-most : goal.returns-then-number-most-clause-most
unfolding number_up_to
returns-then-number-most-clause-most c = search rules

pub returns-else-number-most-clause-exact : goal.returns-else-number-most-clause-exact
unfolding number_up_to
returns-else-number-most-clause-exact c = search rules

pub returns-else-number-most-clause-most : goal.returns-else-number-most-clause-most
unfolding number_up_to
returns-else-number-most-clause-most c = search rules
