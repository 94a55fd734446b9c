-- FOR SPEED ALONE: each goal here is proved without this file, too; with it a wrong body is refused soon.
use Rattle.std.proofs.Common.{rules}
use Rattle.numerals.specs.Numbers.{number_between}
use Rattle.numerals.proofs.number.number_between.Goals as goal

pub is_numeral-requires : goal.is_numeral-requires
unfolding number_between
is_numeral-requires c = search rules

pub returns-then-not-is_numeral-clause-exact : goal.returns-then-not-is_numeral-clause-exact
unfolding number_between
returns-then-not-is_numeral-clause-exact c = search rules

pub returns-then-not-is_numeral-clause-low : goal.returns-then-not-is_numeral-clause-low
unfolding number_between
returns-then-not-is_numeral-clause-low c = search rules

pub returns-then-not-is_numeral-clause-high : goal.returns-then-not-is_numeral-clause-high
unfolding number_between
returns-then-not-is_numeral-clause-high c = search rules

pub numeral_value-requires : goal.numeral_value-requires
unfolding number_between
numeral_value-requires c = search rules

pub branch-number-requires : goal.branch-number-requires
unfolding number_between
branch-number-requires c κs = search rules

pub from_residual-requires : goal.from_residual-requires
unfolding number_between
from_residual-requires c κs = search rules

pub returns-in_err-number-clause-exact : goal.returns-in_err-number-clause-exact
unfolding number_between
returns-in_err-number-clause-exact c = search rules

pub returns-in_err-number-clause-low : goal.returns-in_err-number-clause-low
unfolding number_between
returns-in_err-number-clause-low c = search rules

pub returns-in_err-number-clause-high : goal.returns-in_err-number-clause-high
unfolding number_between
returns-in_err-number-clause-high c = search rules

pub returns-then-number-high-clause-exact : goal.returns-then-number-high-clause-exact
unfolding number_between
returns-then-number-high-clause-exact c = search rules

pub returns-then-number-high-clause-low : goal.returns-then-number-high-clause-low
unfolding number_between
returns-then-number-high-clause-low c = search rules

pub returns-then-number-high-clause-high : goal.returns-then-number-high-clause-high
unfolding number_between
returns-then-number-high-clause-high c = search rules

pub returns-else-low-number-clause-exact : goal.returns-else-low-number-clause-exact
unfolding number_between
returns-else-low-number-clause-exact c = search rules

pub returns-else-low-number-clause-low : goal.returns-else-low-number-clause-low
unfolding number_between
returns-else-low-number-clause-low c = search rules

pub returns-else-low-number-clause-high : goal.returns-else-low-number-clause-high
unfolding number_between
returns-else-low-number-clause-high c = search rules
