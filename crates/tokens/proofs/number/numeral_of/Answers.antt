-- FOR SPEED ALONE: each goal here is proved without this file, too; with it a wrong body is refused soon.
use Rattle.std.proofs.Common.{rules}
use Rattle.tokens.specs.Numbers.{count_of}
use Rattle.tokens.proofs.number.numeral_of.Goals as goal

pub is_numeral-requires : goal.is_numeral-requires
unfolding count_of
is_numeral-requires c = search rules

pub returns-then-not-is_numeral-clause-gives : goal.returns-then-not-is_numeral-clause-gives
unfolding count_of
returns-then-not-is_numeral-clause-gives c = search rules

pub returns-then-not-is_numeral-clause-memory : goal.returns-then-not-is_numeral-clause-memory
unfolding count_of
returns-then-not-is_numeral-clause-memory c = search rules

pub numeral_value-requires : goal.numeral_value-requires
unfolding count_of
numeral_value-requires c = search rules

pub returns-in-Some-clause-gives : goal.returns-in-Some-clause-gives
unfolding count_of
returns-in-Some-clause-gives c = search rules

pub returns-in-Some-clause-memory : goal.returns-in-Some-clause-memory
unfolding count_of
returns-in-Some-clause-memory c = search rules

pub returns-in-None-clause-gives : goal.returns-in-None-clause-gives
unfolding count_of
returns-in-None-clause-gives c = search rules

pub returns-in-None-clause-memory : goal.returns-in-None-clause-memory
unfolding count_of
returns-in-None-clause-memory c = search rules
