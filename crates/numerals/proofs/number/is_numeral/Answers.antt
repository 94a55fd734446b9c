-- FOR SPEED ALONE: each goal here is proved without this file, too; with it a wrong body is refused soon.
use Rattle.std.proofs.Common.{rules}
use Rattle.numerals.proofs.number.is_numeral.Goals as goal

pub is_empty-requires : goal.is_empty-requires
is_empty-requires c κs = search rules

pub returns-then-is_empty : goal.returns-then-is_empty
returns-then-is_empty c = search rules

pub bounds-word-0 : goal.bounds-word-0
bounds-word-0 c = search rules

pub returns-then-word-gt1 : goal.returns-then-word-gt1
returns-then-word-gt1 c = search rules

pub are_digits-requires : goal.are_digits-requires
are_digits-requires c = search rules

pub returns : goal.returns
returns c = search rules
