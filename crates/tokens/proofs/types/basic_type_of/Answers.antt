-- FOR SPEED ALONE: each goal here is proved without this file, too; with it a wrong body is refused soon.
use Rattle.std.proofs.Common.{rules}
use Rattle.tokens.specs.Words.{basic_type_of}
use Rattle.tokens.proofs.types.basic_type_of.Goals as goal

pub is-requires : goal.is-requires
unfolding basic_type_of
is-requires c = search rules

pub is-requires-else-is : goal.is-requires-else-is
unfolding basic_type_of
is-requires-else-is c = search rules

pub is-requires-else-is-2 : goal.is-requires-else-is-2
unfolding basic_type_of
is-requires-else-is-2 c = search rules

pub is-requires-else-is-3 : goal.is-requires-else-is-3
unfolding basic_type_of
is-requires-else-is-3 c = search rules

pub is-requires-else-is-4 : goal.is-requires-else-is-4
unfolding basic_type_of
is-requires-else-is-4 c = search rules

pub is-requires-else-is-5 : goal.is-requires-else-is-5
unfolding basic_type_of
is-requires-else-is-5 c = search rules

pub is-requires-else-is-6 : goal.is-requires-else-is-6
unfolding basic_type_of
is-requires-else-is-6 c = search rules

pub is-requires-else-is-7 : goal.is-requires-else-is-7
unfolding basic_type_of
is-requires-else-is-7 c = search rules

pub is-requires-else-is-8 : goal.is-requires-else-is-8
unfolding basic_type_of
is-requires-else-is-8 c = search rules

pub is-requires-else-is-9 : goal.is-requires-else-is-9
unfolding basic_type_of
is-requires-else-is-9 c = search rules

pub is-requires-else-is-10 : goal.is-requires-else-is-10
unfolding basic_type_of
is-requires-else-is-10 c = search rules

pub returns-then-is : goal.returns-then-is
unfolding basic_type_of
returns-then-is c = search rules

pub returns-then-is-2 : goal.returns-then-is-2
unfolding basic_type_of
returns-then-is-2 c = search rules

pub returns-then-is-3 : goal.returns-then-is-3
unfolding basic_type_of
returns-then-is-3 c = search rules

pub returns-then-is-4 : goal.returns-then-is-4
unfolding basic_type_of
returns-then-is-4 c = search rules

pub returns-then-is-5 : goal.returns-then-is-5
unfolding basic_type_of
returns-then-is-5 c = search rules

pub returns-then-is-6 : goal.returns-then-is-6
unfolding basic_type_of
returns-then-is-6 c = search rules

pub returns-then-is-7 : goal.returns-then-is-7
unfolding basic_type_of
returns-then-is-7 c = search rules

pub returns-then-is-8 : goal.returns-then-is-8
unfolding basic_type_of
returns-then-is-8 c = search rules

pub returns-then-is-9 : goal.returns-then-is-9
unfolding basic_type_of
returns-then-is-9 c = search rules

pub returns-then-is-10 : goal.returns-then-is-10
unfolding basic_type_of
returns-then-is-10 c = search rules

pub returns-then-is-11 : goal.returns-then-is-11
unfolding basic_type_of
returns-then-is-11 c = search rules

pub returns-else-is-11 : goal.returns-else-is-11
unfolding basic_type_of
returns-else-is-11 c = search rules
