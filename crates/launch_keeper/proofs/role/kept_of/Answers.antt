-- FOR SPEED ALONE: each goal here is proved without this file, too; with it a wrong body is refused soon.
use Rattle.std.proofs.Common.{rules}
use Rattle.launch_keeper.specs.Roles.{kept_of}
use Rattle.launch_keeper.proofs.role.kept_of.Goals as goal

pub split_first-requires : goal.split_first-requires
unfolding kept_of
split_first-requires c κs = search rules

pub returns-in_default : goal.returns-in_default
unfolding kept_of
returns-in_default c = search rules

pub split_first-requires-2 : goal.split_first-requires-2
unfolding kept_of
split_first-requires-2 c κs = search rules

pub returns-in_default-split_first : goal.returns-in_default-split_first
unfolding kept_of
returns-in_default-split_first c = search rules

pub as_bytes-requires : goal.as_bytes-requires
unfolding kept_of
as_bytes-requires c = search rules

pub is_keeper-requires : goal.is_keeper-requires
unfolding kept_of
is_keeper-requires c = search rules

pub returns-then-not-is_keeper : goal.returns-then-not-is_keeper
unfolding kept_of
returns-then-not-is_keeper c = search rules

pub as_bytes-requires-2 : goal.as_bytes-requires-2
unfolding kept_of
as_bytes-requires-2 c = search rules

pub number_between-requires : goal.number_between-requires
unfolding kept_of
number_between-requires c = search rules

pub overflow_cast-result : goal.overflow_cast-result
unfolding kept_of
overflow_cast-result c = search rules

pub returns-in-Some-number_between : goal.returns-in-Some-number_between
unfolding kept_of
returns-in-Some-number_between c = search rules

pub returns-in-None : goal.returns-in-None
unfolding kept_of
returns-in-None c = search rules
