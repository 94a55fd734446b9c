-- FOR SPEED ALONE: each goal here is proved without this file, too; with it a wrong body is refused soon.
use Rattle.std.proofs.Common.{rules}
use Rattle.script_files.specs.LineWords.{member_of}
use Rattle.script_files.proofs.fields.member_of.Goals as goal

pub point_place-requires : goal.point_place-requires
unfolding member_of
point_place-requires c = search rules

pub rank_of-requires : goal.rank_of-requires
unfolding member_of
rank_of-requires c = search rules

pub branch-rank-requires : goal.branch-rank-requires
unfolding member_of
branch-rank-requires c κs = search rules

pub from_residual-requires : goal.from_residual-requires
unfolding member_of
from_residual-requires c κs = search rules

pub returns-in_err-rank : goal.returns-in_err-rank
unfolding member_of
returns-in_err-rank c = search rules

pub returns-in_default : goal.returns-in_default
unfolding member_of
returns-in_default c = search rules

pub split_at-requires : goal.split_at-requires
unfolding member_of
split_at-requires c = search rules

pub split_at-requires-2 : goal.split_at-requires-2
unfolding member_of
split_at-requires-2 c = search rules

pub rank_of-requires-2 : goal.rank_of-requires-2
unfolding member_of
rank_of-requires-2 c = search rules

pub branch-rank-requires-2 : goal.branch-rank-requires-2
unfolding member_of
branch-rank-requires-2 c κs = search rules

pub from_residual-requires-in_err-rank-2 : goal.from_residual-requires-in_err-rank-2
unfolding member_of
from_residual-requires-in_err-rank-2 c κs = search rules

pub returns-in_err-rank-2 : goal.returns-in_err-rank-2
unfolding member_of
returns-in_err-rank-2 c = search rules

pub number_or-requires : goal.number_or-requires
unfolding member_of
number_or-requires c = search rules

pub overflow_cast-result : goal.overflow_cast-result
unfolding member_of
overflow_cast-result c = search rules

pub returns-in-Some-number_or : goal.returns-in-Some-number_or
unfolding member_of
returns-in-Some-number_or c = search rules

pub returns-in-None : goal.returns-in-None
unfolding member_of
returns-in-None c = search rules
