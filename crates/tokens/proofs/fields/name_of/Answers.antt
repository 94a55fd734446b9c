-- FOR SPEED ALONE: each goal here is proved without this file, too; with it a wrong body is refused soon.
use Rattle.std.proofs.Common.{rules}
use Rattle.tokens.specs.Fields.{name_of}
use Rattle.tokens.proofs.fields.name_of.Goals as goal

pub is_name-requires : goal.is_name-requires
unfolding name_of
is_name-requires c = search rules

pub returns-then-not-is_name : goal.returns-then-not-is_name
unfolding name_of
returns-then-not-is_name c = search rules

pub from_slice-requires : goal.from_slice-requires
unfolding name_of
from_slice-requires c = search rules

pub branch-from_slice-requires : goal.branch-from_slice-requires
unfolding name_of
branch-from_slice-requires c κs = search rules

pub from_residual-requires : goal.from_residual-requires
unfolding name_of
from_residual-requires c κs = search rules

pub returns-in_err-from_slice : goal.returns-in_err-from_slice
unfolding name_of
returns-in_err-from_slice c = search rules

pub returns : goal.returns
unfolding name_of
returns c = search rules
