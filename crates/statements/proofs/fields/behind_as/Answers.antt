-- FOR SPEED ALONE: each goal here is proved without this file, too; with it a wrong body is refused soon.
use Rattle.std.proofs.Common.{rules}
use Rattle.statements.specs.LineWords.{behind_as}
use Rattle.statements.proofs.fields.behind_as.Goals as goal

pub two_alone-requires : goal.two_alone-requires
unfolding behind_as
two_alone-requires c = search rules

pub branch-layout-requires : goal.branch-layout-requires
unfolding behind_as
branch-layout-requires c κs = search rules

pub from_residual-requires : goal.from_residual-requires
unfolding behind_as
from_residual-requires c κs = search rules

pub returns-in_err-layout : goal.returns-in_err-layout
unfolding behind_as
returns-in_err-layout c = search rules

pub large_of-requires : goal.large_of-requires
unfolding behind_as
large_of-requires c = search rules

pub branch-copies-requires : goal.branch-copies-requires
unfolding behind_as
branch-copies-requires c κs = search rules

pub from_residual-requires-in_err-copies : goal.from_residual-requires-in_err-copies
unfolding behind_as
from_residual-requires-in_err-copies c κs = search rules

pub returns-in_err-copies : goal.returns-in_err-copies
unfolding behind_as
returns-in_err-copies c = search rules

pub name_of-requires : goal.name_of-requires
unfolding behind_as
name_of-requires c = search rules

pub branch-layout-requires-2 : goal.branch-layout-requires-2
unfolding behind_as
branch-layout-requires-2 c κs = search rules

pub from_residual-requires-in_err-layout-2 : goal.from_residual-requires-in_err-layout-2
unfolding behind_as
from_residual-requires-in_err-layout-2 c κs = search rules

pub returns-in_err-layout-2 : goal.returns-in_err-layout-2
unfolding behind_as
returns-in_err-layout-2 c = search rules

pub returns : goal.returns
unfolding behind_as
returns c = search rules
