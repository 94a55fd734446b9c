-- FOR SPEED ALONE: each goal here is proved without this file, too; with it a wrong body is refused soon.
use Rattle.std.proofs.Common.{rules}
use Rattle.script_runner.proofs.runner.ScriptRunner.new.Goals as goal

pub into_lines_for-requires : goal.into_lines_for-requires
into_lines_for-requires c = search rules

pub branch-lines-requires : goal.branch-lines-requires
branch-lines-requires c κs = search rules

pub from_residual-requires : goal.from_residual-requires
from_residual-requires c κs = search rules

pub returns-in_err-lines : goal.returns-in_err-lines
returns-in_err-lines c = search rules

pub new-requires : goal.new-requires
new-requires c = search rules

pub returns : goal.returns
returns c = search rules
