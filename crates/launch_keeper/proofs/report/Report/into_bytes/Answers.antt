-- FOR SPEED ALONE: each goal here is proved without this file, too; with it a wrong body is refused soon.
use Rattle.std.proofs.Common.{rules}
use Rattle.launch_keeper.proofs.report.Report.into_bytes.Goals as goal

pub push-requires : goal.push-requires
push-requires c κs = search rules

pub branch-push-requires : goal.branch-push-requires
branch-push-requires c κs = search rules

pub from_residual-requires : goal.from_residual-requires
from_residual-requires c κs = search rules

pub drop-bytes-requires : goal.drop-bytes-requires
drop-bytes-requires c κs = search rules

pub returns-in_err-push : goal.returns-in_err-push
returns-in_err-push c = search rules

pub returns : goal.returns
returns c = search rules
