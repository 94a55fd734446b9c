-- FOR SPEED ALONE: each goal here is proved without this file, too; with it a wrong body is refused soon.
use Rattle.std.proofs.Common.{rules}
use Rattle.collective_progress.proofs.seat.Seat.concatenation_of.Goals as goal

pub joined_bytes-requires : goal.joined_bytes-requires
joined_bytes-requires c = search rules

pub branch-bytes-requires : goal.branch-bytes-requires
branch-bytes-requires c κs = search rules

pub from_residual-requires : goal.from_residual-requires
from_residual-requires c κs = search rules

pub returns-in_err-bytes : goal.returns-in_err-bytes
returns-in_err-bytes c = search rules

pub basic-requires : goal.basic-requires
basic-requires c = search rules

pub from_bytes-requires : goal.from_bytes-requires
from_bytes-requires c = search rules

pub returns : goal.returns
returns c = search rules
