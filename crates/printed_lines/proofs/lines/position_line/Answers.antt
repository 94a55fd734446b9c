-- FOR SPEED ALONE: each goal here is proved without this file, too; with it a wrong body is refused soon.
use Rattle.std.proofs.Common.{rules}
use Rattle.printed_lines.proofs.lines.position_line.Goals as goal

pub format-requires : goal.format-requires
format-requires c = search rules

pub branch-text-requires : goal.branch-text-requires
branch-text-requires c = search rules

pub from_residual-requires : goal.from_residual-requires
from_residual-requires c = search rules

pub returns-in_err-text : goal.returns-in_err-text
returns-in_err-text c = search rules

pub into_bytes-requires : goal.into_bytes-requires
into_bytes-requires c = search rules

pub from_vec-requires : goal.from_vec-requires
from_vec-requires c = search rules

pub returns : goal.returns
returns c = search rules
