-- FOR SPEED ALONE: each goal here is proved without this file, too; with it a wrong body is refused soon.
use Rattle.std.proofs.Common.{rules}
use Rattle.collective_progress.proofs.seat.Seat.block_known.Goals as goal

pub is_same-requires : goal.is_same-requires
is_same-requires c = search rules

pub returns-then-is_same : goal.returns-then-is_same
returns-then-is_same c = search rules

pub block_told-requires : goal.block_told-requires
block_told-requires c = search rules

pub is_like-requires : goal.is_like-requires
is_like-requires c = search rules

pub returns-then-is_like : goal.returns-then-is_like
returns-then-is_like c = search rules

pub returns-else-is_like : goal.returns-else-is_like
returns-else-is_like c = search rules

pub returns-in-None : goal.returns-in-None
returns-in-None c = search rules
