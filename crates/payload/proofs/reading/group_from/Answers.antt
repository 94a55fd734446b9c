-- FOR SPEED ALONE: each goal here is proved without this file, too; with it a wrong body is refused soon.
use Rattle.std.proofs.Common.{rules}
use Rattle.payload.proofs.reading.group_from.Goals as goal

pub is_empty-requires : goal.is_empty-requires
is_empty-requires c = search rules

pub read_u64-context-requires : goal.read_u64-context-requires
read_u64-context-requires c = search rules

pub split_at-requires : goal.split_at-requires
split_at-requires c = search rules
