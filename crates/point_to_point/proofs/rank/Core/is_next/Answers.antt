-- FOR SPEED ALONE: each goal here is proved without this file, too; with it a wrong body is refused soon.
use Rattle.std.proofs.Common.{rules}
use Rattle.point_to_point.proofs.rank.Core.is_next.Goals as goal

pub is_next-requires : goal.is_next-requires
is_next-requires c = search rules

pub returns : goal.returns
returns c = search rules
