-- FOR SPEED ALONE: each goal here is proved without this file, too; with it a wrong body is refused soon.
use Rattle.std.proofs.Common.{rules}
use Rattle.point_to_point_calls.proofs.receives.is_source_beyond.Goals as goal

pub returns-in-Rank : goal.returns-in-Rank
returns-in-Rank c = search rules

pub returns-in-Any : goal.returns-in-Any
returns-in-Any c = search rules
