-- FOR SPEED ALONE: each goal here is proved without this file, too; with it a wrong body is refused soon.
use Rattle.std.proofs.Common.{rules}
use Rattle.point_to_point_calls.proofs.news.bad_unless.Goals as goal

pub returns-then-is_due : goal.returns-then-is_due
returns-then-is_due c = search rules

pub returns-else-is_due : goal.returns-else-is_due
returns-else-is_due c = search rules
