-- FOR SPEED ALONE: each goal here is proved without this file, too; with it a wrong body is refused soon.
use Rattle.std.proofs.Common.{rules}
use Rattle.point_to_point.proofs.rank.Core.prepare_news.Goals as goal

pub returns-clause-can : goal.returns-clause-can
returns-clause-can c = search rules
