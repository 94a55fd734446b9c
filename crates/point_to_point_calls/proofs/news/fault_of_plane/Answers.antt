-- FOR SPEED ALONE: each goal here is proved without this file, too; with it a wrong body is refused soon.
use Rattle.std.proofs.Common.{rules}
use Rattle.point_to_point_calls.proofs.news.fault_of_plane.Goals as goal

pub returns-in-Collective : goal.returns-in-Collective
returns-in-Collective c = search rules

pub returns-in-PointToPoint : goal.returns-in-PointToPoint
returns-in-PointToPoint c = search rules
