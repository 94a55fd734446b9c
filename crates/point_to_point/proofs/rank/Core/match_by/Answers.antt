-- FOR SPEED ALONE: each goal here is proved without this file, too; with it a wrong body is refused soon.
use Rattle.std.proofs.Common.{rules}
use Rattle.point_to_point.proofs.rank.Core.match_by.Goals as goal

pub count-count-requires : goal.count-count-requires
count-count-requires c = search rules

pub basic-requires : goal.basic-requires
basic-requires c = search rules

pub wants_after-requires : goal.wants_after-requires
wants_after-requires c = search rules

pub returns-in-Some : goal.returns-in-Some
returns-in-Some c = search rules

pub returns-in-None : goal.returns-in-None
returns-in-None c = search rules
