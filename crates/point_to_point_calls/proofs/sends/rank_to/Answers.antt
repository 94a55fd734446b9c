-- FOR SPEED ALONE: each goal here is proved without this file, too; with it a wrong body is refused soon.
use Rattle.std.proofs.Common.{rules}
use Rattle.point_to_point_calls.proofs.sends.rank_to.Goals as goal

pub returns-then-destination-place : goal.returns-then-destination-place
returns-then-destination-place c = search rules

pub returns-else-destination-place : goal.returns-else-destination-place
returns-else-destination-place c = search rules

pub returns-in-None : goal.returns-in-None
returns-in-None c = search rules
