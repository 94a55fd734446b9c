-- FOR SPEED ALONE: each goal here is proved without this file, too; with it a wrong body is refused soon.
use Rattle.std.proofs.Common.{rules}
use Rattle.groups.proofs.group.Group.contains.Goals as goal

pub ranks-requires : goal.ranks-requires
ranks-requires c = search rules

pub is_among-requires : goal.is_among-requires
is_among-requires c = search rules

pub returns : goal.returns
returns c = search rules
