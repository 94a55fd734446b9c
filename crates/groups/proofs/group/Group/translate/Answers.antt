-- FOR SPEED ALONE: each goal here is proved without this file, too; with it a wrong body is refused soon.
use Rattle.std.proofs.Common.{rules}
use Rattle.groups.proofs.group.Group.translate.Goals as goal

pub member-requires : goal.member-requires
member-requires c = search rules

pub position_of-requires : goal.position_of-requires
position_of-requires c = search rules

pub returns-in-Some : goal.returns-in-Some
returns-in-Some c = search rules

pub returns-in-None : goal.returns-in-None
returns-in-None c = search rules
