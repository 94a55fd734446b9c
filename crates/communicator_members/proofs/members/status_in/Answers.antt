-- FOR SPEED ALONE: each goal here is proved without this file, too; with it a wrong body is refused soon.
use Rattle.std.proofs.Common.{rules}
use Rattle.communicator_members.proofs.members.status_in.Goals as goal

pub returns-in_default : goal.returns-in_default
returns-in_default c = search rules

pub returns-in_default-2 : goal.returns-in_default-2
returns-in_default-2 c = search rules

pub rank_of-requires : goal.rank_of-requires
rank_of-requires c = search rules

pub returns : goal.returns
returns c = search rules
