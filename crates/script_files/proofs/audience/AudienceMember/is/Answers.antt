-- FOR SPEED ALONE: each goal here is proved without this file, too; with it a wrong body is refused soon.
use Rattle.std.proofs.Common.{rules}
use Rattle.script_files.proofs.audience.AudienceMember.is.Goals as goal

pub from-requires : goal.from-requires
from-requires c = search rules

pub returns-in-None : goal.returns-in-None
returns-in-None c = search rules

pub returns-in-Some : goal.returns-in-Some
returns-in-Some c = search rules

pub returns-else-self-rank : goal.returns-else-self-rank
returns-else-self-rank c = search rules
