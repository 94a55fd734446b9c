-- FOR SPEED ALONE: each goal here is proved without this file, too; with it a wrong body is refused soon.
use Rattle.std.proofs.Common.{rules}
use Rattle.rendezvous.proofs.transfers.announce.Goals as goal

pub from-requires : goal.from-requires
from-requires c = search rules

pub overflow_add-session : goal.overflow_add-session
overflow_add-session c = search rules
