-- FOR SPEED ALONE: each goal here is proved without this file, too; with it a wrong body is refused soon.
use Rattle.std.proofs.Common.{rules}
use Rattle.rendezvous.proofs.transfers.Transfers.is_next.Goals as goal

pub deref-requires : goal.deref-requires
deref-requires c κs = search rules

pub from-requires : goal.from-requires
from-requires c = search rules

pub get-requires : goal.get-requires
get-requires c κs = search rules
