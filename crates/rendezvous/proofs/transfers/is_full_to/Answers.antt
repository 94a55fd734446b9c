-- FOR SPEED ALONE: each goal here is proved without this file, too; with it a wrong body is refused soon.
use Rattle.std.proofs.Common.{rules}
use Rattle.rendezvous.proofs.transfers.is_full_to.Goals as goal

pub from-requires : goal.from-requires
from-requires c = search rules

pub get-requires : goal.get-requires
get-requires c κs = search rules
