-- FOR SPEED ALONE: each goal here is proved without this file, too; with it a wrong body is refused soon.
use Rattle.std.proofs.Common.{rules}
use Rattle.communicators.proofs.communicators.Communicators.has_no_communicator.Goals as goal

pub communicator_at-requires : goal.communicator_at-requires
communicator_at-requires c = search rules

pub is_none-requires : goal.is_none-requires
is_none-requires c = search rules
