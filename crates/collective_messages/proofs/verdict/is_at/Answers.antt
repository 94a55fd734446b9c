-- FOR SPEED ALONE: each goal here is proved without this file, too; with it a wrong body is refused soon.
use Rattle.std.proofs.Common.{rules}
use Rattle.collective_messages.proofs.verdict.is_at.Goals as goal

pub get-requires : goal.get-requires
get-requires c κs = search rules
