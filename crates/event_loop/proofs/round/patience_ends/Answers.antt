-- FOR SPEED ALONE: each goal here is proved without this file, too; with it a wrong body is refused soon.
use Rattle.std.proofs.Common.{rules}
use Rattle.event_loop.proofs.round.patience_ends.Goals as goal

pub returns-then-patience-still : goal.returns-then-patience-still
returns-then-patience-still c = search rules

pub returns-else-patience-still : goal.returns-else-patience-still
returns-else-patience-still c = search rules
