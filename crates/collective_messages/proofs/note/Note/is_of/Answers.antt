-- FOR SPEED ALONE: each goal here is proved without this file, too; with it a wrong body is refused soon.
use Rattle.std.proofs.Common.{rules}
use Rattle.collective_messages.proofs.note.Note.is_of.Goals as goal

pub returns-then-self-context : goal.returns-then-self-context
returns-then-self-context c = search rules

pub returns-else-self-context : goal.returns-else-self-context
returns-else-self-context c = search rules
