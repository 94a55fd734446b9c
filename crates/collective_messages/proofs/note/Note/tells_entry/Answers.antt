-- FOR SPEED ALONE: each goal here is proved without this file, too; with it a wrong body is refused soon.
use Rattle.std.proofs.Common.{rules}
use Rattle.collective_messages.proofs.note.Note.tells_entry.Goals as goal

pub is_of-requires : goal.is_of-requires
is_of-requires c = search rules

pub is_entry-requires : goal.is_entry-requires
is_entry-requires c = search rules

pub returns-then-self-member-2 : goal.returns-then-self-member-2
returns-then-self-member-2 c = search rules

pub returns-else-self-member-2 : goal.returns-else-self-member-2
returns-else-self-member-2 c = search rules
