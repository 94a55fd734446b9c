-- FOR SPEED ALONE: each goal here is proved without this file, too; with it a wrong body is refused soon.
use Rattle.std.proofs.Common.{rules}
use Rattle.collective_messages.proofs.note.Note.is_found.Goals as goal

pub is_difference-requires : goal.is_difference-requires
is_difference-requires c = search rules

pub agrees-requires : goal.agrees-requires
agrees-requires c = search rules

pub returns-then-not-is_difference : goal.returns-then-not-is_difference
returns-then-not-is_difference c = search rules

pub returns-else-not-is_difference : goal.returns-else-not-is_difference
returns-else-not-is_difference c = search rules
