-- FOR SPEED ALONE: each goal here is proved without this file, too; with it a wrong body is refused soon.
use Rattle.std.proofs.Common.{rules}
use Rattle.collective_messages.proofs.note.Note.tells_result.Goals as goal

pub is_of-requires : goal.is_of-requires
is_of-requires c = search rules

pub is_result-requires : goal.is_result-requires
is_result-requires c = search rules

pub returns-then-is_of : goal.returns-then-is_of
returns-then-is_of c = search rules

pub returns-else-is_of : goal.returns-else-is_of
returns-else-is_of c = search rules
