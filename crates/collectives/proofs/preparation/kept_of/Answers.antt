-- FOR SPEED ALONE: each goal here is proved without this file, too; with it a wrong body is refused soon.
use Rattle.std.proofs.Common.{rules}
use Rattle.collectives.proofs.preparation.kept_of.Goals as goal

pub is_left-requires : goal.is_left-requires
is_left-requires c = search rules

pub drop-note-requires : goal.drop-note-requires
drop-note-requires c κs = search rules

pub drop-requires : goal.drop-requires
drop-requires c κs = search rules

pub returns-then-is_left : goal.returns-then-is_left
returns-then-is_left c = search rules

pub returns-else-is_left : goal.returns-else-is_left
returns-else-is_left c = search rules

pub returns-in-None : goal.returns-in-None
returns-in-None c = search rules
