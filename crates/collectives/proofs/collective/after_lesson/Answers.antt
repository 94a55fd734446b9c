-- FOR SPEED ALONE: each goal here is proved without this file, too; with it a wrong body is refused soon.
use Rattle.std.proofs.Common.{rules}
use Rattle.collectives.proofs.collective.after_lesson.Goals as goal

pub as_ref-requires : goal.as_ref-requires
as_ref-requires c κs = search rules

pub returns-in_default : goal.returns-in_default
returns-in_default c = search rules

pub is_ended-requires : goal.is_ended-requires
is_ended-requires c = search rules

pub returns-then-is_ended : goal.returns-then-is_ended
returns-then-is_ended c = search rules

pub as_ref-requires-2 : goal.as_ref-requires-2
as_ref-requires-2 c κs = search rules

pub returns : goal.returns
returns c = search rules
