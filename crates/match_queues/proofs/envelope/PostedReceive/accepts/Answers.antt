-- FOR SPEED ALONE: each goal here is proved without this file, too; with it a wrong body is refused soon.
use Rattle.std.proofs.Common.{rules}
use Rattle.match_queues.proofs.envelope.PostedReceive.accepts.Goals as goal

pub is_from-requires : goal.is_from-requires
is_from-requires c = search rules

pub has_tag-requires : goal.has_tag-requires
has_tag-requires c = search rules

pub returns-then-is_from : goal.returns-then-is_from
returns-then-is_from c = search rules

pub returns-else-is_from : goal.returns-else-is_from
returns-else-is_from c = search rules
