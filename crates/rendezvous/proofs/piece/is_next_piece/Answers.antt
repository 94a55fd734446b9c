-- FOR SPEED ALONE: each goal here is proved without this file, too; with it a wrong body is refused soon.
use Rattle.std.proofs.Common.{rules}
use Rattle.rendezvous.proofs.piece.is_next_piece.Goals as goal

pub overflow_sub-total : goal.overflow_sub-total
overflow_sub-total c = search rules

pub min-due-requires : goal.min-due-requires
min-due-requires c = search rules

pub is_empty-requires : goal.is_empty-requires
is_empty-requires c κs = search rules

pub returns-then-offset-have : goal.returns-then-offset-have
returns-then-offset-have c = search rules

pub returns-else-offset-have : goal.returns-else-offset-have
returns-else-offset-have c = search rules
