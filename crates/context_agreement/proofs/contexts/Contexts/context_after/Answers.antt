-- FOR SPEED ALONE: each goal here is proved without this file, too; with it a wrong body is refused soon.
use Rattle.std.proofs.Common.{rules}
use Rattle.context_agreement.proofs.contexts.Contexts.context_after.Goals as goal

pub serials_left-requires : goal.serials_left-requires
serials_left-requires c = search rules

pub returns-then-further-serials_left : goal.returns-then-further-serials_left
returns-then-further-serials_left c = search rules

pub overflow_add-result : goal.overflow_add-result
overflow_add-result c = search rules

pub overflow_cast-result : goal.overflow_cast-result
overflow_cast-result c = search rules

pub returns : goal.returns
returns c = search rules
