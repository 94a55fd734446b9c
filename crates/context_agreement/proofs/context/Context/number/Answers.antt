-- FOR SPEED ALONE: each goal here is proved without this file, too; with it a wrong body is refused soon.
use Rattle.std.proofs.Common.{rules}
use Rattle.context_agreement.proofs.context.Context.number.Goals as goal

pub from-requires : goal.from-requires
from-requires c = search rules

pub from-requires-2 : goal.from-requires-2
from-requires-2 c = search rules

pub overflow_add-result : goal.overflow_add-result
overflow_add-result c = search rules

pub from-requires-3 : goal.from-requires-3
from-requires-3 c = search rules

pub overflow_add-result-2 : goal.overflow_add-result-2
overflow_add-result-2 c = search rules

pub returns : goal.returns
returns c = search rules
