-- FOR SPEED ALONE: each goal here is proved without this file, too; with it a wrong body is refused soon.
use Rattle.std.proofs.Common.{rules}
use Rattle.payload.proofs.reading.elements_from.Goals as goal

pub from-requires : goal.from-requires
from-requires c = search rules

pub size-requires : goal.size-requires
size-requires c = search rules

pub from-requires-2 : goal.from-requires-2
from-requires-2 c = search rules

pub overflow_mul-size : goal.overflow_mul-size
overflow_mul-size c = search rules
