-- FOR SPEED ALONE: each goal here is proved without this file, too; with it a wrong body is refused soon.
use Rattle.std.proofs.Common.{rules}
use Rattle.collective_progress.proofs.rules.is_undefined.Goals as goal

pub buffer-requires : goal.buffer-requires
buffer-requires c = search rules

pub basic-requires : goal.basic-requires
basic-requires c = search rules

pub is_defined_on-requires : goal.is_defined_on-requires
is_defined_on-requires c = search rules

pub returns-in_default : goal.returns-in_default
returns-in_default c = search rules

pub returns-in-Reduce : goal.returns-in-Reduce
returns-in-Reduce c = search rules
