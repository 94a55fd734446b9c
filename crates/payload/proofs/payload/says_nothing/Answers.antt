-- FOR SPEED ALONE: each goal here is proved without this file, too; with it a wrong body is refused soon.
use Rattle.std.proofs.Common.{rules}
use Rattle.payload.proofs.payload.says_nothing.Goals as goal

pub eq-requires : goal.eq-requires
eq-requires c = search rules

pub returns-in-Barrier : goal.returns-in-Barrier
returns-in-Barrier c = search rules

pub returns-in-Dup : goal.returns-in-Dup
returns-in-Dup c = search rules

pub returns-in_default : goal.returns-in_default
returns-in_default c = search rules
