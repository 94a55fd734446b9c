-- FOR SPEED ALONE: each goal here is proved without this file, too; with it a wrong body is refused soon.
use Rattle.std.proofs.Common.{rules}
use Rattle.collective_progress.proofs.contributions.is_like.Goals as goal

pub basic-requires : goal.basic-requires
basic-requires c = search rules

pub basic-requires-2 : goal.basic-requires-2
basic-requires-2 c = search rules

pub eq-requires : goal.eq-requires
eq-requires c = search rules

pub len-requires : goal.len-requires
len-requires c = search rules

pub len-requires-then-eq : goal.len-requires-then-eq
len-requires-then-eq c = search rules

pub returns-then-eq : goal.returns-then-eq
returns-then-eq c = search rules

pub returns-else-eq : goal.returns-else-eq
returns-else-eq c = search rules
