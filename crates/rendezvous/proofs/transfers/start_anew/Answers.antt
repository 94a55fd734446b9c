-- FOR SPEED ALONE: each goal here is proved without this file, too; with it a wrong body is refused soon.
use Rattle.std.proofs.Common.{arith, rules}
use Rattle.std.proofs.lemmas.Grind.{common_steps}
use Rattle.rendezvous.proofs.transfers.start_anew.Goals as goal

pub from-requires : goal.from-requires
from-requires c = search rules

pub len-requires : goal.len-requires
len-requires c κs = search rules

pub from-requires-then-from-len : goal.from-requires-then-from-len
from-requires-then-from-len c = search rules

pub index_mut-requires : goal.index_mut-requires
index_mut-requires c = search rules

pub returns-then-from-len : goal.returns-then-from-len
returns-then-from-len c = search rules

pub returns-else-from-len : goal.returns-else-from-len
returns-else-from-len c = grind (arith, common_steps)
