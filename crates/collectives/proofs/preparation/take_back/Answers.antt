-- FOR SPEED ALONE: each goal here is proved without this file, too; with it a wrong body is refused soon.
use Rattle.std.proofs.Common.{arith, rules}
use Rattle.std.proofs.lemmas.Grind.{common_steps}
use Rattle.collectives.proofs.preparation.take_back.Goals as goal

pub len-requires : goal.len-requires
len-requires c κs = search rules

pub pop-requires : goal.pop-requires
pop-requires c κs = search rules

pub returns-then-len-count-clause-back : goal.returns-then-len-count-clause-back
returns-then-len-count-clause-back c = grind (arith, common_steps)

pub returns-then-len-count-clause-capacity : goal.returns-then-len-count-clause-capacity
returns-then-len-count-clause-capacity c = search rules

pub returns-else-len-count-clause-back : goal.returns-else-len-count-clause-back
returns-else-len-count-clause-back c = grind (arith, common_steps)

pub returns-else-len-count-clause-capacity : goal.returns-else-len-count-clause-capacity
returns-else-len-count-clause-capacity c = search rules
