-- FOR SPEED ALONE: each goal here is proved without this file, too; with it a wrong body is refused soon.
use Rattle.std.proofs.Common.{rules}
use Rattle.collective_messages.proofs.block.Block.new.Goals as goal

pub len-requires : goal.len-requires
len-requires c = search rules

pub overflow_cast-t-5 : goal.overflow_cast-t-5
overflow_cast-t-5 c = search rules

pub returns-then-len-clause-ok : goal.returns-then-len-clause-ok
returns-then-len-clause-ok c = search rules

pub returns-then-len-clause-err : goal.returns-then-len-clause-err
returns-then-len-clause-err c = search rules

pub returns-then-len-clause-many : goal.returns-then-len-clause-many
returns-then-len-clause-many c = search rules

pub invariant_of-result : goal.invariant_of-result
invariant_of-result c = search rules

pub returns-clause-ok : goal.returns-clause-ok
returns-clause-ok c = search rules

pub returns-clause-err : goal.returns-clause-err
returns-clause-err c = search rules

pub returns-clause-many : goal.returns-clause-many
returns-clause-many c = search rules
