-- The blocks are those of its members, or there is none for each.
use Rattle.std.proofs.Common.{arith}
use Rattle.std.proofs.lemmas.Grind.{common_steps}
use Rattle.collective_steps.proofs.data_movement.scatter_step.Goals as goal

pub returns-then-ne-clause-ok : goal.returns-then-ne-clause-ok
returns-then-ne-clause-ok c = grind (arith, common_steps)

pub returns-then-rooted-size-clause-ok : goal.returns-then-rooted-size-clause-ok
returns-then-rooted-size-clause-ok c = grind (arith, common_steps)

pub invariant_of-blocks : goal.invariant_of-blocks
invariant_of-blocks c = record { total = grind (arith, common_steps) }

pub returns-clause-ok : goal.returns-clause-ok
returns-clause-ok c = grind (arith, common_steps)
