-- FOR SPEED ALONE: each goal here is proved without this file, too; with it a wrong body is refused soon.
use Rattle.std.proofs.Common.{rules}
use Rattle.context_agreement.proofs.contexts.Contexts.draw.Goals as goal

pub overflow_add-self : goal.overflow_add-self
overflow_add-self c = search rules

pub invariant_of-self : goal.invariant_of-self
invariant_of-self c = search rules

pub returns-clause-state : goal.returns-clause-state
returns-clause-state c = search rules

pub returns-clause-more : goal.returns-clause-more
returns-clause-more c = search rules
