-- FOR SPEED ALONE: each goal here is proved without this file, too; with it a wrong body is refused soon.
use Rattle.std.proofs.Common.{rules}
use Rattle.context_agreement.proofs.contexts.Contexts.install_reserved.Goals as goal

pub len-place-requires : goal.len-place-requires
len-place-requires c κs = search rules

pub push-requires : goal.push-requires
push-requires c κs = search rules

pub unwrap-requires : goal.unwrap-requires
unwrap-requires c = search rules

pub invariant_of-self : goal.invariant_of-self
invariant_of-self c = search rules

pub returns-clause-place : goal.returns-clause-place
returns-clause-place c = search rules

pub returns-clause-state : goal.returns-clause-state
returns-clause-state c = search rules
