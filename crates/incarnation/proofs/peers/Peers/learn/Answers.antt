-- FOR SPEED ALONE: each goal here is proved without this file, too; with it a wrong body is refused soon.
use Rattle.std.proofs.Common.{arith, rules}
use Rattle.std.proofs.lemmas.Grind.{common_steps}
use Rattle.incarnation.proofs.peers.Peers.learn.Goals as goal

pub index_mut-known-requires : goal.index_mut-known-requires
index_mut-known-requires c = search rules

pub max-requires : goal.max-requires
max-requires c = search rules

pub invariant_of-self : goal.invariant_of-self
invariant_of-self c = search rules

pub returns-clause-exact : goal.returns-clause-exact
returns-clause-exact c = grind (arith, common_steps)

pub returns-clause-greater : goal.returns-clause-greater
returns-clause-greater c = grind (arith, common_steps)

pub returns-clause-others : goal.returns-clause-others
returns-clause-others c = search rules
