-- FOR SPEED ALONE: each goal here is proved without this file, too; with it a wrong body is refused soon.
use Rattle.std.proofs.Common.{arith, rules}
use Rattle.std.proofs.lemmas.Grind.{common_steps}
use Rattle.incarnation.specs.Judgements.{judgement}
use Rattle.incarnation.proofs.peers.Peers.judge.Goals as goal

pub returns-then-header-self-clause-rule : goal.returns-then-header-self-clause-rule
unfolding judgement
returns-then-header-self-clause-rule c = search rules

pub returns-then-header-self-clause-exact : goal.returns-then-header-self-clause-exact
unfolding judgement
returns-then-header-self-clause-exact c = search rules

pub overflow_cast-source : goal.overflow_cast-source
unfolding judgement
overflow_cast-source c = search rules

pub index-known-requires : goal.index-known-requires
unfolding judgement
index-known-requires c = search rules

pub returns-then-source-known-clause-rule : goal.returns-then-source-known-clause-rule
unfolding judgement
returns-then-source-known-clause-rule c = grind (arith, common_steps)

pub returns-then-source-known-clause-exact : goal.returns-then-source-known-clause-exact
unfolding judgement
returns-then-source-known-clause-exact c = grind (arith, common_steps)

pub returns-then-target-own-clause-rule : goal.returns-then-target-own-clause-rule
unfolding judgement
returns-then-target-own-clause-rule c = grind (arith, common_steps)

pub returns-then-target-own-clause-exact : goal.returns-then-target-own-clause-exact
unfolding judgement
returns-then-target-own-clause-exact c = grind (arith, common_steps)

pub returns-then-source-known-2-clause-rule : goal.returns-then-source-known-2-clause-rule
unfolding judgement
returns-then-source-known-2-clause-rule c = grind (arith, common_steps)

pub returns-then-source-known-2-clause-exact : goal.returns-then-source-known-2-clause-exact
unfolding judgement
returns-then-source-known-2-clause-exact c = grind (arith, common_steps)

pub returns-clause-rule : goal.returns-clause-rule
unfolding judgement
returns-clause-rule c = grind (arith, common_steps)

pub returns-clause-exact : goal.returns-clause-exact
unfolding judgement
returns-clause-exact c = grind (arith, common_steps)
