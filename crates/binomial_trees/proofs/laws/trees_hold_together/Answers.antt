-- The laws of the binomial tree.
use Rattle.std.proofs.Common.{ℕ}
use Rattle.binomial_trees.proofs.TreeProofs.{children_are_few, children_have_their_parent, children_partition}
use Rattle.binomial_trees.proofs.TreeProofs.{folds_go_by_pieces, parents_have_their_child, places_turn, subtrees_fold}
use Rattle.binomial_trees.proofs.TreeProofs.{top_stands_above_all}
use Rattle.binomial_trees.proofs.laws.trees_hold_together.Goals as goal

pub returns-clause-partition : goal.returns-clause-partition
returns-clause-partition c = children_partition ℕ

pub returns-clause-top : goal.returns-clause-top
returns-clause-top c = top_stands_above_all ℕ

pub returns-clause-children : goal.returns-clause-children
returns-clause-children c = children_have_their_parent

pub returns-clause-parents : goal.returns-clause-parents
returns-clause-parents c = parents_have_their_child

pub returns-clause-few : goal.returns-clause-few
returns-clause-few c = children_are_few

pub returns-clause-pieces : goal.returns-clause-pieces
returns-clause-pieces c = folds_go_by_pieces ℕ

pub returns-clause-folds : goal.returns-clause-folds
returns-clause-folds c = subtrees_fold ℕ

pub returns-clause-turned : goal.returns-clause-turned
returns-clause-turned c = places_turn
