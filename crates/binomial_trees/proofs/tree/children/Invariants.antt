-- The children so far, and those that are left.
use Rattle.std.proofs.Common.{◌≡◌, ◌<◌, ◌≤◌, ◌++◌, ◌-◌, All}
use Rattle.binomial_trees.specs.Trees.{children, children_from}
use Rattle.binomial_trees.proofs.tree.children.Given as goal

abbrev pub invariant-loop-step : goal.invariant-loop-step
invariant-loop-step l =
    record {
      all : l.below.items ++ children_from (l.size - l.step) l.distance l.size l.position ≡ children l.size l.position;
      inside : All (λ c. c < l.size) l.below.items;
      some : 0 < l.distance;
      few : l.distance ≤ 131072;
    }
