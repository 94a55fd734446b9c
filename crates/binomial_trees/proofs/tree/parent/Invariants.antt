-- The lowest digit is sought from a distance on.
use Rattle.std.proofs.Common.{◌≡◌, ◌<◌, ◌%◌, ◌-◌}
use Rattle.binomial_trees.specs.Trees.{parent, parent_from}
use Rattle.binomial_trees.proofs.tree.parent.Given as goal

abbrev pub invariant-loop-step : goal.invariant-loop-step
invariant-loop-step l =
    record {
      rest : parent_from (l.position - l.step) l.distance l.position ≡ parent l.position;
      some : 0 < l.distance;
      divides : l.position % l.distance ≡ 0;
    }
