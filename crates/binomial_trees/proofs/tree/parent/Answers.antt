-- One more digit.
use Rattle.std.proofs.Common.{arith}
use Rattle.binomial_trees.proofs.Loops.{parent_more}
use Rattle.binomial_trees.proofs.tree.parent.Goals as goal

pub loop-step-preserved : goal.loop-step-preserved
loop-step-preserved c =
    record {
      rest = parent_more c.loop-step.step c.loop-step.distance c.args.position (omega (arith, c.loop-step-test.true))
          c.if-position-distance-ne0.false c.loop-step.invariant.rest;
      some = omega (arith, c.loop-step.invariant.some);
      divides = c.if-position-distance-ne0.false;
    }
