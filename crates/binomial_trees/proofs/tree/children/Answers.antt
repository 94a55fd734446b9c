-- One more child, and the end.
use Rattle.std.proofs.Common.{◌+◌, arith, ◌∙◌, sym}
use Rattle.binomial_trees.proofs.Loops.{all_push, children_end, children_more, near, within}
use Rattle.binomial_trees.proofs.tree.children.Goals as goal

pub loop-step-preserved : goal.loop-step-preserved
loop-step-preserved c =
    record {
      all = rw c.in_ok-push.ensures.items
          (children_more c.loop-step.below.items c.args.size c.loop-step.step c.loop-step.distance c.args.position
          (omega (arith, c.loop-step-test.true)) (sym c.has_child.ensures ∙ c.if-not-has_child.false)
          c.loop-step.invariant.all);
      inside = rw c.in_ok-push.ensures.items
          (all_push c.args.size c.loop-step.below.items (c.args.position + c.loop-step.distance)
          c.loop-step.invariant.inside
          (within c.args.size c.loop-step.distance c.args.position (sym c.has_child.ensures ∙
          c.if-not-has_child.false)));
      some = omega (arith, c.loop-step.invariant.some);
      few = near c.args.size c.loop-step.distance c.args.position c.requires.size (sym c.has_child.ensures ∙
          c.if-not-has_child.false);
    }

pub returns-then-not-has_child : goal.returns-then-not-has_child
returns-then-not-has_child c =
    record {
      children =
          children_end c.loop-step.below.items c.args.size c.loop-step.step c.loop-step.distance c.args.position
          (omega (arith, c.loop-step-test.true)) (sym c.has_child.ensures ∙ c.if-not-has_child.true)
          c.loop-step.invariant.all;
      inside = c.loop-step.invariant.inside;
    }
