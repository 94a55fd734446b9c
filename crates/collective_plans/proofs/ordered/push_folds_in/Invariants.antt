-- What is added so far, and what is left to be added.
use Rattle.std.proofs.Common.{◌≡◌, ◌-◌, ◌++◌}
use Rattle.collective_plans.specs.declared.plan.Slot.TheVariants.{Given, Kept}
use Rattle.collective_plans.specs.Ordered.{folds_in}
use Rattle.collective_plans.specs.Scripts.{part}
use Rattle.collective_plans.proofs.ordered.push_folds_in.Given as goal

abbrev pub invariant-loop-member : goal.invariant-loop-member
invariant-loop-member l =
    record {
      all : l.plan.items ++ part l.root (folds_in (λ x. Given 0) l.root l.low l.high l.member (l.size - l.member)) ≡
          l.fn.plan.items ++ part l.root (folds_in (λ x. Given 0) l.root (Kept 0) (Kept 1) 1 (l.size - 1));
    }
