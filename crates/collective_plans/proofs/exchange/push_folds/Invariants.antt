-- What is added so far, and what is left to be added.
use Rattle.std.proofs.Common.{◌≡◌, ◌-◌, ◌++◌}
use Rattle.collective_plans.specs.Exchanges.{folds}
use Rattle.collective_plans.proofs.exchange.push_folds.Given as goal

abbrev pub invariant-loop-step : goal.invariant-loop-step
invariant-loop-step l =
    record {
      all : l.plan.items ++ folds l.step (l.last - l.step) ≡ l.fn.plan.items ++ folds 0 l.last;
    }
