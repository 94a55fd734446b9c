-- What is added so far, and what is left to be added.
use Rattle.std.proofs.Common.{◌≡◌, ◌-◌, [], ◌++◌}
use Rattle.collective_plans.specs.declared.plan.Slot.TheVariants.{Given}
use Rattle.collective_plans.specs.Rounds.{copies_of, on, turned}
use Rattle.collective_plans.proofs.round.push_turned.Given as goal

abbrev pub invariant-loop-place : goal.invariant-loop-place
invariant-loop-place l =
    record {
      all : l.plan.items ++ copies_of (turned (λ x. Given) l.size l.rank l.place (l.size - l.place)) [] ≡
          l.fn.plan.items ++ copies_of (turned (λ x. Given) l.size l.rank 0 l.size) [];
    }
