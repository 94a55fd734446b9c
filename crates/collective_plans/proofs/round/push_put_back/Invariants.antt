-- What is added so far, and what is left to be added.
use Rattle.std.proofs.Common.{◌≡◌, ◌-◌, [], ◌++◌}
use Rattle.collective_plans.specs.Rounds.{copies_of, on, put_where}
use Rattle.collective_plans.proofs.round.push_put_back.Given as goal

abbrev pub invariant-loop-place : goal.invariant-loop-place
invariant-loop-place l =
    record {
      all : l.plan.items ++ copies_of (put_where (λ i. on l.size l.rank (l.size - i)) l.place (l.size - l.place)) [] ≡
          l.fn.plan.items ++ copies_of (put_where (λ i. on l.size l.rank (l.size - i)) 0 l.size) [];
    }
