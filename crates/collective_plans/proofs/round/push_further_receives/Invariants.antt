-- What is added so far, and what is left to be added.
use Rattle.std.proofs.Common.{◌≡◌, ◌-◌, [], ◌++◌}
use Rattle.collective_plans.specs.Rounds.{moved_on, receives_of}
use Rattle.collective_plans.proofs.round.push_further_receives.Given as goal

abbrev pub invariant-loop-place : goal.invariant-loop-place
invariant-loop-place l =
    record {
      all : l.plan.items ++ receives_of l.from (moved_on l.place (l.count - l.place) l.by) [] ≡
          l.fn.plan.items ++ receives_of l.from (moved_on 0 l.count l.by) [];
    }
