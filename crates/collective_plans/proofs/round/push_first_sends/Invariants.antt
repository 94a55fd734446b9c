-- What is added so far, and what is left to be added.
use Rattle.std.proofs.Common.{◌≡◌, ◌-◌, [], ◌++◌}
use Rattle.collective_plans.specs.Rounds.{moved_on, sends_of}
use Rattle.collective_plans.proofs.round.push_first_sends.Given as goal

abbrev pub invariant-loop-place : goal.invariant-loop-place
invariant-loop-place l =
    record {
      all : l.plan.items ++ sends_of l.to (moved_on l.place (l.count - l.place) 0) [] ≡
          l.fn.plan.items ++ sends_of l.to (moved_on 0 l.count 0) [];
    }
