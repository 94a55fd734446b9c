-- What is added so far, and what is left to be added.
use Rattle.std.proofs.Common.{◌≡◌, ◌-◌, [], ◌++◌}
use Rattle.collective_plans.specs.Rounds.{going, sends_of}
use Rattle.collective_plans.proofs.round.push_going_sends.Given as goal

abbrev pub invariant-loop-place : goal.invariant-loop-place
invariant-loop-place l =
    record {
      all : l.plan.items ++ sends_of l.to (going l.distance l.place (l.size - l.place)) [] ≡
          l.fn.plan.items ++ sends_of l.to (going l.distance 0 l.size) [];
    }
