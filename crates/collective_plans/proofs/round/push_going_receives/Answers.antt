-- One more, where it goes.
use Rattle.std.proofs.Common.{ℕ, ◌/◌, ◌%◌, ◌==◌, []}
use Rattle.collective_plans.specs.declared.plan.Slot.TheVariants.{Kept}
use Rattle.collective_plans.specs.declared.plan.Step.TheVariants.{Receive}
use Rattle.collective_plans.specs.Rounds.{going, receives_of}
use Rattle.collective_plans.proofs.RoundLoops.{going_receives, one_more_if}
use Rattle.collective_plans.proofs.round.push_going_receives.Goals as goal

pub loop-place-preserved : goal.loop-place-preserved
loop-place-preserved c =
    record {
      all = rw c.in_ok-push_if.ensures
          (one_more_if (λ (i k : ℕ). receives_of c.args.from (going c.args.distance i k) [])
          (λ (i : ℕ). i / c.args.distance % 2 == 1) (λ (i : ℕ). Receive c.args.from (Kept i))
          (going_receives c.args.from c.args.distance)
          c.loop-place.plan.items _ c.loop-place.place c.args.size c.loop-place-test.true
          c.loop-place.invariant.all);
    }
