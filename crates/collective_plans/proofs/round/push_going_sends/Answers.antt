-- One more, where it goes.
use Rattle.std.proofs.Common.{ℕ, ◌/◌, ◌%◌, ◌==◌, []}
use Rattle.collective_plans.specs.declared.plan.Slot.TheVariants.{Kept}
use Rattle.collective_plans.specs.declared.plan.Step.TheVariants.{Send}
use Rattle.collective_plans.specs.Rounds.{going, sends_of}
use Rattle.collective_plans.proofs.RoundLoops.{going_sends, one_more_if}
use Rattle.collective_plans.proofs.round.push_going_sends.Goals as goal

pub loop-place-preserved : goal.loop-place-preserved
loop-place-preserved c =
    record {
      all = rw c.in_ok-push_if.ensures
          (one_more_if (λ (i k : ℕ). sends_of c.args.to (going c.args.distance i k) [])
          (λ (i : ℕ). i / c.args.distance % 2 == 1) (λ (i : ℕ). Send c.args.to (Kept i))
          (going_sends c.args.to c.args.distance)
          c.loop-place.plan.items _ c.loop-place.place c.args.size c.loop-place-test.true
          c.loop-place.invariant.all);
    }
