-- One more.
use Rattle.std.proofs.Common.{ℕ, ◌+◌, ◌-◌, [], refl}
use Rattle.collective_plans.specs.declared.plan.Slot.TheVariants.{Kept}
use Rattle.collective_plans.specs.declared.plan.Step.TheVariants.{Receive}
use Rattle.collective_plans.specs.Rounds.{moved_on, receives_of}
use Rattle.collective_plans.proofs.RoundLoops.{one_more}
use Rattle.collective_plans.proofs.round.push_further_receives.Goals as goal

pub loop-place-preserved : goal.loop-place-preserved
loop-place-preserved c =
    record {
      all = rw c.in_ok-push.ensures.items
          (one_more
          (λ (i k : ℕ). receives_of c.args.from (moved_on i k c.args.by) [])
          (λ i. Receive c.args.from (Kept (i + c.args.by)))
          (λ i k. refl) c.loop-place.plan.items _ c.loop-place.place c.args.count c.loop-place-test.true
          c.loop-place.invariant.all);
    }
