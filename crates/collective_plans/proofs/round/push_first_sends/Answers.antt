-- One more.
use Rattle.std.proofs.Common.{ℕ, ◌+◌, ◌-◌, [], refl}
use Rattle.collective_plans.specs.declared.plan.Slot.TheVariants.{Kept}
use Rattle.collective_plans.specs.declared.plan.Step.TheVariants.{Send}
use Rattle.collective_plans.specs.Rounds.{moved_on, sends_of}
use Rattle.collective_plans.proofs.RoundLoops.{one_more}
use Rattle.collective_plans.proofs.round.push_first_sends.Goals as goal

pub loop-place-preserved : goal.loop-place-preserved
loop-place-preserved c =
    record {
      all = rw c.in_ok-push.ensures.items
          (one_more (λ (i k : ℕ). sends_of c.args.to (moved_on i k 0) []) (λ i. Send c.args.to (Kept i))
          (λ i k. refl) c.loop-place.plan.items _ c.loop-place.place c.args.count c.loop-place-test.true
          c.loop-place.invariant.all);
    }
