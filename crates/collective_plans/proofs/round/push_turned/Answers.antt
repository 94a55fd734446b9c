-- One more.
use Rattle.std.proofs.Common.{ℕ, ◌+◌, ◌-◌, [], refl}
use Rattle.collective_plans.specs.declared.plan.Slot.TheVariants.{Given, Kept}
use Rattle.collective_plans.specs.declared.plan.Step.TheVariants.{Copy}
use Rattle.collective_plans.specs.Rounds.{copies_of, on, turned}
use Rattle.collective_plans.proofs.RoundLoops.{one_more}
use Rattle.collective_plans.proofs.round.push_turned.Goals as goal

pub loop-place-preserved : goal.loop-place-preserved
loop-place-preserved c =
    record {
      all = rw (c.in_ok-push.ensures.items, c.on.ensures)
          (one_more
          (λ (i k : ℕ). copies_of (turned (λ x. Given) c.args.size c.args.rank i k) [])
          (λ i. Copy (Given (on c.args.size c.args.rank i)) (Kept i))
          (λ i k. refl) c.loop-place.plan.items _ c.loop-place.place c.args.size c.loop-place-test.true
          c.loop-place.invariant.all);
    }
