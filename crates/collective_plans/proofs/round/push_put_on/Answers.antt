-- One more.
use Rattle.std.proofs.Common.{ℕ, ◌+◌, ◌-◌, [], refl}
use Rattle.collective_plans.specs.declared.plan.Slot.TheVariants.{Got, Kept}
use Rattle.collective_plans.specs.declared.plan.Step.TheVariants.{Copy}
use Rattle.collective_plans.specs.Rounds.{copies_of, on, put_where}
use Rattle.collective_plans.proofs.RoundLoops.{one_more}
use Rattle.collective_plans.proofs.round.push_put_on.Goals as goal

pub loop-place-preserved : goal.loop-place-preserved
loop-place-preserved c =
    record {
      all = rw (c.in_ok-push.ensures.items, c.on.ensures)
          (one_more
          (λ (i k : ℕ). copies_of (put_where (on c.args.size c.args.rank) i k) [])
          (λ i. Copy (Kept i) (Got (on c.args.size c.args.rank i)))
          (λ i k. refl) c.loop-place.plan.items _ c.loop-place.place c.args.size c.loop-place-test.true
          c.loop-place.invariant.all);
    }
