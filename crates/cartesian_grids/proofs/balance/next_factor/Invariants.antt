use Rattle.std.proofs.Common.{◌≡◌, ◌<◌, ◌≤◌, ◌%◌, ◌^◌, ℕ}
use Rattle.cartesian_grids.proofs.balance.next_factor.Given as goal

abbrev pub invariant-loop-factor : goal.invariant-loop-factor
invariant-loop-factor l =
    (f : ℕ) → l.from ≤ f → f < l.factor → l.number % f ≡ 0 → l.number ≤ f ^ l.times → ⊥
