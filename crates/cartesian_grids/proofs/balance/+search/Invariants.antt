use Rattle.std.proofs.Common.{◌≡◌, ◌<◌, ◌≤◌, ◌+◌, ◌-◌, ◌%◌, ℕ, List, ◌∷◌, length}
use Rattle.cartesian_grids.specs.Balance.{Factors}
use Rattle.cartesian_grids.proofs.balance.+search.Given as goal

abbrev pub decreases-search : goal.decreases-search
decreases-search l = length l.sizes.now

-- no factors begin with a number that was tried
abbrev pub invariant-loop-first : goal.invariant-loop-first
invariant-loop-first l =
    (l.sizes ≡ l.initial.sizes) × (0 < l.first) × (l.first ≤ l.most + 1) × (l.first ≤ l.most → l.number % l.first ≡ 0) ×
    ((f : ℕ) (fs : List ℕ) → f < l.first → Factors l.number l.most l.times (f ∷ fs) → ⊥)

abbrev pub decreases-loop-first : goal.decreases-loop-first
decreases-loop-first l = l.most + 1 - l.first
