-- What the exports on grids answer.
use Rattle.std.specs.Prelude.{ℕ, ◌≡◌, ◌<◌, ◌^◌, ◌⊎◌, List, Option, None, Some}
use Rattle.cartesian_grids.specs.Grids.{IsSized, product}

-- sizes of a grid that C can count
abbrev pub IsGrid : List ℕ → Type 0
IsGrid ns = IsSized ns × (product ns < 2 ^ 31)

-- 91 where the sizes are none of a grid, and so only there; else this
abbrev pub OnGrid : (sizes : List ℕ) (number : ℕ) → Type 0 → Type 0
OnGrid ns n p = ((n ≡ 91) × (IsGrid ns → ⊥)) ⊎ (IsGrid ns × p)

-- a rank that is written, or 92 where there is none
abbrev pub GivesRank : Option ℕ → (number old new : ℕ) → Type 0
GivesRank None n old new = (n ≡ 92) × (new ≡ old)
GivesRank (Some r) n old new = (n ≡ 0) × (new ≡ r)

-- 93 where the rank isn't of the grid; else this
abbrev pub OnRank : (rank places number : ℕ) → Type 0 → Type 0
OnRank r places n p = ((n ≡ 93) × (r < places → ⊥)) ⊎ ((r < places) × p)
