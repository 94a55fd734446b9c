-- Sizes for a grid of so many places, as balanced as they can be.
use Rattle.std.specs.Prelude.{ℕ, zero, suc, ◌<◌, ◌≤◌, ◌≡◌, ◌⊎◌, List, [], ◌∷◌, length}
use Rattle.cartesian_grids.specs.Grids.{product}

-- none is greater than the one before it, and the first none than a bound
abbrev pub IsFalling : (most : ℕ) → List ℕ → Type 0
IsFalling m [] = Unit {0}
IsFalling m (f ∷ fs) = (f ≤ m) × IsFalling f fs

-- so many factors of a number, falling from a bound
abbrev pub Factors : (number most count : ℕ) → List ℕ → Type 0
Factors n m k fs = (length fs ≡ k) × (product fs ≡ n) × IsFalling m fs

-- where two lists first differ the first one has the smaller factor
abbrev pub IsNotAfter : (first second : List ℕ) → Type 0
IsNotAfter [] gs = Unit {0}
IsNotAfter (f ∷ fs) [] = Unit {0}
IsNotAfter (f ∷ fs) (g ∷ gs) = (f < g) ⊎ ((f ≡ g) × IsNotAfter fs gs)

-- The most balanced factors: the greatest is as small as it can be, then the second, and so on
pub record Balanced (number most count : ℕ) (fs : List ℕ) : Type 0 where
  pub factors : Factors number most count fs
  pub least : (gs : List ℕ) → Factors number most count gs → IsNotAfter fs gs

-- the sizes that are given, and how many are wanted: those that are 0
abbrev pub given : List ℕ → List ℕ
given [] = []
given (zero ∷ ns) = given ns
given (suc n ∷ ns) = suc n ∷ given ns

abbrev pub wanted : List ℕ → ℕ
wanted [] = 0
wanted (zero ∷ ns) = suc (wanted ns)
wanted (suc n ∷ ns) = wanted ns

-- the sizes with factors in the places of those that are wanted
abbrev pub filled : (sizes factors : List ℕ) → List ℕ
filled [] fs = []
filled (zero ∷ ns) [] = 0 ∷ filled ns []
filled (zero ∷ ns) (f ∷ fs) = f ∷ filled ns fs
filled (suc n ∷ ns) fs = suc n ∷ filled ns fs
