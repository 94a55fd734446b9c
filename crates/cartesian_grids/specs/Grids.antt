-- Grids: places, and their ranks row by row.
use Rattle.std.specs.Prelude.{ℕ, ◌*◌, ◌+◌, ◌/◌, ◌%◌, ◌<◌, ◌≡◌, List, [], ◌∷◌}

-- how many places a grid of these sizes has
abbrev pub product : List ℕ → ℕ
product [] = 1
product (n ∷ ns) = n * product ns

-- each dimension has a place
abbrev pub IsSized : List ℕ → Type 0
IsSized [] = Unit {0}
IsSized (n ∷ ns) = (0 < n) × IsSized ns

-- these coordinates, one for each dimension, are a place of the grid
abbrev pub IsPlace : (sizes coordinates : List ℕ) → Type 0
IsPlace [] [] = Unit {0}
IsPlace [] (c ∷ cs) = ⊥
IsPlace (n ∷ ns) [] = ⊥
IsPlace (n ∷ ns) (c ∷ cs) = (c < n) × IsPlace ns cs

-- the rank of a place: ranks go row by row, so the last coordinate turns fastest (7.1 of MPI 3.1)
abbrev pub row_major : (sizes coordinates : List ℕ) → ℕ
row_major [] cs = 0
row_major (n ∷ ns) [] = 0
row_major (n ∷ ns) (c ∷ cs) = c * product ns + row_major ns cs

-- the coordinates of a rank
abbrev pub coordinates : (sizes : List ℕ) → (rank : ℕ) → List ℕ
coordinates [] r = []
coordinates (n ∷ ns) r = (r / product ns) ∷ coordinates ns (r % product ns)

-- Ranks are places, one for one
pub record RanksArePlaces : Type 0 where
  pub place : (ns : List ℕ) (r : ℕ) → IsSized ns → r < product ns → IsPlace ns (coordinates ns r)
  pub rank : (ns : List ℕ) (r : ℕ) → IsSized ns → r < product ns → row_major ns (coordinates ns r) ≡ r
  pub below : (ns cs : List ℕ) → IsPlace ns cs → row_major ns cs < product ns
  pub back : (ns cs : List ℕ) → IsPlace ns cs → coordinates ns (row_major ns cs) ≡ cs
