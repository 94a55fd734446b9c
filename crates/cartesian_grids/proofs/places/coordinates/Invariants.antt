use Rattle.std.proofs.Common.{◌≡◌, ◌<◌, ℕ, get_or}
use Rattle.cartesian_grids.specs.Grids.{coordinates}
use Rattle.cartesian_grids.proofs.places.coordinates.Given as goal

abbrev pub invariant-loop-dimension : goal.invariant-loop-dimension
invariant-loop-dimension l =
    (k : ℕ) → k < l.dimension → get_or l.into k 0 ≡ get_or (coordinates l.sizes l.rank) k 0
