-- Which bytes runs are.
use Rattle.std.specs.Prelude.{◌≡◌, ℕ, ◌==◌, ℤ, pos, ◌+ℤ◌, List, [], ◌∷◌, length, if◌then◌else◌}
use Rattle.std.specs.List.{flat_map}
use Rattle.type_maps.specs.declared.places.Places.{Places}
use Rattle.type_maps.specs.Maps.{copied_numbers, places_of, row}
use Rattle.type_maps.specs.Refusals.{Fits}
use Rattle.type_runs.specs.declared.records.RunRecord.{RunRecord}

-- the bytes of each body, by its number
abbrev pub Bodies : Type 0
Bodies = ℕ → List ℤ

abbrev pub run_places : RunRecord → Places
run_places r = record { at = r.at; count = r.count; stride = r.stride }

-- the bytes of a piece, seen from its place: a row, or those of a body
abbrev pub piece : Bodies → RunRecord → List ℤ
piece bodies r = if r.body == 0 then row (pos 0) r.length else bodies r.body

-- the bytes of a run, in the order in which they are copied
abbrev pub run_bytes : Bodies → RunRecord → List ℤ
run_bytes bodies r = copied_numbers (places_of (run_places r)) (piece bodies r)

abbrev pub bytes_of_runs : Bodies → List RunRecord → List ℤ
bytes_of_runs bodies rs = flat_map (run_bytes bodies) rs

-- a piece has as many bytes as its run says
abbrev pub IsLong : Bodies → RunRecord → Type 0
IsLong bodies r = length (piece bodies r) ≡ r.length

-- and so has each of some
abbrev pub AreLong : Bodies → List RunRecord → Type 0
AreLong bodies [] = Unit {0}
AreLong bodies (r ∷ rs) = IsLong bodies r × AreLong bodies rs

-- the runs are these bytes, in this order
pub record Are (bodies : Bodies) (rs : List RunRecord) (bytes : List ℤ) : Type 0 where
  pub bytes_are : bytes_of_runs bodies rs ≡ bytes
  pub long : AreLong bodies rs

-- one run is these bytes
pub record Is (bodies : Bodies) (r : RunRecord) (bytes : List ℤ) : Type 0 where
  pub bytes_are : run_bytes bodies r ≡ bytes
  pub long : IsLong bodies r

-- each run still begins within 64 bits where it is moved on so far
abbrev pub MayMove : ℤ → List RunRecord → Type 0
MayMove by [] = Unit {0}
MayMove by (r ∷ rs) = Fits (by +ℤ r.at) × MayMove by rs
