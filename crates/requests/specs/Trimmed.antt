-- Places of which some are empty, without those at the end.
use Rattle.std.specs.Prelude.{List, [], ◌∷◌, Option, Some, None}

-- the place stands before these, or is one of the empty ones at the end
abbrev pub before : {A : Type 0} → Option A → List (Option A) → List (Option A)
before None [] = []
before None (o ∷ os) = None ∷ o ∷ os
before (Some x) os = Some x ∷ os

-- the places without the empty ones behind the last that isn't empty
abbrev pub trimmed : {A : Type 0} → List (Option A) → List (Option A)
trimmed [] = []
trimmed (o ∷ os) = before o (trimmed os)
