-- Buffers, and what is taken from their places and put there (MPI 3.1, 3.2.2 and 3.2.4).
use Rattle.std.specs.Prelude.{ℕ, ◌+◌, ◌==◌, Bool, List, [], ◌∷◌, map, slice_index, slice_set}
use Rattle.vocabulary.specs.BasicTypes.{code_of}
use Rattle.vocabulary.specs.declared.basic_type.BasicType.{BasicType}
use Rattle.layouts.specs.Layouts.{highest_of}

-- Elements of one basic type. Each is the unsigned number that its bytes are, the highest byte first; an element of a
-- signed type is so its two's complement pattern.
pub record Contents : Type 0 where
  pub basic : BasicType
  pub values : List ℕ

-- whether two types are one
abbrev pub is_same_type : BasicType → BasicType → Bool
is_same_type a b = code_of a == code_of b

-- how many elements a buffer needs to have all of these places
abbrev pub room_for : List ℕ → ℕ
room_for [] = 0
room_for (p ∷ ps) = highest_of (p ∷ ps) + 1

-- the elements at the places, in order
abbrev pub elements_at : List ℕ → List ℕ → List ℕ
elements_at values at = map (λ place. slice_index values place) at

-- the message put at the first places, in order, as far as both go
abbrev pub put_at : List ℕ → List ℕ → List ℕ → List ℕ
put_at values at [] = values
put_at values [] (m ∷ ms) = values
put_at values (place ∷ at) (m ∷ ms) = put_at (slice_set values place m) at ms
