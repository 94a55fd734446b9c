-- What names stand for: entries in the order in which their names were first set.
use Rattle.std.specs.Prelude.{ℕ, List, [], ◌∷◌, ◌++◌, Option, Some, None, map, position, slice_get, slice_set}
use Rattle.std.specs.Prelude.{option_map}
use Rattle.std.specs.Str.{bytes_eq}
use Rattle.std.specs.Global.{Vec}

-- a name, and what it stands for
pub record Entry (V : Type 0) : Type 0 where
  pub name : List ℕ
  pub value : V

-- the place of a name
abbrev pub place_of : {V : Type 0} → List (Entry V) → List ℕ → Option ℕ
place_of entries name = position (λ e. bytes_eq name e.name) entries

-- what the name at a place stands for
abbrev pub value_there : {V : Type 0} → List (Entry V) → Option ℕ → Option V
value_there entries None = None
value_there entries (Some place) = option_map (λ e. e.value) (slice_get entries place)

-- what a name stands for, if it is set
abbrev pub value_at : {V : Type 0} → List (Entry V) → List ℕ → Option V
value_at entries name = value_there entries (place_of entries name)

-- the name at a place, or a new one behind the others, stands for this
abbrev pub with_value_there : {V : Type 0} → List (Entry V) → List ℕ → V → Option ℕ → List (Entry V)
with_value_there entries name value None = entries ++ record { name = name; value = value } ∷ []
with_value_there entries name value (Some place) = slice_set entries place (record { name = name; value = value })

-- a name stands for this
abbrev pub with_value : {V : Type 0} → List (Entry V) → List ℕ → V → List (Entry V)
with_value entries name value = with_value_there entries name value (place_of entries name)

-- ---- as the table keeps them

-- a name's bytes in memory, and what it stands for
abbrev pub entry_of : {V : Type 0} → Vec ℕ × V → Entry V
entry_of pair = record { name = pair.0.items; value = pair.1 }

-- all of them, in their order
abbrev pub entries_of : {V : Type 0} → List (Vec ℕ × V) → List (Entry V)
entries_of pairs = map entry_of pairs
