-- Layouts: which places of a buffer hold data (MPI 3.1, 4.1.2). A basic type is the layout of the one offset 0.
use Rattle.std.specs.Prelude.{ℕ, ◌+◌, ◌-◌, ◌*◌, ◌||◌, nat_eq, min, max, Bool, false, List, [], ◌∷◌, map}
use Rattle.std.specs.List.{flat_map, range_with_len}
use Rattle.std.specs.Set.{is_member}
use Rattle.vocabulary.specs.declared.basic_type.BasicType.{BasicType}

-- a layout: its offsets, in elements of one basic type, in order
pub record Shape : Type 0 where
  pub basic : BasicType
  pub offsets : List ℕ

-- the highest offset, and 0 where there is none
abbrev pub highest_of : List ℕ → ℕ
highest_of [] = 0
highest_of (o ∷ os) = max o (highest_of os)

-- the lowest offset, and 0 where there is none
abbrev pub lowest_of : List ℕ → ℕ
lowest_of [] = 0
lowest_of (o ∷ []) = o
lowest_of (o ∷ p ∷ os) = min o (lowest_of (p ∷ os))

-- how far one copy lies from the next: from the lowest offset to the highest, both counted; 0 where there is none
-- (4.1.7)
abbrev pub extent_of : List ℕ → ℕ
extent_of [] = 0
extent_of (o ∷ os) = highest_of (o ∷ os) + 1 - lowest_of (o ∷ os)

-- each offset moved on
abbrev pub moved : ℕ → List ℕ → List ℕ
moved by offsets = map (λ o. by + o) offsets

-- so many copies of a layout, one after the other, from a place on that is counted in copies
unfoldable pub copies_at : ℕ → ℕ → List ℕ → List ℕ
copies_at first count offsets = flat_map (λ i. moved (i * extent_of offsets) offsets) (range_with_len first count)

-- where the elements of so many copies stand: element k of copy i at i * extent + offset k
abbrev pub places : ℕ → List ℕ → List ℕ
places copies offsets = copies_at 0 copies offsets

-- whether an offset occurs twice: such a layout can't be received through (4.1.11)
abbrev pub has_repeats : List ℕ → Bool
has_repeats [] = false
has_repeats (o ∷ os) = is_member nat_eq os o || has_repeats os
