-- Layouts: which places of a buffer hold data (MPI 3.1, 4.1.2).
use Rattle.std.specs.Prelude.{◌≡◌, ◌≤◌, ℕ, ◌*◌, ◌/◌, ◌%◌, ◌==◌, ◌||◌, nat_lt, Bool, true, false, Option, Some, None}
use Rattle.std.specs.Prelude.{Result, Ok, Err, List, length, if◌then◌else◌}
use Rattle.std.specs.List.{flat_map, range_with_len}
use Rattle.vocabulary.specs.declared.basic_type.BasicType.{BasicType}
pub use Rattle.layouts.specs.Layouts.{Shape, highest_of, lowest_of, extent_of, moved, places, has_repeats}
unfoldable pub use Rattle.layouts.specs.Layouts.{copies_at}
use Rattle.derived_types.specs.declared.refusal.LayoutRefusal.{LayoutRefusal}
use Rattle.derived_types.specs.declared.refusal.LayoutRefusal.TheVariants.{WrongType, TooShort, NotDefined, Limit}
use Rattle.derived_types.specs.declared.refusal.LayoutRefusal.TheVariants.{OutOfMemory}
use Rattle.derived_types.specs.declared.block.IndexedBlock.{IndexedBlock}

-- count copies of the old layout, one after the other
abbrev pub contiguous_offsets : ℕ → List ℕ → List ℕ
contiguous_offsets count offsets = copies_at 0 count offsets

-- count blocks of so many copies; the next block begins stride copies after the last one began
unfoldable pub vector_offsets : ℕ → ℕ → ℕ → List ℕ → List ℕ
vector_offsets count blocklength stride offsets =
    flat_map (λ i. copies_at (i * stride) blocklength offsets) (range_with_len 0 count)

-- blocks of so many copies, each from its own displacement on, which is counted in copies
unfoldable pub indexed_offsets : List IndexedBlock → List ℕ → List ℕ
indexed_offsets blocks offsets = flat_map (λ (b : IndexedBlock). copies_at b.displacement b.length offsets) blocks

-- whether the offsets pass a limit: so many entries, the highest offset, the extent
unfoldable pub is_beyond : List ℕ → Bool
is_beyond offsets =
    nat_lt 1048576 (length offsets) || nat_lt 2147483647 (highest_of offsets) || nat_lt 2147483647 (extent_of offsets)

-- the offsets pass no limit
pub record IsWithin (offsets : List ℕ) : Type 0 where
  pub entries : length offsets ≤ 1048576
  pub highest : highest_of offsets ≤ 2147483647
  pub extent : extent_of offsets ≤ 2147483647

-- what is kept beside the offsets
pub record IsKept (offsets : List ℕ) (lowest highest : ℕ) (repeats : Bool) : Type 0 where
  pub lowest_is : lowest ≡ lowest_of offsets
  pub highest_is : highest ≡ highest_of offsets
  pub repeats_is : repeats ≡ has_repeats offsets
  pub within : IsWithin offsets

-- what a constructor gives, of a layout with these offsets: it is refused where they pass a limit
abbrev pub LayoutGives : BasicType → List ℕ → Result Shape LayoutRefusal → Type 0
LayoutGives basic offsets (Ok layout) = (is_beyond offsets ≡ false) ×
    (layout ≡ record { basic = basic; offsets = offsets })
LayoutGives basic offsets (Err Limit) = is_beyond offsets ≡ true
LayoutGives basic offsets (Err OutOfMemory) = is_beyond offsets ≡ false
LayoutGives basic offsets (Err WrongType) = ⊥
LayoutGives basic offsets (Err TooShort) = ⊥
LayoutGives basic offsets (Err NotDefined) = ⊥

-- how many whole copies of a layout with so many entries the elements are; of an empty layout 0 copies are no elements
abbrev pub whole_copies : ℕ → ℕ → Option ℕ
whole_copies elements entries =
    if entries == 0
    then (if elements == 0 then Some 0 else None)
    else (if elements % entries == 0 then Some (elements / entries) else None)
