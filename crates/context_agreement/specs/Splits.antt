-- What a split makes of the rows of its members (MPI 3.1, 6.4.2).
use Rattle.std.specs.Prelude.{◌≡◌, ℕ, ◌<◌, ◌≤◌, ◌==◌, suc, Bool, false, List, filter, map, length, All, Contains}
use Rattle.std.specs.Prelude.{Option, Some, None, IsPermutation, IsSorted, slice_index_or}
use Rattle.std.specs.List.Sorted.{IsStrictlyIncreasing}
use Rattle.std.specs.Option.{option_cmp}
use Rattle.std.specs.Ordering.{nat_cmp, int_cmp, ordering_then}
use Rattle.std.specs.declared.cmp.Ordering.{Ordering}
use Rattle.context_agreement.specs.declared.split.SplitRow.{SplitRow}
use Rattle.context_agreement.specs.Parts.{SplitPart}

-- a colour is the one that was given
abbrev pub is_given : ℕ → Option ℕ → Bool
is_given colour None = false
is_given colour (Some given) = given == colour

-- a row has this colour
abbrev pub has_colour : ℕ → SplitRow → Bool
has_colour colour row = is_given colour row.colour

-- the order of the rows of one colour: by key, and then by old rank
abbrev pub row_order : SplitRow → SplitRow → Ordering
row_order a b = ordering_then (int_cmp a.key b.key) (nat_cmp a.rank b.rank)

-- the order in which rows are sorted: by colour, and then by key and old rank
abbrev pub full_order : SplitRow → SplitRow → Ordering
full_order a b = ordering_then (option_cmp nat_cmp a.colour b.colour) (row_order a b)

-- the ranks of a part are those of all the rows of its colour, in order of key and old rank; there
-- is at least one
pub record IsPart (rows : List SplitRow) (part : SplitPart) : Type 0 where
  pub ordered : List SplitRow
  pub all_of_its_colour : IsPermutation (filter (has_colour part.colour) rows) ordered
  pub in_order : IsSorted row_order ordered
  pub ranks : part.ranks ≡ map (λ row. row.rank) ordered
  pub present : 0 < length part.ranks

-- a part of this colour is there; without a colour there is none to be
abbrev pub HasPart : List SplitPart → Option ℕ → Type 0
HasPart plan None = Unit {0}
HasPart plan (Some colour) = Contains (map (λ part. part.colour) plan) colour

-- for each colour, in rising order, its rows; a row without a colour is in no part
pub record IsSplitPlan (rows : List SplitRow) (plan : List SplitPart) : Type 0 where
  pub parts : All (IsPart rows) plan
  pub rising : IsStrictlyIncreasing (map (λ part. part.colour) plan)
  pub complete : All (λ row. HasPart plan row.colour) rows

-- a number that rises with the colour: a row without one comes before all others
abbrev pub colour_number : Option ℕ → ℕ
colour_number None = 0
colour_number (Some colour) = suc colour

-- the rows, cut into parts in their order, where they stand in the order of their colours
pub record IsCut (rows : List SplitRow) (plan : List SplitPart) : Type 0 where
  pub parts : All (λ part. part.ranks
      ≡ map (λ row. row.rank) (filter (has_colour part.colour) rows)) plan
  pub present : All (λ part. 0 < length part.ranks) plan
  pub rising : IsStrictlyIncreasing (map (λ part. part.colour) plan)
  pub complete : All (λ row. HasPart plan row.colour) rows
  pub below : (bound : ℕ) → All (λ row. colour_number row.colour < bound) rows
      → All (λ part. suc part.colour < bound) plan

-- from this row up to an end all have one colour, and the row at the end has another
pub record IsRun (rows : List SplitRow) (start end : ℕ) : Type 0 where
  pub later : start < end
  pub within : end ≤ length rows
  pub same : (k : ℕ) (d : SplitRow) → start ≤ k → k < end
      → (slice_index_or rows k d).colour ≡ (slice_index_or rows start d).colour
  pub other : (d : SplitRow) → end < length rows
      → (slice_index_or rows end d).colour ≡ (slice_index_or rows start d).colour → ⊥
