-- When the numbers and the runs that C has stand for a map, and what adding copies gives.
use Rattle.std.specs.Prelude.{◌≡◌, ℕ, ◌+◌, ◌<◌, ◌≤◌, ℤ, pos, ◌+ℤ◌, ◌*ℤ◌, List, length, take, max, ◌⊎◌, ◌==◌}
use Rattle.std.specs.Prelude.{if◌then◌else◌}
use Rattle.std.specs.Prelude.{Option, Some, None}
use Rattle.type_maps.specs.declared.places.Places.{Places}
use Rattle.type_maps.specs.Maps.{Map, bytes_of, copied, joined, places_of}
use Rattle.type_maps.specs.Refusals.{BoundsFit, Fits}
use Rattle.type_maps.specs.Summaries.{summary_of, lower, extent, true_extent}
use Rattle.type_maps.specs.Types.{AddFits, in_a_row}
use Rattle.type_runs.specs.declared.adding.Added.{Added}
use Rattle.type_runs.specs.declared.adding.Added.TheVariants as answers
use Rattle.type_runs.specs.declared.records.TypeRecord.{TypeRecord}
use Rattle.type_runs.specs.declared.records.RunRecord.{RunRecord}
use Rattle.type_runs.specs.Records.{meant}
use Rattle.type_runs.specs.Runs.{Are, Bodies}

-- numbers and runs stand for a map that is being made: its bounds aren't told yet
pub record Stand (bodies : Bodies) (m : Map) (numbers : TypeRecord) (runs : List RunRecord) : Type 0 where
  pub summary_is : meant numbers ≡ summary_of m
  pub runs_are : Are bodies runs (bytes_of m.elements)

-- the numbers are those of a map
pub record Tell (m : Map) (numbers : TypeRecord) : Type 0 where
  pub summary_is : meant numbers ≡ summary_of m
  pub lower_is : numbers.lower ≡ lower m
  pub extent_is : numbers.extent ≡ extent m

-- what C has, and what it is given
pub record Asked : Type 0 where
  pub numbers : TypeRecord
  pub row : List RunRecord
  pub used : ℕ

-- what there is, and copies of another map behind it
abbrev pub with_copies : Map → Map → Places → Map
with_copies m n p = joined m (copied (places_of p) n)

-- there was nothing, and what was added is one copy, at 0: the runs are those of the copied type
pub record IsShared (whole n : Map) (old new : Asked) : Type 0 where
  pub summary_is : meant new.numbers ≡ summary_of whole
  pub runs_are : bytes_of whole.elements ≡ bytes_of n.elements
  pub row_is : new.row ≡ old.row
  pub used_is : new.used ≡ old.used
  pub nothing : old.used ≡ 0

-- numbers and runs stand for the whole
pub record IsAdded (bodies : Bodies) (whole : Map) (new : Asked) : Type 0 where
  pub stand : Stand bodies whole new.numbers (take new.used new.row)
  pub within : new.used ≤ length new.row

-- the row is too short for what is put behind its first runs; all is as it was
pub record HasNoRoom (needed : ℕ) (old new : Asked) : Type 0 where
  pub same : new ≡ old
  pub short : length old.row < old.used + max needed 1

-- a number of the new map isn't within 64 bits; all is as it was
pub record IsTooLarge (fits : Type 0) (old new : Asked) : Type 0 where
  pub same : new ≡ old
  pub why : fits → ⊥

-- what is given where copies of a map are added, which make a whole with what there is
abbrev pub AddGives : Bodies → (fits : Type 0) → (whole n : Map) → (needed : ℕ) → (old new : Asked) → Added → Type 0
AddGives bodies fits whole n needed old new answers.Appended = IsAdded bodies whole new
AddGives bodies fits whole n needed old new answers.Shared = IsShared whole n old new
AddGives bodies fits whole n needed old new answers.NoRoom = HasNoRoom needed old new
AddGives bodies fits whole n needed old new answers.TooLarge = IsTooLarge fits old new

-- what C gives along with copies of a type: their numbers, their runs, and the number by which these are a body
pub record Copy (bodies : Bodies) (n : Map) (numbers : TypeRecord) (runs : List RunRecord) (body : ℕ) : Type 0 where
  pub stand : Stand bodies n numbers runs
  pub named : bodies body ≡ bytes_of n.elements
  pub is_number : body ≡ 0 → ⊥

-- a block's place, in units of so many bytes, and the block
pub record BlockFits (m n : Map) (at unit : ℤ) (count : ℕ) : Type 0 where
  pub place : Fits (at *ℤ unit)
  pub copies : AddFits m n (in_a_row (at *ℤ unit) count n)

-- a first place and a stride, in units of so many bytes; one copy has no stride
abbrev pub step_in : ℕ → ℤ → ℤ → ℤ
step_in count stride unit = if count == 1 then pos 0 else stride *ℤ unit

abbrev pub in_units : ℤ → ℕ → ℤ → ℤ → Places
in_units at count stride unit = record { at = at *ℤ unit; count = count; stride = step_in count stride unit }

pub record RowsFit (m n : Map) (at : ℤ) (count : ℕ) (stride unit : ℤ) : Type 0 where
  pub place : Fits (at *ℤ unit)
  pub bytes : Fits (step_in count stride unit)
  pub copies : AddFits m n (in_units at count stride unit)

-- the new bounds
pub record ResizeFits (lower count unit : ℤ) : Type 0 where
  pub extent : Fits (count *ℤ unit)
  pub upper : Fits (lower +ℤ (count *ℤ unit))

-- the bounds, and the extent of the data alone
pub record EndFits (m : Map) : Type 0 where
  pub true_extent : Fits (true_extent m)
  pub bounds : BoundsFit (summary_of m)

-- ---- as numbers

abbrev pub number_of : Added → ℕ
number_of answers.Appended = 0
number_of answers.Shared = 98
number_of answers.NoRoom = 97
number_of answers.TooLarge = 96

-- what becomes of copies, by its number
abbrev pub AddTells : Bodies → (fits : Type 0) → (whole n : Map) → (needed : ℕ) → (old new : Asked) → ℕ → Type 0
AddTells bodies fits whole n needed old new number =
    ((number ≡ 0) × IsAdded bodies whole new) ⊎ (((number ≡ 98) × IsShared whole n old new) ⊎
    (((number ≡ 97) × HasNoRoom needed old new) ⊎ ((number ≡ 96) × IsTooLarge fits old new)))

-- it is 0, and this is so; or 96: something doesn't fit, and all is as it was
abbrev pub Tells : (fits done same : Type 0) → ℕ → Type 0
Tells fits done same number = ((number ≡ 0) × done) ⊎ ((number ≡ 96) × (fits → ⊥) × same)

-- it is 0, and the items are counted; or 99: there are no so many whole items, and nothing is
abbrev pub ItemsTell : Option ℕ → (old new number : ℕ) → Type 0
ItemsTell (Some count) old new number = (number ≡ 0) × (new ≡ count)
ItemsTell None old new number = (number ≡ 99) × (new ≡ old)
