-- What a type and one that is being made owe the map that they are of.
use Rattle.std.specs.Prelude.{◌≡◌, ℕ, ℤ, pos, ◌+ℤ◌, ◌*ℤ◌, Bool, true, false, Result, Ok, Err, List, [], ◌∷◌}
use Rattle.std.specs.Prelude.{take, slice_get, Some}
use Rattle.type_maps.specs.declared.blocks.Block.{Block}
use Rattle.type_maps.specs.declared.blocks.Dimension.{Dimension}
use Rattle.type_maps.specs.declared.places.Places.{Places}
use Rattle.type_maps.specs.declared.refusal.Refusal.{Refusal}
use Rattle.type_maps.specs.declared.refusal.Refusal.TheVariants.{NegativeCount, TooLarge, WrongArray, OutOfMemory}
use Rattle.type_maps.specs.Constructors.{block, blocks_in_bytes, blocks_with, contiguous, part_of_row, resized}
use Rattle.type_maps.specs.Constructors.{struct_of}
use Rattle.type_maps.specs.Refusals.{BoundsFit, Fits, PlacesFit, RefusedUnless, SummaryFits}
use Rattle.type_maps.specs.declared.building.Building.{Building}
use Rattle.type_maps.specs.declared.datatype.Datatype.{Datatype}
use Rattle.type_maps.specs.Maps.{Map, copied, joined, no_elements, places_of}
use Rattle.type_maps.specs.Summaries.{summary_of, lower, extent}
use Rattle.type_maps.specs.Entries.{Spells}

-- its entries spell the map's elements, and its numbers are the map's
pub record IsBuilt (m : Map) (b : Building) : Type 0 where
  pub summary_is : b.summary ≡ summary_of m
  pub spells : Spells b.entries.items b.items m.elements

pub record IsTypeOf (m : Map) (t : Datatype) : Type 0 where
  pub summary_is : t.summary ≡ summary_of m
  pub lower_is : t.lower ≡ lower m
  pub extent_is : t.extent ≡ extent m
  pub spells : Spells t.entries.items t.items m.elements

-- ---- what making gives

-- copies of a map behind another one: the numbers that have to fit
pub record AddFits (m n : Map) (p : Places) : Type 0 where
  pub places : PlacesFit p
  pub copies : SummaryFits (summary_of (copied (places_of p) n))
  pub all : SummaryFits (summary_of (joined m (copied (places_of p) n)))

-- copies of a map as a type of their own
pub record CopiedFits (p : Places) (m : Map) : Type 0 where
  pub places : PlacesFit p
  pub copies : SummaryFits (summary_of (copied (places_of p) m))
  pub bounds : BoundsFit (summary_of (copied (places_of p) m))

-- what is built is of this map, or something didn't fit, or there was no memory
abbrev pub BuildsIf : {T : Type 0} → Type 0 → Map → Building → Result T Refusal → Type 0
BuildsIf fits m b (Ok x) = IsBuilt m b
BuildsIf fits m b (Err e) = RefusedUnless fits e

-- the type is of this map, or something didn't fit, or there was no memory
abbrev pub MakesIf : Type 0 → Map → Result Datatype Refusal → Type 0
MakesIf fits m (Ok t) = IsTypeOf m t
MakesIf fits m (Err e) = RefusedUnless fits e

-- the same where counts are given that may be negative: they are then refused first
abbrev pub Makes : Bool → Type 0 → Map → Result Datatype Refusal → Type 0
Makes bad fits m (Ok t) = (bad ≡ false) × IsTypeOf m t
Makes bad fits m (Err NegativeCount) = bad ≡ true
Makes bad fits m (Err TooLarge) = (bad ≡ false) × (fits → ⊥)
Makes bad fits m (Err WrongArray) = ⊥
Makes bad fits m (Err OutOfMemory) = bad ≡ false

-- copies from 0 on, one behind the other
abbrev pub in_a_row : ℤ → ℕ → Map → Places
in_a_row at count m = record { at = at; count = count; stride = extent m }

abbrev pub rows_apart : ℕ → ℤ → Places
rows_apart count stride = record { at = pos 0; count = count; stride = stride }

-- a row of copies, and rows of it
pub record RowsFit (count blocklength : ℕ) (stride : ℤ) (m : Map) : Type 0 where
  pub row : CopiedFits (in_a_row (pos 0) blocklength m) m
  pub rows : CopiedFits (rows_apart count stride) (contiguous blocklength m)

pub record VectorFits (count blocklength : ℕ) (stride : ℤ) (m : Map) : Type 0 where
  pub bytes : Fits (stride *ℤ extent m)
  pub rows : RowsFit count blocklength (stride *ℤ extent m) m

-- what is there once some more blocks were added
abbrev pub after_blocks : Map → List (Block × Map) → Map
after_blocks m [] = m
after_blocks m (p ∷ ps) = after_blocks (joined m (block p.0.at p.0.length p.1)) ps

-- each of some blocks fits behind those before it
abbrev pub BlocksFit : Map → List (Block × Map) → Type 0
BlocksFit m parts = (k : ℕ) (p : Block × Map) → slice_get parts k ≡ Some p →
    AddFits (after_blocks m (take k parts)) p.1 (in_a_row p.0.at p.0.length p.1)

-- both bounds marked anew
pub record ResizedFits (lower extent : ℤ) (m : Map) : Type 0 where
  pub upper : Fits (lower +ℤ extent)
  pub bounds : BoundsFit (summary_of (resized lower extent m))

-- places in extents are within 64 bits in bytes
abbrev pub PlacesInBytesFit : ℤ → List Block → Type 0
PlacesInBytesFit ext [] = Unit {0}
PlacesInBytesFit ext (b ∷ bs) = Fits (b.at *ℤ ext) × PlacesInBytesFit ext bs

pub record StructFits (parts : List (Block × Map)) : Type 0 where
  pub blocks : BlocksFit no_elements parts
  pub bounds : BoundsFit (summary_of (struct_of parts))

pub record IndexedFits (given : List Block) (m : Map) : Type 0 where
  pub bytes : PlacesInBytesFit (extent m) given
  pub blocks : StructFits (blocks_with (blocks_in_bytes (extent m) given) m)

-- a dimension of a part of an array
pub record PartFits (d : Dimension) (m : Map) : Type 0 where
  pub start : Fits (pos d.start)
  pub size : Fits (pos d.size)
  pub first : Fits (pos d.start *ℤ extent m)
  pub whole : Fits (pos d.size *ℤ extent m)
  pub copies : AddFits no_elements m (in_a_row (pos d.start *ℤ extent m) d.subsize m)
  pub bounds : BoundsFit (summary_of (part_of_row d m))

abbrev pub PartsFit : List Dimension → Map → Type 0
PartsFit [] m = Unit {0}
PartsFit (d ∷ ds) m = PartFits d m × PartsFit ds (part_of_row d m)
