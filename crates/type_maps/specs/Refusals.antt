-- When the making of a type is refused because a number is too large.
use Rattle.std.specs.Prelude.{◌≡◌, ℕ, ◌-◌, ◌<◌, ◌^◌, ℤ, pos, ◌+ℤ◌, ◌-ℤ◌, ◌*ℤ◌, Option, None, Some, Result, Ok, Err}
use Rattle.std.specs.Prelude.{FitsSigned}
use Rattle.std.specs.Int.{w64}
use Rattle.type_maps.specs.declared.refusal.Refusal.{Refusal}
use Rattle.type_maps.specs.declared.refusal.Refusal.TheVariants.{NegativeCount, TooLarge, WrongArray, OutOfMemory}
use Rattle.type_maps.specs.declared.places.Places.{Places}
use Rattle.type_maps.specs.declared.places.Span.{Span}
use Rattle.type_maps.specs.declared.summary.Summary.{Summary}
use Rattle.type_maps.specs.Summaries.{joined_summaries, copied_summary, data_upper, lower_bound}
use Rattle.type_maps.specs.Summaries.{upper_bound}

-- this value, or the refusal: then something isn't so that would let the value be told
abbrev pub GivesIf : {X : Type 0} → Type 0 → X → Result X Refusal → Type 0
GivesIf fits x (Ok y) = y ≡ x
GivesIf fits x (Err e) = (e ≡ TooLarge) × (fits → ⊥)

-- numbers are within 64 bits with a sign
abbrev pub Fits : ℤ → Type 0
Fits z = FitsSigned w64 z

abbrev pub GivesNumber : ℤ → Result ℤ Refusal → Type 0
GivesNumber z r = GivesIf (Fits z) z r

abbrev pub GivesCount : ℕ → Result ℕ Refusal → Type 0
GivesCount n r = GivesIf (n < 2 ^ 63) n r

abbrev pub MarkFits : Option ℤ → Type 0
MarkFits None = Unit {0}
MarkFits (Some x) = Fits x

abbrev pub SpanFits : Option Span → Type 0
SpanFits None = Unit {0}
SpanFits (Some s) = Fits s.lower × Fits s.upper

-- the last place, and how far it is from the first one
pub record PlacesFit (p : Places) : Type 0 where
  pub further : Fits (pos (p.count - 1))
  pub way : Fits (pos (p.count - 1) *ℤ p.stride)
  pub last : Fits (p.at +ℤ (pos (p.count - 1) *ℤ p.stride))

-- sizes, and where the data and the markers lie
pub record SummaryFits (s : Summary) : Type 0 where
  pub size : s.size < 2 ^ 63
  pub elements : s.elements < 2 ^ 63
  pub span : SpanFits s.span
  pub lower_mark : MarkFits s.lower_mark
  pub upper_mark : MarkFits s.upper_mark

-- copies, behind what there is
pub record CopiesFit (before : Summary) (p : Places) (s : Summary) : Type 0 where
  pub places : PlacesFit p
  pub copies : SummaryFits (copied_summary p.at p.count p.stride s)
  pub all : SummaryFits (joined_summaries before (copied_summary p.at p.count p.stride s))

-- the bounds
pub record BoundsFit (s : Summary) : Type 0 where
  pub unpadded : Fits (data_upper s.span -ℤ lower_bound s)
  pub upper : Fits (upper_bound s)
  pub extent : Fits (upper_bound s -ℤ lower_bound s)

-- which refusals there are, where nothing but memory and numbers that don't fit can be in the way
abbrev pub RefusedUnless : Type 0 → Refusal → Type 0
RefusedUnless fits NegativeCount = ⊥
RefusedUnless fits TooLarge = fits → ⊥
RefusedUnless fits WrongArray = ⊥
RefusedUnless fits OutOfMemory = Unit {0}
