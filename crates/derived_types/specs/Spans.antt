-- How far the offsets of a layout reach, told without making them.
use Rattle.std.specs.Prelude.{◌≡◌, true, false, ℕ, ◌+◌, ◌-◌, ◌*◌, ◌==◌, ◌||◌, nat_lt, min, max, Bool, List, length}
use Rattle.std.specs.Prelude.{Option, Some, None, Result, Ok, Err, if◌then◌else◌}
use Rattle.derived_types.specs.declared.span.Span.{Span}
use Rattle.derived_types.specs.declared.refusal.LayoutRefusal.{LayoutRefusal}
use Rattle.derived_types.specs.declared.refusal.LayoutRefusal.TheVariants.{WrongType, TooShort, NotDefined, Limit}
use Rattle.derived_types.specs.declared.refusal.LayoutRefusal.TheVariants.{OutOfMemory}
use Rattle.derived_types.specs.Layouts.{highest_of, lowest_of, is_beyond}

-- of no offset
abbrev pub no_span : Span
no_span = record { entries = 0; lowest = 0; highest = 0 }

-- of these offsets
abbrev pub span_of : List ℕ → Span
span_of offsets = record { entries = length offsets; lowest = lowest_of offsets; highest = highest_of offsets }

-- the extent, of at least one offset
abbrev pub extent_of_span : Span → ℕ
extent_of_span s = s.highest + 1 - s.lowest

-- of so many copies, one after the other
unfoldable pub copied_span : Span → ℕ → ℕ → Span
copied_span s first count =
    if s.entries == 0 || count == 0
    then no_span
    else record {
      entries = count * s.entries;
      lowest = first * extent_of_span s + s.lowest;
      highest = (first + (count - 1)) * extent_of_span s + s.highest;
    }

-- of the blocks of a vector
unfoldable pub vector_span : Span → ℕ → ℕ → ℕ → Span
vector_span s count blocklength stride =
    if s.entries == 0 || count == 0 || blocklength == 0
    then no_span
    else record {
      entries = count * blocklength * s.entries;
      lowest = s.lowest;
      highest = ((count - 1) * stride + (blocklength - 1)) * extent_of_span s + s.highest;
    }

-- of the offsets of both
unfoldable pub joined_span : Span → Span → Span
joined_span s t =
    if s.entries == 0
    then t
    else (if t.entries == 0
    then s
    else record { entries = s.entries + t.entries; lowest = min s.lowest t.lowest; highest = max s.highest t.highest })

-- whether there are too many offsets, or one too high
abbrev pub is_far : Span → Bool
is_far s = nat_lt 1048576 s.entries || nat_lt 2147483647 s.highest

-- the span, where it isn't too far
abbrev pub unless_far : Span → Option Span
unless_far s = if is_far s then None else Some s

-- of the offsets of both, where neither is too far, nor are they together
abbrev pub joined_near : Option Span → Option Span → Option Span
joined_near None other = None
joined_near (Some s) None = None
joined_near (Some s) (Some t) = unless_far (joined_span s t)

-- whether the extent is too long
abbrev pub is_wide : Span → Bool
is_wide s = nat_lt 2147483647 (if s.entries == 0 then 0 else extent_of_span s)

-- the span, where no limit is passed
unfoldable pub judged_span : Option Span → Result Span LayoutRefusal
judged_span None = Err Limit
judged_span (Some s) = if is_wide s then Err Limit else Ok s

-- whether offsets pass a limit, and their span if they don't
abbrev pub JudgesOffsets : List ℕ → Result Span LayoutRefusal → Type 0
JudgesOffsets offsets (Ok s) = (is_beyond offsets ≡ false) × (s ≡ span_of offsets)
JudgesOffsets offsets (Err Limit) = is_beyond offsets ≡ true
JudgesOffsets offsets (Err OutOfMemory) = ⊥
JudgesOffsets offsets (Err WrongType) = ⊥
JudgesOffsets offsets (Err TooShort) = ⊥
JudgesOffsets offsets (Err NotDefined) = ⊥
