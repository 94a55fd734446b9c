-- Bounds, extents and sizes of type maps (MPI 3.1, 4.1.5 to 4.1.8).
use Rattle.std.specs.Prelude.{ℕ, zero, suc, ◌+◌, ◌-◌, ◌*◌, ◌%◌, ◌==◌, max, ℤ, pos, ◌+ℤ◌, ◌-ℤ◌, ◌*ℤ◌, unsigned_abs}
use Rattle.std.specs.Prelude.{Option, None, Some, List, [], ◌∷◌, length, if◌then◌else◌, unwrap_or}
use Rattle.std.specs.Int.{int_min, int_max, int_rem_euclid}
use Rattle.type_maps.specs.declared.places.Span.{Span}
use Rattle.type_maps.specs.declared.summary.Summary.{Summary}
use Rattle.type_maps.specs.declared.summary.Content.{Content}
use Rattle.type_maps.specs.declared.summary.Content.TheVariants.{Nothing, One, Mixed}
use Rattle.type_maps.specs.Maps.{Element, Map}

-- the lesser and the greater of two numbers, where there are some
abbrev pub lesser : Option ℤ → Option ℤ → Option ℤ
lesser None y = y
lesser (Some x) None = Some x
lesser (Some x) (Some y) = Some (int_min x y)

abbrev pub greater : Option ℤ → Option ℤ → Option ℤ
greater None y = y
greater (Some x) None = Some x
greater (Some x) (Some y) = Some (int_max x y)

-- the least and the greatest of some numbers
abbrev pub least : List ℤ → Option ℤ
least [] = None
least (x ∷ xs) = lesser (Some x) (least xs)

abbrev pub greatest : List ℤ → Option ℤ
greatest [] = None
greatest (x ∷ xs) = greater (Some x) (greatest xs)

-- what has both spans in it
abbrev pub joined_spans : Option Span → Option Span → Option Span
joined_spans None y = y
joined_spans (Some x) None = Some x
joined_spans (Some x) (Some y) =
    Some (record { lower = int_min x.lower y.lower; upper = int_max x.upper y.upper })

-- from the lowest byte of data to behind the highest one
abbrev pub span_of : List Element → Option Span
span_of [] = None
span_of (e ∷ es) = joined_spans (Some (record { lower = e.at; upper = e.at +ℤ pos e.basic.size })) (span_of es)

abbrev pub size_of : List Element → ℕ
size_of [] = 0
size_of (e ∷ es) = e.basic.size + size_of es

-- the greatest alignment, at least 1
abbrev pub alignment_of : List Element → ℕ
alignment_of [] = 1
alignment_of (e ∷ es) = max e.basic.alignment (alignment_of es)

abbrev pub joined_content : Content → Content → Content
joined_content Nothing c = c
joined_content (One a) Nothing = One a
joined_content (One a) (One b) = if a == b then One a else Mixed
joined_content (One a) Mixed = Mixed
joined_content Mixed c = Mixed

abbrev pub content_of : List Element → Content
content_of [] = Nothing
content_of (e ∷ es) = joined_content (One e.basic.code) (content_of es)

abbrev pub summary_of : Map → Summary
summary_of m = record {
  size = size_of m.elements;
  elements = length m.elements;
  span = span_of m.elements;
  lower_mark = least m.lower_marks;
  upper_mark = greatest m.upper_marks;
  alignment = alignment_of m.elements;
  content = content_of m.elements;
}

-- what a map and another one behind it have
abbrev pub joined_summaries : Summary → Summary → Summary
joined_summaries s t = record {
  size = s.size + t.size;
  elements = s.elements + t.elements;
  span = joined_spans s.span t.span;
  lower_mark = lesser s.lower_mark t.lower_mark;
  upper_mark = greater s.upper_mark t.upper_mark;
  alignment = max s.alignment t.alignment;
  content = joined_content s.content t.content;
}

abbrev pub no_summary : Summary
no_summary = record {
  size = 0;
  elements = 0;
  span = None;
  lower_mark = None;
  upper_mark = None;
  alignment = 1;
  content = Nothing;
}

-- the lowest and the highest of a place and so many further ones
abbrev pub hull : ℤ → ℕ → ℤ → Span
hull at further stride = record {
  lower = int_min at (at +ℤ (pos further *ℤ stride));
  upper = int_max at (at +ℤ (pos further *ℤ stride));
}

abbrev pub raised : ℤ → Option ℤ → Option ℤ
raised by None = None
raised by (Some x) = Some (by +ℤ x)

abbrev pub spread_span : Span → Option Span → Option Span
spread_span h None = None
spread_span h (Some d) = Some (record { lower = h.lower +ℤ d.lower; upper = h.upper +ℤ d.upper })

-- what so many copies have whose places have this hull
abbrev pub spread : Span → ℕ → Summary → Summary
spread h count s = record {
  size = count * s.size;
  elements = count * s.elements;
  span = spread_span h s.span;
  lower_mark = raised h.lower s.lower_mark;
  upper_mark = raised h.upper s.upper_mark;
  alignment = s.alignment;
  content = s.content;
}

-- what copies have
abbrev pub copied_summary : ℤ → ℕ → ℤ → Summary → Summary
copied_summary at zero stride s = no_summary
copied_summary at (suc further) stride s = spread (hull at further stride) (suc further) s

abbrev pub data_lower : Option Span → ℤ
data_lower None = pos 0
data_lower (Some s) = s.lower

abbrev pub data_upper : Option Span → ℤ
data_upper None = pos 0
data_upper (Some s) = s.upper

-- the least number of bytes that make a distance a multiple of the alignment (4.1.6)
abbrev pub padding : ℕ → ℤ → ℕ
padding alignment distance = (alignment - unsigned_abs (int_rem_euclid distance (pos alignment))) % alignment

-- a bound is told by its markers, where there are some, else by the data: the upper one is then padded (4.1.7)
abbrev pub lower_bound : Summary → ℤ
lower_bound s = unwrap_or s.lower_mark (data_lower s.span)

abbrev pub padded_upper : Summary → ℤ
padded_upper s =
    data_upper s.span +ℤ pos (padding s.alignment (data_upper s.span -ℤ lower_bound s))

abbrev pub upper_bound : Summary → ℤ
upper_bound s = unwrap_or s.upper_mark (padded_upper s)

-- of a map: its size (4.1.5), bounds and extent (4.1.7), and those of its data alone (4.1.8)
abbrev pub size : Map → ℕ
size m = size_of m.elements

abbrev pub lower : Map → ℤ
lower m = lower_bound (summary_of m)

abbrev pub upper : Map → ℤ
upper m = upper_bound (summary_of m)

abbrev pub extent : Map → ℤ
extent m = upper m -ℤ lower m

abbrev pub true_lower : Map → ℤ
true_lower m = data_lower (span_of m.elements)

abbrev pub true_extent : Map → ℤ
true_extent m = data_upper (span_of m.elements) -ℤ data_lower (span_of m.elements)
