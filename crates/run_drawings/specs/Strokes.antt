-- The arrows of an SVG: what stands for the ways of one datagram.
use Rattle.std.specs.Prelude.{ℕ, ◌==◌, nat_lt, List, [], ◌∷◌, length, map, Bool, true, false, if◌then◌else◌}
use Rattle.run_drawings.specs.Layout.{above, at, left_of, lost_end, right_of}
use Rattle.run_drawings.specs.declared.elements.Element.{Element}
use Rattle.run_drawings.specs.declared.elements.Element.TheVariants as elements
use Rattle.run_drawings.specs.declared.elements.Ink.{Ink}
use Rattle.run_drawings.specs.declared.elements.Ink.TheVariants as inks
use Rattle.run_drawings.specs.declared.elements.Side.{Side}
use Rattle.run_drawings.specs.declared.elements.Side.TheVariants as sides
use Rattle.run_drawings.specs.declared.elements.Stroke.{Stroke}
use Rattle.run_drawings.specs.declared.layout.Layout.{Layout}
use Rattle.run_drawings.specs.declared.layout.Point.{Point}
use Rattle.run_drawings.specs.declared.picture.Arrival.{Arrival}
use Rattle.run_drawings.specs.declared.picture.Arrow.{Arrow}

-- a datagram that comes is taken or refused
abbrev pub ink_of : (is_taken : Bool) → Ink
ink_of true = inks.Taken
ink_of false = inks.Refused

-- the arrow from where a datagram was emitted, at its source's line of life, to a place where it was delivered, at its
-- target's
abbrev pub stroke_to : Layout → Arrow → Arrival → Stroke
stroke_to l arrow arrival = record {
  ink = ink_of arrival.is_taken;
  from = at l arrow.source.rank arrow.row;
  to = at l arrow.target.rank arrival.row;
}

-- a lost one ends on its way
abbrev pub lost_stroke : Layout → Arrow → Stroke
lost_stroke l arrow = record {
  ink = inks.Lost;
  from = at l arrow.source.rank arrow.row;
  to = lost_end l arrow.source.rank arrow.target.rank arrow.row;
}

-- one for each place where it was delivered, in order; it is lost where there is none
abbrev pub strokes_of : Layout → Arrow → List Element
strokes_of l arrow =
    if length arrow.arrivals.items == 0 then elements.Stroke (lost_stroke l arrow) ∷ []
    else map (λ arrival. elements.Stroke (stroke_to l arrow arrival)) arrow.arrivals.items

-- what stands on an arrow begins where it was emitted, on the side to which it goes
abbrev pub datagram_side : Arrow → Side
datagram_side arrow = if nat_lt arrow.source.rank arrow.target.rank then sides.Right else sides.Left

abbrev pub datagram_place : Layout → Arrow → Point
datagram_place l arrow =
    let here = above (at l arrow.source.rank arrow.row) 4 in
    if nat_lt arrow.source.rank arrow.target.rank then right_of here 8 else left_of here 8
