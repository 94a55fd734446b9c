-- Where things stand in an SVG, in pixels. Every sum and product stays at the greatest number that 64 bits hold.
use Rattle.std.specs.Prelude.{ℕ, ◌+◌, ◌-◌, ◌*◌, ◌/◌, ◌^◌, min, nat_lt, if◌then◌else◌}
use Rattle.run_drawings.specs.declared.layout.Layout.{Layout}
use Rattle.run_drawings.specs.declared.layout.Point.{Point}

-- a sum and a product as far as 64 bits go
abbrev pub plus : ℕ → ℕ → ℕ
plus a b = min (a + b) (2 ^ 64 - 1)

abbrev pub times : ℕ → ℕ → ℕ
times a b = min (a * b) (2 ^ 64 - 1)

-- the places beside a place
abbrev pub right_of : (p : Point) (pixels : ℕ) → Point
right_of p pixels = record { x = plus p.x pixels; y = p.y }

abbrev pub left_of : (p : Point) (pixels : ℕ) → Point
left_of p pixels = record { x = p.x - pixels; y = p.y }

abbrev pub below : (p : Point) (pixels : ℕ) → Point
below p pixels = record { x = p.x; y = plus p.y pixels }

abbrev pub above : (p : Point) (pixels : ℕ) → Point
above p pixels = record { x = p.x; y = p.y - pixels }

-- where a rank's line of life meets a row: a row is 22 pixels high
abbrev pub at : (l : Layout) (rank row : ℕ) → Point
at l rank row = record { x = plus (times rank l.column) 100; y = plus (times row 22) 64 }

-- where the arrow of a lost datagram ends: half a column away from its source's line of life, towards its target's
abbrev pub lost_end : (l : Layout) (from to row : ℕ) → Point
lost_end l from to row =
    let level = below (at l from row) 4 in
    if nat_lt from to then right_of level (l.column / 2) else left_of level (l.column / 2)
