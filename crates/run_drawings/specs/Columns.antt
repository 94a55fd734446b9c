-- Where things stand in a row of characters.
use Rattle.std.specs.Prelude.{ℕ, ◌+◌, ◌-◌, ◌/◌, ◌==◌, min, max, nat_lt, Bool, true, false, if◌then◌else◌}
use Rattle.run_drawings.specs.Layout.{plus, times}
use Rattle.run_drawings.specs.declared.columns.Columns.{Columns}
use Rattle.run_drawings.specs.declared.columns.Span.{Span}

-- all but some places at the right end, or at the left one
abbrev pub without : Span → (places : ℕ) → (is_right : Bool) → Span
without s places true = record { first = s.first; end = s.end - places }
without s places false = record { first = plus s.first places; end = s.end }

-- the last place on the right side, or on the left one
abbrev pub tip : Span → (is_right : Bool) → ℕ
tip s true = s.end - 1
tip s false = s.first

-- the place of a rank's line of life
abbrev pub place_of : Columns → (rank : ℕ) → ℕ
place_of c rank = times rank c.column

-- the places between two lines of life
abbrev pub between : Columns → (one other : ℕ) → Span
between c one other = record { first = plus (place_of c (min one other)) 1; end = place_of c (max one other) }

-- an arrow that goes out: up to the other line of life where it comes in this very row, else three places less
abbrev pub departure : Columns → (from to : ℕ) → (is_direct : Bool) → Span
departure c from to true = between c from to
departure c from to false = without (between c from to) 3 (nat_lt from to)

-- half as many places
abbrev pub half : Span → ℕ
half s = (s.end - s.first) / 2

-- that of a lost datagram: without the half at its target
abbrev pub lost : Columns → (from to : ℕ) → Span
lost c from to = without (between c from to) (half (between c from to)) (nat_lt from to)

-- an arrow that comes: without the half at its source
abbrev pub arrival : Columns → (from to : ℕ) → Span
arrival c from to = without (between c from to) (half (between c from to)) (nat_lt to from)

-- an arrow that comes and has words: without three places at its source
abbrev pub approach : Columns → (from to : ℕ) → Span
approach c from to = without (between c from to) 3 (nat_lt to from)

-- that of a wait: up to the line of life of the one for which a rank waits, or beside its own
abbrev pub wait_span : Columns → (rank other : ℕ) → Span
wait_span c rank other =
    if rank == other then record { first = plus (place_of c rank) 1; end = plus (place_of c rank) 4 }
    else between c rank other
