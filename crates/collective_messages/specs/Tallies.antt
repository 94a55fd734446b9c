-- How many collectives a rank has entered in each context.
use Rattle.std.specs.Prelude.{ℕ, ◌+◌, ◌==◌, Bool, List, [], ◌∷◌, ◌++◌, Option, Some, None, position, slice_get}
use Rattle.std.specs.Prelude.{slice_set}
use Rattle.collective_messages.specs.declared.tally.Tally.{Tally}

-- whether a tally is of a context
abbrev pub is_in : (context : ℕ) → Tally → Bool
is_in c t = t.context == c

-- what a tally says, where there is one
abbrev pub count_of : Option Tally → ℕ
count_of None = 0
count_of (Some t) = t.entered

-- what the tally at a place says
abbrev pub count_at : List Tally → Option ℕ → ℕ
count_at tallies None = 0
count_at tallies (Some i) = count_of (slice_get tallies i)

-- how many collectives were entered in a context
abbrev pub count_in : List Tally → (context : ℕ) → ℕ
count_in tallies c = count_at tallies (position (is_in c) tallies)

-- a tally takes its place, or stands behind the others where it has none
abbrev pub put_tally : List Tally → Option ℕ → Tally → List Tally
put_tally tallies None t = tallies ++ t ∷ []
put_tally tallies (Some i) t = slice_set tallies i t

-- one more collective was entered in a context
abbrev pub raised : List Tally → (context : ℕ) → List Tally
raised tallies c =
    put_tally tallies (position (is_in c) tallies) (record { context = c; entered = count_in tallies c + 1 })
