-- What the marks of ranks mean: 0 has not begun, 101 has ended and never began, each other one has begun.
use Rattle.std.specs.Prelude.{ℕ, ◌+◌, ◌==◌, ◌&&◌, nat_lt, Bool, not, true, List, [], ◌∷◌, Option, Some, None, if◌then◌else◌}

abbrev pub is_there : ℕ → Bool
is_there mark = not (mark == 0) && not (mark == 101)

abbrev pub are_there : List ℕ → Bool
are_there [] = true
are_there (mark ∷ marks) = is_there mark && are_there marks

-- how many of them aren't 0
abbrev pub come_in : List ℕ → ℕ
come_in [] = 0
come_in (mark ∷ marks) = if mark == 0 then come_in marks else 1 + come_in marks

-- whether ranks still begin, where so many of so many have come, the last so many milliseconds ago
abbrev pub do_begin : ℕ → ℕ → ℕ → Bool
do_begin come size since = nat_lt come size && nat_lt since 1000

abbrev pub mark_at_end : ℕ → Option ℕ
mark_at_end mark = if mark == 0 then Some 101 else None
