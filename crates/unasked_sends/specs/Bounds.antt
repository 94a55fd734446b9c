-- The bound as a text.
use Rattle.std.specs.Prelude.{ℕ, List, Option, Some, None, codes, if◌then◌else◌}
use Rattle.std.specs.Str.{bytes_eq}
use Rattle.numerals.specs.Numbers.{number_between}

-- a number of bytes that 64 bits hold, or the word 'none', which is the greatest one
abbrev pub bound_in : List ℕ → Option ℕ
bound_in text =
    if bytes_eq text (codes "none") then Some 18446744073709551615
    else number_between text 0 18446744073709551615

-- what is told, or 4 MiB
abbrev pub bound_of : Option (List ℕ) → Option ℕ
bound_of (Some text) = bound_in text
bound_of None = Some 4194304
