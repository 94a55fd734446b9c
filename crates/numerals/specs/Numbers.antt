-- Numbers as words: decimal digits without leading zeros.
use Rattle.std.specs.Prelude.{ℕ, Bool, false, ◌&&◌, nat_le, nat_lt, ◌==◌, List, length, slice_index, Option, Some, None}
use Rattle.std.specs.Prelude.{if◌then◌else◌}
use Rattle.std.specs.Str.{all_ascii_digits}
use Rattle.std.specs.Str.Parse.{digits_value}

-- digits, at least one, the first of which is 0 only where it stands alone
abbrev pub is_numeral : List ℕ → Bool
is_numeral word =
    if length word == 0 then false
    else (if slice_index word 0 == 48 && nat_lt 1 (length word) then false
    else all_ascii_digits word)

-- the number that a numeral stands for, if it lies between the bounds
unfoldable pub number_between : List ℕ → ℕ → ℕ → Option ℕ
number_between word low high =
    if is_numeral word && (nat_le low (digits_value 10 word) && nat_le (digits_value 10 word) high) then
    Some (digits_value 10 word) else None
