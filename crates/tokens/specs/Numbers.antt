-- Reading numbers: decimal digits without leading zeros.
use Rattle.std.specs.Prelude.{ℕ, ◌&&◌, nat_le, List, Option, Some, None, if◌then◌else◌}
use Rattle.std.specs.Str.Parse.{digits_value}
pub use Rattle.numerals.specs.Numbers.{is_numeral}
use Rattle.tokens.specs.Grammar.{Word, least}

-- the number that a numeral stands for, if it is at most this one
unfoldable pub number_up_to : ℕ → List ℕ → Option ℕ
number_up_to most word =
    if is_numeral word && nat_le (digits_value 10 word) most then Some (digits_value 10 word) else None

-- the number that a numeral stands for, or this one where it is greater
unfoldable pub number_or : ℕ → List ℕ → Option ℕ
number_or most word = if is_numeral word then Some (least (digits_value 10 word) most) else None

-- the number that the word spells, however large
unfoldable pub count_of : Word → Option ℕ
count_of word = if is_numeral word then Some (digits_value 10 word) else None
