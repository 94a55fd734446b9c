-- Numbers as their decimal digits.
use Rattle.std.specs.Prelude.{◌≡◌, ℕ, zero, suc, ◌-◌, ◌/◌, ◌%◌, ◌==◌, Bool, List, [], ◌∷◌, ◌++◌, length, take, drop, reverse, codes}
use Rattle.std.specs.List.{flat_map, take_while}
use Rattle.std.specs.Fmt.{decimal}

-- so many last decimal digits of a number, the lowest first
abbrev pub low_digits : ℕ → ℕ → List ℕ
low_digits zero number = []
low_digits (suc count) number = (number % 10) ∷ low_digits count (number / 10)

-- a list of them, the lowest first: its number's last digits, as many as it has
abbrev pub AreDigitsOf : ℕ → List ℕ → Type 0
AreDigitsOf number digits = digits ≡ low_digits (length digits) number

abbrev pub is_zero : ℕ → Bool
is_zero digit = digit == 0

-- digits as they are written
abbrev pub digits_text : List ℕ → List ℕ
digits_text digits = flat_map decimal digits

-- without the zeros in front
abbrev pub without_leading_zeros : List ℕ → List ℕ
without_leading_zeros digits = drop (length (take_while is_zero digits)) digits

-- without the zeros at the end
abbrev pub without_closing_zeros : List ℕ → List ℕ
without_closing_zeros digits = take (length digits - length (take_while is_zero (reverse digits))) digits

-- digits before the point, none of them is `0`
abbrev pub before_point : List ℕ → List ℕ
before_point [] = codes "0"
before_point (digit ∷ digits) = digits_text (digit ∷ digits)

-- the point and the digits behind it, where there are some
abbrev pub behind_point : List ℕ → List ℕ
behind_point [] = []
behind_point (digit ∷ digits) = codes "." ++ digits_text (digit ∷ digits)
