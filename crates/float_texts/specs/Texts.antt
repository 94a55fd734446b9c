-- The value of an element as it is written.
use Rattle.std.specs.Prelude.{ℕ, ◌+◌, ◌-◌, ◌*◌, ◌^◌, ◌≤◌, Bool, List, [], ◌++◌, take, drop, reverse, codes, if◌then◌else◌}
use Rattle.std.specs.Float.Ieee.{Format, binary32, binary64}
use Rattle.vocabulary.specs.declared.basic_type.BasicType.{BasicType}
use Rattle.vocabulary.specs.declared.basic_type.BasicType.TheVariants.{Float32, Float64}
use Rattle.datatypes.specs.Elements.{element_text}
use Rattle.float_texts.specs.Digits.{low_digits, without_leading_zeros, without_closing_zeros, before_point, behind_point}
use Rattle.float_texts.specs.Values.{value_in}
use Rattle.float_texts.specs.declared.parts.Magnitude.{Magnitude}
use Rattle.float_texts.specs.declared.parts.FloatValue.{FloatValue}
use Rattle.float_texts.specs.declared.parts.FloatValue.TheVariants.{NotANumber, Infinity, Zero, Finite}

-- how many digits a magnitude has at most: 17 of the significand, and one for each doubling or place
abbrev pub room_of : Magnitude → ℕ
room_of m = 17 + m.doublings + m.places

-- The digits of a magnitude, the highest first; so many of them as it has places stand behind the point. A half is
-- five tenths: to halve the number is to multiply it by 5 and to move the point by one place.
abbrev pub digits_of : Magnitude → List ℕ
digits_of m = reverse (low_digits (room_of m) (m.significand * 2 ^ m.doublings * 5 ^ m.places))

-- the digits before the point, and those behind it
abbrev pub magnitude_text : Magnitude → List ℕ
magnitude_text m =
    before_point (without_leading_zeros (take (room_of m - m.places) (digits_of m)))
    ++ behind_point (without_closing_zeros (drop (room_of m - m.places) (digits_of m)))

abbrev pub sign_text : Bool → List ℕ
sign_text negative = if negative then codes "-" else []

-- the value in decimal, in full
abbrev pub float_value_text : FloatValue → List ℕ
float_value_text NotANumber = codes "nan"
float_value_text (Infinity negative) = sign_text negative ++ codes "inf"
float_value_text (Zero negative) = sign_text negative ++ codes "0"
float_value_text (Finite negative m) = sign_text negative ++ magnitude_text m

-- a float, by the pattern of its bits
unfoldable pub float_text : Format → ℕ → List ℕ
float_text f bits = float_value_text (value_in f bits)

-- an element of a basic type, by the number that its bytes are
abbrev pub value_text : BasicType → ℕ → List ℕ
value_text Float32 number = float_text binary32 number
value_text Float64 number = float_text binary64 number
value_text basic number = element_text basic number

-- the significand isn't greater than this, and the digits have room
abbrev pub FitsRoom : FloatValue → Type 0
FitsRoom NotANumber = Unit {0}
FitsRoom (Infinity negative) = Unit {0}
FitsRoom (Zero negative) = Unit {0}
FitsRoom (Finite negative m) = (m.significand ≤ 2 ^ 60) × (room_of m ≤ 1100)
