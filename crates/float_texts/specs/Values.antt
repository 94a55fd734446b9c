-- What the bits of a float say (IEEE 754, 3.4).
use Rattle.std.specs.Prelude.{ℕ, ◌+◌, ◌-◌, ◌/◌, ◌%◌, ◌==◌, nat_le, Bool, if◌then◌else◌}
use Rattle.std.specs.Float.Ieee.{Format, binary32, binary64, hid, ones, top, low}
use Rattle.float_texts.specs.declared.parts.Magnitude.{Magnitude}
use Rattle.float_texts.specs.declared.parts.FloatBits.{FloatBits}
use Rattle.float_texts.specs.declared.parts.FloatBits.TheVariants.{Binary32, Binary64}
use Rattle.float_texts.specs.declared.parts.FloatValue.{FloatValue}
use Rattle.float_texts.specs.declared.parts.FloatValue.TheVariants.{NotANumber, Infinity, Zero, Finite}

-- The significand that the exponent's field and the digits below the leading one say: a field of 0 has no leading digit.
abbrev pub significand_of : Format → ℕ → ℕ → ℕ
significand_of f field fraction = (if field == 0 then 0 else hid f) + fraction

-- the magnitude that they say: a field of 0 counts as a field of 1
abbrev pub magnitude_of : Format → ℕ → ℕ → Magnitude
magnitude_of f field fraction =
    record {
      significand = significand_of f field fraction;
      doublings = field - 1 - low f;
      places = low f - (field - 1);
    }

-- a field of ones is that of an infinity or of no number
abbrev pub value_by : Format → Bool → ℕ → ℕ → FloatValue
value_by f negative field fraction =
    if field == ones f
    then (if fraction == 0 then Infinity negative else NotANumber)
    else
    (if significand_of f field fraction == 0
    then Zero negative
    else Finite negative (magnitude_of f field fraction))

-- the value of a pattern: its sign, the exponent's field, and the digits below the leading one
abbrev pub value_in : Format → ℕ → FloatValue
value_in f bits = value_by f (nat_le (top f) bits) (bits % top f / hid f) (bits % hid f)

abbrev pub value_of : FloatBits → FloatValue
value_of (Binary32 bits) = value_in binary32 bits
value_of (Binary64 bits) = value_in binary64 bits
