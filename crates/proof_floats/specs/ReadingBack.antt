-- What is printed of a float reads back as the same number.
use Rattle.std.specs.Prelude.{◌≡◌, ℕ, Some, from_bits}
use Rattle.std.specs.Float.Ieee.{Format}
use Rattle.fast_float.specs.Parse.{parse_float}
use Rattle.float_texts.specs.Texts.{float_text}

-- By the reader of scripts and files of events, whatever the bits: a NaN is read as a NaN, all else as it was, a zero
-- with its sign
abbrev pub TextsReadBack : Type 0
TextsReadBack = (f : Format) (bits : ℕ) → parse_float f (float_text f bits) ≡ Some (from_bits f bits)
