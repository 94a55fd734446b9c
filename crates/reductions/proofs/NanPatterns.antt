-- Which patterns are a NaN's, by one comparison.
use Rattle.std.proofs.Common.{◌≡◌, ℕ, ◌%◌, ltb, sym}
use Rattle.std.specs.Float.Ieee.{binary32, binary64, nan_bits}
use lib.Ieee.Bits.{nan_bits_above}

pub nan_64 : (n : ℕ) → ltb 0x7ff0000000000000 (n % 0x8000000000000000) ≡ nan_bits binary64 n
nan_64 n = sym (nan_bits_above binary64 n)

pub nan_32 : (n : ℕ) → ltb 0x7f800000 (n % 0x80000000) ≡ nan_bits binary32 n
nan_32 n = sym (nan_bits_above binary32 n)
