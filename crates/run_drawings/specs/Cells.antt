-- One row of characters.
use Rattle.std.specs.Prelude.{ℕ, ◌&&◌, nat_le, List, [], ◌∷◌, slice_set, if◌then◌else◌, suc, zero}
use Rattle.run_drawings.specs.Layout.{plus}

-- a byte that isn't printable ASCII, from the space to `~`, is shown as `?`
abbrev pub character_of : ℕ → ℕ
character_of byte = if nat_le 32 byte && nat_le byte 126 then byte else 63

-- a text over the row from a place on, as far as the row goes
abbrev pub with_text : (row : List ℕ) (place : ℕ) (text : List ℕ) → List ℕ
with_text row place [] = row
with_text row place (byte ∷ bytes) = with_text (slice_set row place (character_of byte)) (plus place 1) bytes

-- one character over so many places of the row from one on
abbrev pub filled : (row : List ℕ) (first count : ℕ) (character : ℕ) → List ℕ
filled row first zero character = row
filled row first (suc count) character = filled (slice_set row first character) (plus first 1) count character
