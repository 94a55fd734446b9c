-- How a word is shown, byte by byte.
use Rattle.std.specs.Prelude.{ℕ, ◌&&◌, nat_le, List, ◌++◌, length, take, map, codes, if◌then◌else◌}

-- a byte that isn't printable ASCII, from the space to `~`, is shown as `?`
abbrev pub printable : ℕ → ℕ
printable byte = if nat_le 32 byte && nat_le byte 126 then byte else 63

-- the word's first 80 bytes, and ` ..` where it has more
unfoldable pub shown : List ℕ → List ℕ
shown word = if nat_le (length word) 80 then map printable word else map printable (take 80 word) ++ codes " .."
