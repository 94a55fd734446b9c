-- The words of a line.
use Rattle.std.specs.Prelude.{ℕ, ◌==◌, List, [], ◌∷◌, length, min, take, drop, Option, Some, None, if◌then◌else◌}
use Rattle.std.specs.List.{slice_split}
use Rattle.std.specs.Str.{bytes_eq}
use Rattle.launcher_words.specs.Cuts.{is_byte}

-- what stands behind a `=` at the front
abbrev pub behind_sign : List ℕ → Option (List ℕ)
behind_sign [] = None
behind_sign (first ∷ rest) = if first == 61 then Some rest else None

-- what stands behind `key=`, where the word begins so
abbrev pub value_in : (key word : List ℕ) → Option (List ℕ)
value_in key word =
    if bytes_eq (take (min (length word) (length key)) word) key
    then behind_sign (drop (min (length word) (length key)) word) else None

-- the first value, if there is one
abbrev pub or_later : Option (List ℕ) → Option (List ℕ) → Option (List ℕ)
or_later (Some value) later = Some value
or_later None later = later

-- the value in the first of these words that has one of this key
abbrev pub first_value : (key : List ℕ) → List (List ℕ) → Option (List ℕ)
first_value key [] = None
first_value key (word ∷ words) = or_later (value_in key word) (first_value key words)

-- the value of a key in a line, whose words stand apart by this byte
abbrev pub value_of : (key : List ℕ) (end : ℕ) (line : List ℕ) → Option (List ℕ)
value_of key end line = first_value key (slice_split (is_byte end) line)
