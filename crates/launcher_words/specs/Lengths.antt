-- How long a record of PMI-2 is.
use Rattle.std.specs.Prelude.{ℕ, Bool, not, ◌==◌, List, [], ◌∷◌, length, filter, Option, Some, None}
use Rattle.std.specs.List.{slice_split}
use Rattle.numerals.specs.Numbers.{number_between}
use Rattle.launcher_words.specs.Cuts.{is_byte}

abbrev pub is_nonempty : List ℕ → Bool
is_nonempty word = not (length word == 0)

-- the one word among these and one that was found before, if there is just one
abbrev pub only_of : Option (List ℕ) → List (List ℕ) → Option (List ℕ)
only_of found [] = found
only_of None (word ∷ words) = only_of (Some word) words
only_of (Some found) (word ∷ words) = None

-- the only word of a text that has blanks around it
abbrev pub only_word : List ℕ → Option (List ℕ)
only_word text = only_of None (filter is_nonempty (slice_split (is_byte 32) text))

abbrev pub length_by : Option (List ℕ) → Option ℕ
length_by None = None
length_by (Some word) = number_between word 0 999999

-- how many bytes follow
abbrev pub record_length : List ℕ → Option ℕ
record_length front = length_by (only_word front)
