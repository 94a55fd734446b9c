-- The words that a launcher hands to a keeper.
use Rattle.std.specs.Prelude.{◌≡◌, ℕ, ◌-◌, ◌==◌, Bool, List, [], ◌∷◌, ◌++◌, length, take, nat_lt, Option, Some, None, if◌then◌else◌}
use Rattle.std.specs.Fmt.{decimal}
use Rattle.std.specs.List.{slice_split}
use Rattle.numerals.specs.Numbers.{number_between}
use Rattle.launch_keeper.specs.Words.{Word}
use Rattle.host_keepers.specs.declared.message.FoundWords.{FoundWords}
use Rattle.host_keepers.specs.declared.message.FoundWords.TheVariants.{Unfinished, Faulty, Whole}

-- each word is ended by a byte 0
abbrev pub is_end : ℕ → Bool
is_end byte = byte == 0

abbrev pub words_text : List Word → List ℕ
words_text [] = []
words_text (word ∷ words) = word ++ 0 ∷ words_text words

-- how many words there are, and the words
abbrev pub message_text : List Word → List ℕ
message_text words = decimal (length words) ++ 0 ∷ words_text words

-- what is found where so many words are to come, and these came
abbrev pub found_by : Option ℕ → List Word → FoundWords
found_by None words = Faulty
found_by (Some count) words = if nat_lt (length words) count then Unfinished else Whole (take count words)

-- what is found in the words that are ended
abbrev pub found_in : List Word → FoundWords
found_in [] = Unfinished
found_in (first ∷ words) = found_by (number_between first 1 65535) words

-- all pieces of a text but what stands behind the last end
abbrev pub ended_words : List ℕ → List Word
ended_words text = take (length (slice_split is_end text) - 1) (slice_split is_end text)

abbrev pub Finds : List ℕ → FoundWords → Type 0
Finds text found = found ≡ found_in (ended_words text)
