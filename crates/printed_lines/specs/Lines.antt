-- The lines that the script of a rank prints.
use Rattle.std.specs.Prelude.{ℕ, List, ◌++◌, ◌∷◌, codes, drop}
use Rattle.std.specs.List.{flat_map}
use Rattle.std.specs.Fmt.{decimal}
use Rattle.datatypes.specs.Contents.{Contents}
use Rattle.printed_lines.specs.Answers.{elements_text}

-- `error N`
abbrev pub error_line : ℕ → List ℕ
error_line number = codes "error " ++ decimal number

-- `pending`
abbrev pub pending_line : List ℕ
pending_line = codes "pending"

-- `none`: a probe found no message
abbrev pub none_line : List ℕ
none_line = codes "none"

-- a line's end and `error N`, for each
abbrev pub further_errors : List ℕ → List ℕ
further_errors numbers = flat_map (λ number. 10 ∷ error_line number) numbers

-- `error N` for each, a line each
abbrev pub error_lines : ℕ → List ℕ → List ℕ
error_lines number numbers = error_line number ++ further_errors numbers

-- the elements of a buffer, a space between two
abbrev pub elements_line : Contents → List ℕ
elements_line buffer = drop 1 (elements_text buffer)

-- a space and the word, for each
abbrev pub spaced_words : List (List ℕ) → List ℕ
spaced_words words = flat_map (λ word. 32 ∷ word) words

-- the words, a space between two
abbrev pub words_line : List (List ℕ) → List ℕ
words_line words = drop 1 (spaced_words words)
