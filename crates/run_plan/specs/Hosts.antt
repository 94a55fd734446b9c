-- How a program is started on another host.
use Rattle.std.specs.Prelude.{ℕ, ◌==◌, Bool, List, [], ◌∷◌, length, codes, if◌then◌else◌}
use Rattle.std.specs.List.{slice_split}
use Rattle.std.specs.Str.{bytes_eq}
use Rattle.launch_keeper.specs.Words.{Word}

-- words stand apart by spaces
abbrev pub is_space : ℕ → Bool
is_space byte = byte == 32

-- the host stands in place of `{host}`
abbrev pub said_word : (host piece : Word) → Word
said_word host piece = if bytes_eq piece (codes "{host}") then host else piece

-- the pieces that aren't empty, as words
abbrev pub said_words : Word → List Word → List Word
said_words host [] = []
said_words host (piece ∷ pieces) =
    if length piece == 0 then said_words host pieces else said_word host piece ∷ said_words host pieces

-- the words of a launcher's text, for this host
abbrev pub launcher_words : (text host : List ℕ) → List Word
launcher_words text host = said_words host (slice_split is_space text)
