-- The sets of mpirun as words of a launch, and back to programs.
use Rattle.std.specs.Prelude.{ℕ, Bool, true, ◌&&◌, List, [], ◌∷◌, ◌++◌, min, length, drop, codes, Option, if◌then◌else◌}
use Rattle.std.specs.Str.{bytes_eq}
use Rattle.launch_keeper.specs.Words.{Word}
use Rattle.launch_plan.specs.Launches.{option_words, optional_words}

-- a word of the sets, with `-n` in place of `-np` where a set begins
abbrev pub plain_word : Bool → Word → Word
plain_word begins word = if begins && bytes_eq word (codes "-np") then codes "-n" else word

-- the words of the sets so; begins: a set begins with the first of them
abbrev pub plain_sets : Bool → List Word → List Word
plain_sets begins [] = []
plain_sets begins (word ∷ words) = plain_word begins word ∷ plain_sets (bytes_eq word (codes ":")) words

-- the words by which the sets are planned
abbrev pub plan_words : ℕ → ℕ → ℕ → Option ℕ → List Word → List Word
plan_words job base_port restarts patience sets =
    option_words (codes "-job") job ++ option_words (codes "-baseport") base_port
    ++ option_words (codes "-restart") restarts ++ optional_words (codes "-patience") patience ++ plain_sets true sets

-- how many words tell a place, with or without the patience
abbrev pub place_words : Bool → ℕ
place_words has_patience = if has_patience then 12 else 10

-- the words of a start without those that tell its place
abbrev pub program_words : List Word → Bool → List Word
program_words [] has_patience = []
program_words (program ∷ words) has_patience =
    program ∷ drop (min (length words) (place_words has_patience)) words
