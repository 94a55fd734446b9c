-- What all words say, and what they are as own words.
use Rattle.std.specs.Prelude.{ℕ, ◌+◌, Bool, true, false, List, [], ◌∷◌, ◌++◌, Result, Ok, Err, if◌then◌else◌}
use Rattle.launch_keeper.specs.Words.{Word}
use Rattle.run_words.specs.declared.fault.WordFault.{WordFault}
use Rattle.run_words.specs.declared.fault.Trouble.TheVariants as troubles
use Rattle.run_words.specs.declared.reading.Asked.{Asked}
use Rattle.run_words.specs.declared.steps.Reading.{Reading}
use Rattle.run_words.specs.declared.steps.Step.{Step}
use Rattle.run_words.specs.declared.steps.Piece.{Piece}
use Rattle.run_words.specs.declared.steps.Piece.TheVariants as pieces
use Rattle.run_words.specs.declared.variables.Variable.{Variable}
use Rattle.run_words.specs.Steps.{start, step, is_whole}
use Rattle.run_words.specs.Pieces.{option_piece, set_piece}

-- what was read says so where the words may end there
abbrev pub asked_of : Reading → Asked
asked_of reading = record { is_verbose = reading.is_verbose; lacks_number = reading.lacks_number; file = reading.file }

abbrev pub ended : Reading → ℕ → Result Asked WordFault
ended reading place =
    if is_whole reading then Ok (asked_of reading) else Err (record { place = place; trouble = troubles.Missing })

-- the words behind one that was read, unless it can't be followed
abbrev pub read_on : Result Step WordFault → (Reading → Result Asked WordFault) → Result Asked WordFault
read_on (Ok one) rest = rest one.next
read_on (Err fault) rest = Err fault

-- what the words from this place on say, behind what was read
abbrev pub read : Reading → ℕ → List Word → Result Asked WordFault
read reading place [] = ended reading place
read reading place (word ∷ words) = read_on (step reading place word) (λ next. read next (place + 1) words)

-- what all words say, or the first fault from the left
abbrev pub read_words : List Word → Result Asked WordFault
read_words words = read start 0 words

-- what a word adds, and those behind it, unless it can't be followed
abbrev pub piece_on : {A : Type 0} → (Piece → List A) → Result Step WordFault → (Reading → List A) → List A
piece_on said (Ok one) rest = said one.piece ++ rest one.next
piece_on said (Err fault) rest = []

-- what the words from this place on add to the options
abbrev pub options_from : List Variable → Reading → ℕ → List Word → List Word
options_from variables reading place [] = []
options_from variables reading place (word ∷ words) =
    piece_on (λ piece. option_piece variables piece word) (step reading place word)
    (λ next. options_from variables next (place + 1) words)

-- the options among all words
abbrev pub option_words : List Variable → List Word → List Word
option_words variables words = options_from variables start 0 words

-- what the words from this place on add to the sets
abbrev pub sets_from : ℕ → Reading → ℕ → List Word → List Word
sets_from count reading place [] = []
sets_from count reading place (word ∷ words) =
    piece_on (λ piece. set_piece count piece word) (step reading place word)
    (λ next. sets_from count next (place + 1) words)

-- the sets among all words
abbrev pub set_words : ℕ → List Word → List Word
set_words count words = sets_from count start 0 words

-- all words as own words
abbrev pub own_words : List Variable → ℕ → List Word → List Word
own_words variables count words = option_words variables words ++ set_words count words

-- a word is an option without effect
abbrev pub is_idle : Piece → Bool
is_idle pieces.Nothing = false
is_idle pieces.Idle = true
is_idle (pieces.Name option) = false
is_idle pieces.Value = false
is_idle pieces.Variable = false
is_idle pieces.Number = false
is_idle pieces.OfSet = false
is_idle pieces.Program = false

-- a word hands on or sets a variable
abbrev pub is_exported : Piece → Bool
is_exported pieces.Nothing = false
is_exported pieces.Idle = false
is_exported (pieces.Name option) = false
is_exported pieces.Value = false
is_exported pieces.Variable = true
is_exported pieces.Number = false
is_exported pieces.OfSet = false
is_exported pieces.Program = false

-- the places of the words from this one on that are of this kind
abbrev pub places_on : (Piece → Bool) → ℕ → Result Step WordFault → (Reading → List ℕ) → List ℕ
places_on is_kind place (Ok one) rest = if is_kind one.piece then place ∷ rest one.next else rest one.next
places_on is_kind place (Err fault) rest = []

abbrev pub places_from : (Piece → Bool) → Reading → ℕ → List Word → List ℕ
places_from is_kind reading place [] = []
places_from is_kind reading place (word ∷ words) =
    places_on is_kind place (step reading place word) (λ next. places_from is_kind next (place + 1) words)

-- the places of options without effect
abbrev pub idle_places : List Word → List ℕ
idle_places words = places_from is_idle start 0 words

-- the places of variables that are handed on or set
abbrev pub exported_places : List Word → List ℕ
exported_places words = places_from is_exported start 0 words
