-- What each word adds to the options and to the sets.
use Rattle.std.specs.Prelude.{ℕ, List, [], ◌∷◌, min, length, drop, codes, Option, Some, None}
use Rattle.std.specs.Prelude.{if◌then◌else◌}
use Rattle.std.specs.Str.{bytes_eq}
use Rattle.std.specs.List.{position_from}
use Rattle.std.specs.Fmt.{decimal}
use Rattle.launch_keeper.specs.Words.{Word}
use Rattle.run_words.specs.declared.symbol.OwnOption.TheVariants as options
use Rattle.run_words.specs.declared.steps.Piece.{Piece}
use Rattle.run_words.specs.declared.steps.Piece.TheVariants as pieces
use Rattle.run_words.specs.declared.variables.Variable.{Variable}
use Rattle.run_words.specs.Symbols.{own_name, is_equals, before_equals}

-- the option that sets a variable
abbrev pub setting_words : (name value : Word) → List Word
setting_words name value = own_name options.Variable ∷ name ∷ value ∷ []

-- the value of the first variable of this name
abbrev pub value_of : Word → List Variable → Option Word
value_of name [] = None
value_of name (variable ∷ variables) =
    if bytes_eq variable.name name then Some variable.value else value_of name variables

-- what stands behind the byte at this place
abbrev pub from_place : ℕ → Word → Word
from_place place word = drop (min place (length word)) word

abbrev pub behind_equals : ℕ → Word → Word
behind_equals place word = drop (min (length (from_place place word)) 1) (from_place place word)

-- a variable that has a value is set
abbrev pub given_words : Word → Option Word → List Word
given_words name None = []
given_words name (Some value) = setting_words name value

-- NAME=VALUE, or a name
abbrev pub variable_words_by : Option ℕ → List Variable → Word → List Word
variable_words_by (Some place) variables word = setting_words (before_equals word) (behind_equals place word)
variable_words_by None variables word = given_words word (value_of word variables)

abbrev pub variable_words : List Variable → Word → List Word
variable_words variables word = variable_words_by (position_from is_equals 0 word) variables word

-- what a word adds to the options
abbrev pub option_piece : List Variable → Piece → Word → List Word
option_piece variables pieces.Nothing word = []
option_piece variables pieces.Idle word = []
option_piece variables (pieces.Name option) word = own_name option ∷ []
option_piece variables pieces.Value word = word ∷ []
option_piece variables pieces.Variable word = variable_words variables word
option_piece variables pieces.Number word = []
option_piece variables pieces.OfSet word = []
option_piece variables pieces.Program word = []

-- a program with a number of processes
abbrev pub counted : ℕ → Word → List Word
counted count program = codes "-n" ∷ decimal count ∷ program ∷ []

-- what a word adds to the sets
abbrev pub set_piece : ℕ → Piece → Word → List Word
set_piece count pieces.Nothing word = []
set_piece count pieces.Idle word = []
set_piece count (pieces.Name option) word = []
set_piece count pieces.Value word = []
set_piece count pieces.Variable word = []
set_piece count pieces.Number word = codes "-n" ∷ []
set_piece count pieces.OfSet word = word ∷ []
set_piece count pieces.Program word = counted count word
