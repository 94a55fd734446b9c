-- What stands behind a program is its own.
use Rattle.std.proofs.Common.{◌≡◌, ℕ, ◌+◌, Bool, false, List, [], ◌∷◌}
use Rattle.std.proofs.Common.{◌++◌, Option, Some, None, refl, sym, ap, ◌∙◌, append_assoc}
use Rattle.std.specs.Prelude.{codes, Result, Ok, Err, if◌then◌else◌}
use Rattle.std.specs.Str.{bytes_eq}
use Rattle.launch_keeper.specs.Words.{Word}
use Rattle.run_words.specs.declared.fault.WordFault.{WordFault}
use Rattle.run_words.specs.declared.steps.Stage.{Stage}
use Rattle.run_words.specs.declared.steps.Stage.TheVariants as stages
use Rattle.run_words.specs.declared.steps.Reading.{Reading}
use Rattle.run_words.specs.declared.steps.Piece.TheVariants as pieces
use Rattle.run_words.specs.declared.steps.Step.{Step}
use Rattle.run_words.specs.declared.variables.Variable.{Variable}
use Rattle.run_words.specs.Steps.{begin_set, due, kept, start, step, step_at}
use Rattle.run_words.specs.Pieces.{option_piece, set_piece}
use Rattle.run_words.specs.Readings.{options_from, piece_on, sets_from}
use Rattle.run_words.specs.Arguments.{ArgumentsStay, HasNoSeparator, reached_from, reached_on}

-- an argument is read
argument_step : (reading : Reading) (place : ℕ) (word : Word) → reading.stage ≡ stages.Argument →
    bytes_eq word (codes ":") ≡ false → step reading place word ≡ kept reading stages.Argument pieces.OfSet
unfolding step
argument_step reading place word at other =
    ap (λ (s : Stage). step_at s reading place word) at ∙
    ap (λ (t : Bool). if t then begin_set reading else kept reading stages.Argument pieces.OfSet) other

-- what a word and those behind it add to the sets
abbrev pub sets_on : ℕ → ℕ → Word → List Word → Result Step WordFault → List Word
sets_on count place word words one =
    piece_on (λ piece. set_piece count piece word) one (λ next. sets_from count next (place + 1) words)

-- and to the options
abbrev pub options_on : List Variable → ℕ → Word → List Word → Result Step WordFault → List Word
options_on variables place word words one =
    piece_on (λ piece. option_piece variables piece word) one (λ next. options_from variables next (place + 1) words)

-- arguments are of their set as they are
sets_of_arguments : (count place : ℕ) (reading : Reading) (arguments : List Word) → reading.stage ≡ stages.Argument →
    HasNoSeparator arguments → sets_from count reading place arguments ≡ arguments
sets_of_arguments count place reading [] at none = refl
sets_of_arguments count place reading (word ∷ arguments) at none =
    ap (λ (r : Result Step WordFault). sets_on count place word arguments r)
    (argument_step reading place word at none.0) ∙
    ap (λ (l : List Word). word ∷ l)
    (sets_of_arguments count (place + 1) (due reading stages.Argument) arguments refl none.1)

-- and none is an option
options_of_arguments : (variables : List Variable) (place : ℕ) (reading : Reading) (arguments : List Word) →
    reading.stage ≡ stages.Argument → HasNoSeparator arguments → options_from variables reading place arguments ≡ []
options_of_arguments variables place reading [] at none = refl
options_of_arguments variables place reading (word ∷ arguments) at none =
    ap (λ (r : Result Step WordFault). options_on variables place word arguments r)
    (argument_step reading place word at none.0) ∙
    options_of_arguments variables (place + 1) (due reading stages.Argument) arguments refl none.1

-- what is due in what was read, if that is there
abbrev pub stage_in : Reading → Option Reading → Stage
stage_in other (Some reading) = reading.stage
stage_in other None = other.stage

-- the same is due where it is reached without a word
same_stage : (reading last : Reading) → Some reading ≡ Some last → last.stage ≡ stages.Argument →
    reading.stage ≡ stages.Argument
same_stage reading last is at = ap (λ (o : Option Reading). stage_in reading o) is ∙ at

-- one word more in front
sets_behind : (count place : ℕ) (word : Word) (words arguments : List Word) (last : Reading)
    (one : Result Step WordFault) → ((next : Reading) → reached_from next (place + 1) words ≡ Some last →
    sets_from count next (place + 1) (words ++ arguments) ≡ sets_from count next (place + 1) words ++ arguments) →
    reached_on one (λ next. reached_from next (place + 1) words) ≡ Some last →
    sets_on count place word (words ++ arguments) one ≡ sets_on count place word words one ++ arguments
sets_behind count place word words arguments last (Ok one) along is =
    ap (λ (l : List Word). set_piece count one.piece word ++ l) (along one.next is) ∙
    sym (append_assoc (set_piece count one.piece word) (sets_from count one.next (place + 1) words) arguments)
sets_behind count place word words arguments last (Err fault) along is = absurd cc

sets_along : (count place : ℕ) (reading last : Reading) (words arguments : List Word) →
    reached_from reading place words ≡ Some last → last.stage ≡ stages.Argument → HasNoSeparator arguments →
    sets_from count reading place (words ++ arguments) ≡ sets_from count reading place words ++ arguments
sets_along count place reading last [] arguments is at none =
    sets_of_arguments count place reading arguments (same_stage reading last is at) none
sets_along count place reading last (word ∷ words) arguments is at none =
    sets_behind count place word words arguments last (step reading place word)
    (λ next reached. sets_along count (place + 1) next last words arguments reached at none) is

options_behind : (variables : List Variable) (place : ℕ) (word : Word) (words arguments : List Word) (last : Reading)
    (one : Result Step WordFault) → ((next : Reading) → reached_from next (place + 1) words ≡ Some last →
    options_from variables next (place + 1) (words ++ arguments) ≡ options_from variables next (place + 1) words) →
    reached_on one (λ next. reached_from next (place + 1) words) ≡ Some last →
    options_on variables place word (words ++ arguments) one ≡ options_on variables place word words one
options_behind variables place word words arguments last (Ok one) along is =
    ap (λ (l : List Word). option_piece variables one.piece word ++ l) (along one.next is)
options_behind variables place word words arguments last (Err fault) along is = absurd cc

options_along : (variables : List Variable) (place : ℕ) (reading last : Reading) (words arguments : List Word) →
    reached_from reading place words ≡ Some last → last.stage ≡ stages.Argument → HasNoSeparator arguments →
    options_from variables reading place (words ++ arguments) ≡ options_from variables reading place words
options_along variables place reading last [] arguments is at none =
    options_of_arguments variables place reading arguments (same_stage reading last is at) none
options_along variables place reading last (word ∷ words) arguments is at none =
    options_behind variables place word words arguments last (step reading place word)
    (λ next reached. options_along variables (place + 1) next last words arguments reached at none) is

pub arguments_stay : ArgumentsStay
arguments_stay variables count words arguments ends none = (
  sets_along count 0 start ends.0 words arguments ends.1 ends.2 none,
  options_along variables 0 start ends.0 words arguments ends.1 ends.2 none,
)
