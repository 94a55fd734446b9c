-- What stands behind a program is its own.
use Rattle.std.specs.Prelude.{◌≡◌, ℕ, ◌+◌, false, List, [], ◌∷◌, ◌++◌, codes, Option, Some, None, Result, Ok, Err}
use Rattle.std.specs.Str.{bytes_eq}
use Rattle.launch_keeper.specs.Words.{Word}
use Rattle.run_words.specs.declared.fault.WordFault.{WordFault}
use Rattle.run_words.specs.declared.steps.Reading.{Reading}
use Rattle.run_words.specs.declared.steps.Stage.TheVariants as stages
use Rattle.run_words.specs.declared.steps.Step.{Step}
use Rattle.run_words.specs.declared.variables.Variable.{Variable}
use Rattle.run_words.specs.Steps.{start, step}
use Rattle.run_words.specs.Readings.{option_words, set_words}

-- what was read with these words, where all can be followed
abbrev pub reached_on : Result Step WordFault → (Reading → Option Reading) → Option Reading
reached_on (Ok one) rest = rest one.next
reached_on (Err fault) rest = None

abbrev pub reached_from : Reading → ℕ → List Word → Option Reading
reached_from reading place [] = Some reading
reached_from reading place (word ∷ words) =
    reached_on (step reading place word) (λ next. reached_from next (place + 1) words)

-- these words end with a program or its arguments
abbrev pub EndsInSet : List Word → Type 0
EndsInSet words = (last : Reading) × (reached_from start 0 words ≡ Some last) × (last.stage ≡ stages.Argument)

-- none of these words is `:`
abbrev pub HasNoSeparator : List Word → Type 0
HasNoSeparator [] = Unit {0}
HasNoSeparator (word ∷ words) = (bytes_eq word (codes ":") ≡ false) × HasNoSeparator words

-- Words behind a program, up to `:`, are its own: they stay as they are, and none is taken for an option.
abbrev pub ArgumentsStay : Type 0
ArgumentsStay =
    (variables : List Variable) (count : ℕ) (words arguments : List Word) → EndsInSet words →
    HasNoSeparator arguments →
    (set_words count (words ++ arguments) ≡ set_words count words ++ arguments)
    × (option_words variables (words ++ arguments) ≡ option_words variables words)
