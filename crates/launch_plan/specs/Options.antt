-- Reading the launcher's own options from left to right, with the first fault that is met.
use Rattle.std.specs.Prelude.{ℕ, Bool, is_some, List, [], ◌∷◌, Option, Some, None, Result, Ok, Err, if◌then◌else◌}
use Rattle.launch_plan.specs.declared.refusal.LaunchRefusal.{LaunchRefusal}
use Rattle.launch_plan.specs.declared.refusal.LaunchRefusal.TheVariants as refusals
use Rattle.launch_plan.specs.declared.symbol.OwnOption.{OwnOption}
use Rattle.launch_plan.specs.declared.symbol.OwnOption.TheVariants.{Job, BasePort, Restart, Patience}
use Rattle.launch_plan.specs.declared.symbol.Symbol.{Symbol}
use Rattle.launch_plan.specs.declared.symbol.Symbol.TheVariants as symbols
use Rattle.launch_plan.specs.declared.given_options.GivenOptions.{GivenOptions}
use Rattle.numerals.specs.Numbers.{number_between}
use Rattle.launch_keeper.specs.Words.{Word}
use Rattle.launch_plan.specs.Symbols.{symbol_of, least_of, greatest_of}
use Rattle.launch_plan.specs.Results.{◌>>=◌, required}

-- no option was given
abbrev pub nothing_given : GivenOptions
nothing_given = record { job = None; base_port = None; restarts = None; patience = None }

-- the value that was given of an option
abbrev pub given_of : OwnOption → GivenOptions → Option ℕ
given_of Job given = given.job
given_of BasePort given = given.base_port
given_of Restart given = given.restarts
given_of Patience given = given.patience

-- whether the option was given before
abbrev pub is_given : OwnOption → GivenOptions → Bool
is_given option given = is_some (given_of option given)

-- the option's value is this number from now on
abbrev pub with_number : OwnOption → GivenOptions → ℕ → GivenOptions
with_number Job given n = record given { job = Some n }
with_number BasePort given n = record given { base_port = Some n }
with_number Restart given n = record given { restarts = Some n }
with_number Patience given n = record given { patience = Some n }

-- a word where an option's value is due
unfoldable pub with_value : OwnOption → GivenOptions → Word → Result GivenOptions LaunchRefusal
with_value option given word =
    required (number_between word (least_of option) (greatest_of option)) refusals.WrongValue >>= λ n. Ok
    (with_number option given n)

-- The own options, and what stands behind them: the name of a configuration file with the words after
-- it, or the words of the sets.
pub record Opening : Type 0 where
  pub given : GivenOptions
  pub file : Option Word
  pub rest : List Word

-- these options, with the words of the sets behind them
abbrev pub at_sets : GivenOptions → List Word → Opening
at_sets given words = record { given = given; file = None; rest = words }

-- these options, with a configuration file's name and more words behind them
abbrev pub at_file : GivenOptions → Word → List Word → Opening
at_file given name rest = record { given = given; file = Some name; rest = rest }

-- a last word: an option there lacks its value
abbrev pub where_last : Symbol → GivenOptions → Word → Result Opening LaunchRefusal
where_last (symbols.Own option) given word = if is_given option given then Err refusals.WrongOption else
    Err refusals.WrongValue
where_last symbols.File given word = Err refusals.WrongValue
where_last symbols.Count given word = Ok (at_sets given (word ∷ []))
where_last symbols.LeftOut given word = Ok (at_sets given (word ∷ []))
where_last symbols.Unknown given word = Ok (at_sets given (word ∷ []))
where_last symbols.Separator given word = Ok (at_sets given (word ∷ []))
where_last symbols.Program given word = Ok (at_sets given (word ∷ []))

-- a word with others behind it; next reads on behind an option and its value
abbrev pub where_option : Symbol → GivenOptions → Word → Word → List Word →
    (GivenOptions → Result Opening LaunchRefusal) → Result Opening LaunchRefusal
where_option (symbols.Own option) given word value rest next =
    if is_given option given then Err refusals.WrongOption else (with_value option given value >>= next)
where_option symbols.File given word value rest next = Ok (at_file given value rest)
where_option symbols.Count given word value rest next = Ok (at_sets given (word ∷ value ∷ rest))
where_option symbols.LeftOut given word value rest next = Ok (at_sets given (word ∷ value ∷ rest))
where_option symbols.Unknown given word value rest next = Ok (at_sets given (word ∷ value ∷ rest))
where_option symbols.Separator given word value rest next = Ok (at_sets given (word ∷ value ∷ rest))
where_option symbols.Program given word value rest next = Ok (at_sets given (word ∷ value ∷ rest))

-- the words, where these options were given before
unfoldable pub opening_of : GivenOptions → List Word → Result Opening LaunchRefusal
opening_of given [] = Ok (at_sets given [])
opening_of given (word ∷ []) = where_last (symbol_of word) given word
opening_of given (word ∷ value ∷ rest) =
    where_option (symbol_of word) given word value rest (λ next. opening_of next rest)

-- the configuration file's name, where the words reach one
abbrev pub name_in : Result Opening LaunchRefusal → Option Word
name_in (Ok opening) = opening.file
name_in (Err fault) = None
