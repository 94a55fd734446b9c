-- Reading words from left to right, each by what is due where it stands.
use Rattle.std.specs.Prelude.{ℕ, ◌-◌, ◌&&◌, ◌||◌, Bool, true, false, not}
use Rattle.std.specs.Prelude.{nat_lt, codes, Option, Some, None, Result, Ok, Err}
use Rattle.std.specs.Prelude.{if◌then◌else◌}
use Rattle.std.specs.Str.{bytes_eq}
use Rattle.launch_keeper.specs.Words.{Word}
use Rattle.run_words.specs.declared.symbol.OwnOption.{OwnOption}
use Rattle.run_words.specs.declared.symbol.Symbol.{Symbol}
use Rattle.run_words.specs.declared.symbol.Symbol.TheVariants as symbols
use Rattle.run_words.specs.declared.fault.Trouble.{Trouble}
use Rattle.run_words.specs.declared.fault.Trouble.TheVariants as troubles
use Rattle.run_words.specs.declared.fault.WordFault.{WordFault}
use Rattle.run_words.specs.declared.steps.Stage.{Stage}
use Rattle.run_words.specs.declared.steps.Stage.TheVariants as stages
use Rattle.run_words.specs.declared.steps.Reading.{Reading}
use Rattle.run_words.specs.declared.steps.Piece.{Piece}
use Rattle.run_words.specs.declared.steps.Piece.TheVariants as pieces
use Rattle.run_words.specs.declared.steps.Step.{Step}
use Rattle.run_words.specs.Symbols.{symbol_of, value_count, is_of_set}

-- nothing was read
abbrev pub start : Reading
start = record {
  stage = stages.Option;
  has_number = false;
  is_further = false;
  lacks_number = false;
  is_verbose = false;
  of_set = None;
  file = None;
}

-- where so many values are left of an option
abbrev pub values_behind : ℕ → Stage
values_behind count = if nat_lt 0 count then stages.Values count else stages.Option

-- the same of an option without effect
abbrev pub idle_behind : ℕ → Stage
idle_behind count = if nat_lt 0 count then stages.IdleValues count else stages.Option

-- a word that can't be followed
abbrev pub refused : ℕ → Trouble → Result Step WordFault
refused place trouble = Err (record { place = place; trouble = trouble })

-- the same, with this due
abbrev pub due : Reading → Stage → Reading
due reading stage = record reading { stage = stage }

-- the same with this due, by a word that adds this
abbrev pub kept : Reading → Stage → Piece → Result Step WordFault
kept reading stage piece = Ok (record { next = due reading stage; piece = piece })

-- the first option behind the first number that others take as one of that set alone
abbrev pub first_of_set : Option ℕ → Bool → ℕ → Option ℕ
first_of_set (Some first) stands place = Some first
first_of_set None stands place = if stands then Some place else None

abbrev pub of_set_from : Reading → ℕ → Bool → Option ℕ
of_set_from reading place of_set = first_of_set reading.of_set (of_set && reading.has_number) place

-- with an option at this place
abbrev pub marked : Reading → ℕ → Bool → Reading
marked reading place of_set = record reading { of_set = of_set_from reading place of_set }

-- an option that has an effect stands in front of further sets
abbrev pub begin_own : Reading → ℕ → OwnOption → Result Step WordFault
begin_own reading place option =
    if reading.is_further then refused place troubles.InFront
    else kept (marked reading place (is_of_set option)) (values_behind (value_count option)) (pieces.Name option)

-- so does a variable
abbrev pub begin_variable : Reading → ℕ → Result Step WordFault
begin_variable reading place =
    if reading.is_further then refused place troubles.InFront
    else kept (marked reading place true) stages.Variable pieces.Nothing

-- a set has one number of processes
abbrev pub begin_number : Reading → ℕ → Result Step WordFault
begin_number reading place =
    if reading.has_number then refused place troubles.Again else kept reading stages.Number pieces.Number

-- a file of sets stands in place of all sets
abbrev pub begin_file : Reading → ℕ → Result Step WordFault
begin_file reading place =
    if reading.is_further || reading.has_number then refused place troubles.InFront
    else kept reading stages.File pieces.Nothing

-- a program begins, with a number of processes or without
abbrev pub begin_program : Reading → Result Step WordFault
begin_program reading =
    kept (record reading { lacks_number = reading.lacks_number || not reading.has_number }) stages.Argument
    (if reading.has_number then pieces.OfSet else pieces.Program)

-- a further set begins, unless an option of the first set alone stands in front of it
abbrev pub begin_set_by : Option ℕ → Reading → Result Step WordFault
begin_set_by (Some first) reading = refused first troubles.InFront
begin_set_by None reading =
    kept (record reading { has_number = false; is_further = true }) stages.Option pieces.OfSet

abbrev pub begin_set : Reading → Result Step WordFault
begin_set reading = begin_set_by reading.of_set reading

-- where an option may stand
abbrev pub at_option : Reading → ℕ → Symbol → Result Step WordFault
at_option reading place (symbols.Own option) = begin_own reading place option
at_option reading place (symbols.Idle count) = kept reading (idle_behind count) pieces.Idle
at_option reading place symbols.Count = begin_number reading place
at_option reading place symbols.Export = begin_variable reading place
at_option reading place symbols.Verbose = kept (record reading { is_verbose = true }) stages.Option pieces.Nothing
at_option reading place symbols.File = begin_file reading place
at_option reading place symbols.OptionsEnd = kept reading stages.Program pieces.Nothing
at_option reading place symbols.Usage = refused place troubles.Usage
at_option reading place symbols.Version = refused place troubles.Version
at_option reading place symbols.Separator = refused place troubles.Program
at_option reading place symbols.Joined = refused place troubles.Joined
at_option reading place symbols.Unknown = refused place troubles.NoOption
at_option reading place symbols.Program = begin_program reading

-- behind a program all words are its own, up to `:`
abbrev pub at_argument : Reading → Word → Result Step WordFault
at_argument reading word =
    if bytes_eq word (codes ":") then begin_set reading else kept reading stages.Argument pieces.OfSet

-- one more word, by what is due
abbrev pub step_at : Stage → Reading → ℕ → Word → Result Step WordFault
step_at stages.Option reading place word = at_option reading place (symbol_of word)
step_at (stages.Values count) reading place word = kept reading (values_behind (count - 1)) pieces.Value
step_at (stages.IdleValues count) reading place word = kept reading (idle_behind (count - 1)) pieces.Nothing
step_at stages.Number reading place word = kept (record reading { has_number = true }) stages.Option pieces.OfSet
step_at stages.Variable reading place word = kept reading stages.Option pieces.Variable
step_at stages.File reading place word = kept (record reading { file = Some place }) stages.Nothing pieces.Nothing
step_at stages.Nothing reading place word = refused place troubles.Further
step_at stages.Program reading place word = begin_program reading
step_at stages.Argument reading place word = at_argument reading word

-- one more word, which stands at this place
unfoldable pub step : Reading → ℕ → Word → Result Step WordFault
step reading place word = step_at reading.stage reading place word

-- the words may end where no value is due that an option needs
abbrev pub is_whole_at : Stage → Bool
is_whole_at stages.Option = true
is_whole_at (stages.Values count) = false
is_whole_at (stages.IdleValues count) = false
is_whole_at stages.Number = true
is_whole_at stages.Variable = false
is_whole_at stages.File = false
is_whole_at stages.Nothing = true
is_whole_at stages.Program = true
is_whole_at stages.Argument = true

abbrev pub is_whole : Reading → Bool
is_whole reading = is_whole_at reading.stage
