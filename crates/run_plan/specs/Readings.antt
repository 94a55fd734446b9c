-- Reading the words of mpirun from left to right, each by what is due where it stands.
use Rattle.std.specs.Prelude.{ℕ, ◌+◌, Bool, true, false, not, ◌&&◌, ◌==◌, is_some, List, [], ◌∷◌, length, take, min, codes, Option, Some, None}
use Rattle.std.specs.Prelude.{Result, Ok, Err, if◌then◌else◌}
use Rattle.std.specs.List.{list_any}
use Rattle.std.specs.Str.{bytes_eq}
use Rattle.numerals.specs.Numbers.{number_between}
use Rattle.rank_environment.specs.Frames.{frame_in}
use Rattle.launch_keeper.specs.Words.{Word}
use Rattle.run_plan.specs.declared.symbol.NumberOption.{NumberOption}
use Rattle.run_plan.specs.declared.symbol.NumberOption.TheVariants.{Job, BasePort, Restart, Patience, Timeout, Frame, PerHost}
use Rattle.run_plan.specs.declared.symbol.TextOption.{TextOption}
use Rattle.run_plan.specs.declared.symbol.TextOption.TheVariants.{Folder, HostFile, Hosts, Launcher}
use Rattle.run_plan.specs.declared.symbol.Symbol.{Symbol}
use Rattle.run_plan.specs.declared.symbol.Symbol.TheVariants as symbols
use Rattle.run_plan.specs.declared.options.RunOptions.{RunOptions}
use Rattle.run_plan.specs.declared.fault.Wanted.{Wanted}
use Rattle.run_plan.specs.declared.fault.Wanted.TheVariants as wanted
use Rattle.run_plan.specs.declared.fault.RunFault.{RunFault}
use Rattle.run_plan.specs.declared.reading.RunRequest.{RunRequest}
use Rattle.run_plan.specs.declared.reading.Stage.{Stage}
use Rattle.run_plan.specs.declared.reading.Stage.TheVariants as stages
use Rattle.run_plan.specs.declared.reading.Reading.{Reading}
use Rattle.run_plan.specs.Symbols.{symbol_of, least_of, greatest_of}

-- no option was given
abbrev pub nothing_given : RunOptions
nothing_given = record {
  job = None;
  base_port = None;
  restarts = None;
  patience = None;
  timeout = None;
  frame = None;
  per_host = None;
  marks_lines = false;
  keeps_going = false;
  oversubscribes = false;
  folder = None;
  host_file = None;
  hosts = None;
  launcher = None;
}

-- the number that was given of an option
abbrev pub given_of : NumberOption → RunOptions → Option ℕ
given_of Job given = given.job
given_of BasePort given = given.base_port
given_of Restart given = given.restarts
given_of Patience given = given.patience
given_of Timeout given = given.timeout
given_of Frame given = given.frame
given_of PerHost given = given.per_host

-- whether the option was given before
abbrev pub is_given : NumberOption → RunOptions → Bool
is_given option given = is_some (given_of option given)

-- the option's number is this one from now on
abbrev pub with_number : NumberOption → RunOptions → ℕ → RunOptions
with_number Job given n = record given { job = Some n }
with_number BasePort given n = record given { base_port = Some n }
with_number Restart given n = record given { restarts = Some n }
with_number Patience given n = record given { patience = Some n }
with_number Timeout given n = record given { timeout = Some n }
with_number Frame given n = record given { frame = Some n }
with_number PerHost given n = record given { per_host = Some n }

-- whether its number is how long frames are
abbrev pub is_frame : NumberOption → Bool
is_frame Job = false
is_frame BasePort = false
is_frame Restart = false
is_frame Patience = false
is_frame Timeout = false
is_frame Frame = true
is_frame PerHost = false

-- the number of an option that a word spells
unfoldable pub number_in : NumberOption → Word → Option ℕ
number_in option word =
    if is_frame option then frame_in word else number_between word (least_of option) (greatest_of option)

-- what may stand where an option's number is due
abbrev pub wanted_number : NumberOption → Wanted
wanted_number option =
    if is_frame option then wanted.Frame else wanted.Number (least_of option) (greatest_of option)

-- the place of the text that was given of an option
abbrev pub text_of : TextOption → RunOptions → Option ℕ
text_of Folder given = given.folder
text_of HostFile given = given.host_file
text_of Hosts given = given.hosts
text_of Launcher given = given.launcher

-- whether the option was given before
abbrev pub has_text : TextOption → RunOptions → Bool
has_text option given = is_some (text_of option given)

-- the option's text stands at this place from now on
abbrev pub with_text : TextOption → RunOptions → ℕ → RunOptions
with_text Folder given place = record given { folder = Some place }
with_text HostFile given place = record given { host_file = Some place }
with_text Hosts given place = record given { hosts = Some place }
with_text Launcher given place = record given { launcher = Some place }

-- what may stand where an option's text is due
abbrev pub wanted_of : TextOption → Wanted
wanted_of Folder = wanted.Folder
wanted_of HostFile = wanted.HostFile
wanted_of Hosts = wanted.Hosts
wanted_of Launcher = wanted.Launcher

-- a name of a variable isn't empty, has no `=`, and doesn't begin as those of a rank's place do
abbrev pub is_name : Word → Bool
is_name word =
    not (length word == 0) && (not (bytes_eq (take (min (length word) 10) word) (codes "KOMBAZILY_")) &&
    not (list_any (λ byte. byte == 61) word))

-- nothing was read
abbrev pub start : Reading
start = record { options = nothing_given; stage = stages.Option }

-- the same options, with this due
abbrev pub due : Reading → Stage → Reading
due reading stage = record reading { stage = stage }

-- these options, with an option or a set due
abbrev pub with_options : RunOptions → Reading
with_options options = record { options = options; stage = stages.Option }

-- an option that may stand once
abbrev pub unless : Bool → Reading → Result Reading Wanted
unless given next = if given then Err wanted.Once else Ok next

-- where an option may stand
abbrev pub at_option : Reading → ℕ → Symbol → Result Reading Wanted
at_option reading place (symbols.Number option) =
    unless (is_given option reading.options) (due reading (stages.Number option))
at_option reading place symbols.Prefix =
    unless reading.options.marks_lines (with_options (record reading.options { marks_lines = true }))
at_option reading place symbols.KeepGoing =
    unless reading.options.keeps_going (with_options (record reading.options { keeps_going = true }))
at_option reading place symbols.Oversubscribe =
    unless reading.options.oversubscribes (with_options (record reading.options { oversubscribes = true }))
at_option reading place (symbols.Text option) =
    unless (has_text option reading.options) (due reading (stages.Text option))
at_option reading place symbols.Variable = Ok (due reading stages.Name)
at_option reading place symbols.Set = Ok (due reading (stages.Sets place))
at_option reading place symbols.Other = Err wanted.Set

-- a number that was read, or not
abbrev pub number_read : Option ℕ → Reading → NumberOption → Result Reading Wanted
number_read (Some number) reading option = Ok (with_options (with_number option reading.options number))
number_read None reading option = Err (wanted_number option)

-- where an option's number is due
unfoldable pub at_number : Reading → NumberOption → Word → Result Reading Wanted
at_number reading option word = number_read (number_in option word) reading option

-- where an option's text is due, which isn't empty
abbrev pub at_text : Reading → TextOption → ℕ → Word → Result Reading Wanted
at_text reading option place word =
    if length word == 0 then Err (wanted_of option) else Ok (with_options (with_text option reading.options place))

-- one more word, by what is due; behind the first word of the sets all words are theirs
abbrev pub after_at : Stage → Reading → ℕ → Word → Result Reading Wanted
after_at stages.Option reading place word = at_option reading place (symbol_of word)
after_at (stages.Number option) reading place word = at_number reading option word
after_at (stages.Text option) reading place word = at_text reading option place word
after_at stages.Name reading place word = if is_name word then Ok (due reading stages.Value) else Err wanted.Name
after_at stages.Value reading place word = Ok (due reading stages.Option)
after_at (stages.Sets sets) reading place word = Ok reading

-- one more word, which stands at this place
unfoldable pub after : Reading → ℕ → Word → Result Reading Wanted
after reading place word = after_at reading.stage reading place word

-- the words from this place on, where one is at fault that may not stand where it does
abbrev pub read_on : ℕ → Result Reading Wanted → (Reading → Result RunRequest RunFault) → Result RunRequest RunFault
read_on place (Ok next) rest = rest next
read_on place (Err due) rest = Err (record { place = place; wanted = due })

-- what is missing, or what the words ask for
abbrev pub ended_at : Stage → Reading → ℕ → Result RunRequest RunFault
ended_at (stages.Sets sets) reading place = Ok (record { options = reading.options; sets = sets })
ended_at stages.Option reading place = Err (record { place = place; wanted = wanted.Set })
ended_at (stages.Number option) reading place =
    Err (record { place = place; wanted = wanted_number option })
ended_at (stages.Text option) reading place = Err (record { place = place; wanted = wanted_of option })
ended_at stages.Name reading place = Err (record { place = place; wanted = wanted.Name })
ended_at stages.Value reading place = Err (record { place = place; wanted = wanted.Value })

abbrev pub ended : Reading → ℕ → Result RunRequest RunFault
ended reading place = ended_at reading.stage reading place

-- what the words from this place on ask for, behind what was read
abbrev pub read : Reading → ℕ → List Word → Result RunRequest RunFault
read reading place [] = ended reading place
read reading place (word ∷ words) = read_on place (after reading place word) (λ next. read next (place + 1) words)

-- what all words ask for, or the first fault from the left
abbrev pub request_of : List Word → Result RunRequest RunFault
request_of words = read start 0 words

-- the last word names a variable: its value is due
abbrev pub is_value : Stage → Bool
is_value stages.Value = true
is_value stages.Option = false
is_value (stages.Number option) = false
is_value (stages.Text option) = false
is_value stages.Name = false
is_value (stages.Sets sets) = false

abbrev pub has_named : Reading → Bool
has_named reading = is_value reading.stage

-- a place of a name, and those behind it
abbrev pub named_on : ℕ → Result Reading Wanted → (Reading → List ℕ) → List ℕ
named_on place (Ok next) rest = if has_named next then place ∷ rest next else rest next
named_on place (Err due) rest = []

-- the places of the words from this one on that name variables
abbrev pub places_from : Reading → ℕ → List Word → List ℕ
places_from reading place [] = []
places_from reading place (word ∷ words) = named_on place (after reading place word) (λ next. places_from next (place + 1) words)

-- the places of all words that name variables
abbrev pub setting_places : List Word → List ℕ
setting_places words = places_from start 0 words
