-- What a word is where an option may stand: the options by all their names.
use Rattle.std.specs.Prelude.{ℕ, ◌==◌, ◌&&◌, ◌||◌, Bool, true, false, not}
use Rattle.std.specs.Prelude.{nat_lt, is_some, min, length, take, drop, codes, slice_index}
use Rattle.std.specs.Prelude.{unwrap_or, Option, Some, None, if◌then◌else◌}
use Rattle.std.specs.List.{position_from}
use Rattle.std.specs.Str.{bytes_eq}
use Rattle.std.specs.Char.{is_ascii_digit}
use Rattle.launch_keeper.specs.Words.{Word}
use Rattle.run_words.specs.declared.symbol.OwnOption.{OwnOption}
use Rattle.run_words.specs.declared.symbol.OwnOption.TheVariants.{Job, BasePort, Restart, Patience, Timeout, Frame, PerHost}
use Rattle.run_words.specs.declared.symbol.OwnOption.TheVariants.{Prefix, KeepGoing, Oversubscribe, Folder, HostFile, Hosts}
use Rattle.run_words.specs.declared.symbol.OwnOption.TheVariants.{Launcher, Variable}
use Rattle.run_words.specs.declared.symbol.Symbol.{Symbol}
use Rattle.run_words.specs.declared.symbol.Symbol.TheVariants as symbols

-- the one name of an option in the words that are handed on
unfoldable pub own_name : OwnOption → Word
own_name Job = codes "-job"
own_name BasePort = codes "-baseport"
own_name Restart = codes "-restart"
own_name Patience = codes "-patience"
own_name Timeout = codes "-timeout"
own_name Frame = codes "-frame"
own_name PerHost = codes "-ppn"
own_name Prefix = codes "-prefix"
own_name KeepGoing = codes "-keep-going"
own_name Oversubscribe = codes "-oversubscribe"
own_name Folder = codes "-wdir"
own_name HostFile = codes "-hostfile"
own_name Hosts = codes "-host"
own_name Launcher = codes "-launcher"
own_name Variable = codes "-env"

-- how many values stand behind it
abbrev pub value_count : OwnOption → ℕ
value_count Job = 1
value_count BasePort = 1
value_count Restart = 1
value_count Patience = 1
value_count Timeout = 1
value_count Frame = 1
value_count PerHost = 1
value_count Prefix = 0
value_count KeepGoing = 0
value_count Oversubscribe = 0
value_count Folder = 1
value_count HostFile = 1
value_count Hosts = 1
value_count Launcher = 1
value_count Variable = 2

-- whether others take it, behind `-n`, as an option of its set alone
abbrev pub is_of_set : OwnOption → Bool
is_of_set Job = false
is_of_set BasePort = false
is_of_set Restart = false
is_of_set Patience = false
is_of_set Timeout = false
is_of_set Frame = false
is_of_set PerHost = false
is_of_set Prefix = false
is_of_set KeepGoing = false
is_of_set Oversubscribe = false
is_of_set Folder = true
is_of_set HostFile = false
is_of_set Hosts = true
is_of_set Launcher = false
is_of_set Variable = true

-- the option of this name whose value is a number
unfoldable pub number_option : Word → Option OwnOption
number_option word =
    if bytes_eq word (codes "-job") then Some Job
    else (if bytes_eq word (codes "-baseport") then Some BasePort
    else (if bytes_eq word (codes "-restart") then Some Restart
    else (if bytes_eq word (codes "-patience") then Some Patience
    else (if bytes_eq word (codes "-timeout") then Some Timeout
    else (if bytes_eq word (codes "-frame") then Some Frame
    else None)))))

-- the option of this name that says where ranks are
unfoldable pub host_option : Word → Option OwnOption
host_option word =
    if bytes_eq word (codes "-hostfile") || bytes_eq word (codes "-machinefile") || bytes_eq word (codes "-f")
    then Some HostFile
    else (if bytes_eq word (codes "-host") || bytes_eq word (codes "-hosts") || bytes_eq word (codes "-H")
    then Some Hosts
    else (if bytes_eq word (codes "-ppn") || bytes_eq word (codes "-perhost") || bytes_eq word (codes "-npernode") ||
    bytes_eq word (codes "-N") then Some PerHost
    else None))

-- the option of this name whose value is a text, or two
unfoldable pub text_option : Word → Option OwnOption
text_option word =
    if bytes_eq word (codes "-wdir") || bytes_eq word (codes "-wd") then Some Folder
    else (if bytes_eq word (codes "-launcher") then Some Launcher
    else (if bytes_eq word (codes "-env") || bytes_eq word (codes "-genv") then Some Variable
    else None))

-- the option of this name without a value
unfoldable pub flag_option : Word → Option OwnOption
flag_option word =
    if bytes_eq word (codes "-prefix") || bytes_eq word (codes "-l") || bytes_eq word (codes "-tag-output") ||
    bytes_eq word (codes "-prepend-rank") then Some Prefix
    else (if bytes_eq word (codes "-keep-going") then Some KeepGoing
    else (if bytes_eq word (codes "-oversubscribe") then Some Oversubscribe
    else None))

-- the first of two that is there
abbrev pub first_of : {A : Type 0} → Option A → Option A → Option A
first_of (Some one) other = Some one
first_of None other = other

-- the option of this name that no number follows
abbrev pub other_option : Word → Option OwnOption
other_option word = first_of (text_option word) (flag_option word)

-- the option of this name that has an effect
abbrev pub own_option : Word → Option OwnOption
own_option word = first_of (number_option word) (first_of (host_option word) (other_option word))

-- options without value that are taken and have no effect
unfoldable pub is_idle_flag : Word → Bool
is_idle_flag word =
    bytes_eq word (codes "-abort") || bytes_eq word (codes "-allow-run-as-root") ||
    bytes_eq word (codes "-report-bindings") ||
    bytes_eq word (codes "-q") || bytes_eq word (codes "-quiet") || bytes_eq word (codes "-envall") ||
    bytes_eq word (codes "-genvall")

-- those with one value
unfoldable pub is_idle_setting : Word → Bool
is_idle_setting word =
    bytes_eq word (codes "-bind-to") || bytes_eq word (codes "-map-by") || bytes_eq word (codes "-rank-by")

-- those with two
unfoldable pub is_idle_pair : Word → Bool
is_idle_pair word = bytes_eq word (codes "-mca") || bytes_eq word (codes "-gmca")

-- how many values the option of this name has, where it has no effect
abbrev pub idle_values : Word → Option ℕ
idle_values word =
    if is_idle_flag word then Some 0
    else (if is_idle_setting word then Some 1
    else (if is_idle_pair word then Some 2
    else None))

-- any other word that has a meaning where an option may stand
unfoldable pub other_symbol : Word → Option Symbol
other_symbol word =
    if bytes_eq word (codes "-n") || bytes_eq word (codes "-np") || bytes_eq word (codes "-c")
    then Some symbols.Count
    else (if bytes_eq word (codes "-x") then Some symbols.Export
    else (if bytes_eq word (codes "-v") || bytes_eq word (codes "-verbose") then Some symbols.Verbose
    else (if bytes_eq word (codes "-configfile") then Some symbols.File
    else (if bytes_eq word (codes "--") then Some symbols.OptionsEnd
    else (if bytes_eq word (codes "-help") || bytes_eq word (codes "-h") then Some symbols.Usage
    else (if bytes_eq word (codes "-version") || bytes_eq word (codes "-V") then Some symbols.Version
    else None))))))

-- an option that has an effect, one that has none, or another word that has a meaning
abbrev pub known_by : Option OwnOption → Option ℕ → Option Symbol → Option Symbol
known_by (Some option) idle other = Some (symbols.Own option)
known_by None (Some count) other = Some (symbols.Idle count)
known_by None None other = other

-- what a word of this name is
abbrev pub known_symbol : Word → Option Symbol
known_symbol word = known_by (own_option word) (idle_values word) (other_symbol word)

-- the word begins with `-`
abbrev pub is_dashed : Word → Bool
is_dashed word = not (length word == 0) && slice_index word 0 == 45

-- two dashes in front of a name are one
abbrev pub one_dash : Word → Word
one_dash word =
    if is_dashed word && is_dashed (drop (min (length word) 1) word) && nat_lt 2 (length word)
    then drop (min (length word) 1) word
    else word

-- the byte `=`
abbrev pub is_equals : ℕ → Bool
is_equals byte = byte == 61

-- what stands in front of the first `=`; nothing where there is none
abbrev pub before_equals : Word → Word
before_equals word = take (min (unwrap_or (position_from is_equals 0 word) 0) (length word)) word

-- what stands in front of the first digit; nothing where there is none
abbrev pub before_digit : Word → Word
before_digit word = take (min (unwrap_or (position_from is_ascii_digit 0 word) 0) (length word)) word

-- an option has this name, with one dash in front of it or two
abbrev pub is_known : Word → Bool
is_known word = is_some (known_symbol (one_dash word))

-- a word that no option has as its name: `:`, a program, an option with its value in one word, or none of these
unfoldable pub unknown_symbol : Word → Symbol
unknown_symbol word =
    if bytes_eq word (codes ":") then symbols.Separator
    else (if not (is_dashed word) then symbols.Program
    else (if is_known (before_equals word) || is_known (before_digit word) then symbols.Joined
    else symbols.Unknown))

-- a word that has a meaning, or any other word
abbrev pub symbol_by : Option Symbol → Word → Symbol
symbol_by (Some symbol) word = symbol
symbol_by None word = unknown_symbol word

-- what the word is where an option may stand
abbrev pub symbol_of : Word → Symbol
symbol_of word = symbol_by (known_symbol (one_dash word)) word
