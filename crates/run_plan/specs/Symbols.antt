-- What a word is where an option may stand.
use Rattle.std.specs.Prelude.{ℕ, ◌||◌, codes, Option, Some, None, if◌then◌else◌}
use Rattle.std.specs.Str.{bytes_eq}
use Rattle.launch_keeper.specs.Words.{Word}
use Rattle.run_plan.specs.declared.symbol.NumberOption.{NumberOption}
use Rattle.run_plan.specs.declared.symbol.NumberOption.TheVariants.{Job, BasePort, Restart, Patience, Timeout, Frame, PerHost}
use Rattle.run_plan.specs.declared.symbol.TextOption.{TextOption}
use Rattle.run_plan.specs.declared.symbol.TextOption.TheVariants.{Folder, HostFile, Hosts, Launcher}
use Rattle.run_plan.specs.declared.symbol.Symbol.{Symbol}
use Rattle.run_plan.specs.declared.symbol.Symbol.TheVariants as symbols

-- the option of this name whose value is a number
unfoldable pub number_option : Word → Option NumberOption
number_option word =
    if bytes_eq word (codes "-job") then Some Job
    else (if bytes_eq word (codes "-baseport") then Some BasePort
    else (if bytes_eq word (codes "-restart") then Some Restart
    else (if bytes_eq word (codes "-patience") then Some Patience
    else (if bytes_eq word (codes "-timeout") then Some Timeout
    else (if bytes_eq word (codes "-frame") then Some Frame
    else (if bytes_eq word (codes "-ppn") then Some PerHost
    else None))))))

-- the option of this name whose value is a text
unfoldable pub text_option : Word → Option TextOption
text_option word =
    if bytes_eq word (codes "-wdir") then Some Folder
    else (if bytes_eq word (codes "-hostfile") then Some HostFile
    else (if bytes_eq word (codes "-host") then Some Hosts
    else (if bytes_eq word (codes "-launcher") then Some Launcher
    else None)))

-- any other word where an option may stand
abbrev pub other_symbol : Word → Symbol
other_symbol word =
    if bytes_eq word (codes "-prefix") then symbols.Prefix
    else (if bytes_eq word (codes "-keep-going") then symbols.KeepGoing
    else (if bytes_eq word (codes "-oversubscribe") then symbols.Oversubscribe
    else (if bytes_eq word (codes "-env") then symbols.Variable
    else (if bytes_eq word (codes "-n") || bytes_eq word (codes "-np") then symbols.Set
    else symbols.Other))))

-- an option whose value is a number or a text, or any other word
abbrev pub symbol_by : Option NumberOption → Option TextOption → Word → Symbol
symbol_by (Some option) text word = symbols.Number option
symbol_by None (Some option) word = symbols.Text option
symbol_by None None word = other_symbol word

-- what the word is where an option may stand
unfoldable pub symbol_of : Word → Symbol
symbol_of word = symbol_by (number_option word) (text_option word) word

-- the least value of an option
abbrev pub least_of : NumberOption → ℕ
least_of Job = 0
least_of BasePort = 1
least_of Restart = 0
least_of Patience = 1
least_of Timeout = 1
least_of Frame = 1024
least_of PerHost = 1

-- the greatest value of an option
abbrev pub greatest_of : NumberOption → ℕ
greatest_of Job = 18446744073709551615
greatest_of BasePort = 65535
greatest_of Restart = 65535
greatest_of Patience = 3600000
greatest_of Timeout = 31536000
greatest_of Frame = 61440
greatest_of PerHost = 1024
