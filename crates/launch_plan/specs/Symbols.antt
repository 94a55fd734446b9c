-- What a word is where an option may stand.
use Rattle.std.specs.Prelude.{ℕ, Bool, ◌||◌, ◌==◌, slice_index, codes, if◌then◌else◌}
use Rattle.std.specs.Str.{bytes_eq}
use Rattle.launch_keeper.specs.Words.{Word}
use Rattle.launch_plan.specs.declared.symbol.OwnOption.{OwnOption}
use Rattle.launch_plan.specs.declared.symbol.OwnOption.TheVariants.{Job, BasePort, Restart, Patience}
use Rattle.launch_plan.specs.declared.symbol.Symbol.{Symbol}
use Rattle.launch_plan.specs.declared.symbol.Symbol.TheVariants.{Own, File, Count, LeftOut, Unknown, Separator, Program}

-- the word `:` stands between two sets
abbrev pub is_separator : Word → Bool
is_separator word = bytes_eq word (codes ":")

-- the options of MPI 3.1, 8.8 that this launcher leaves out
abbrev pub is_left_out : Word → Bool
is_left_out word =
    bytes_eq word (codes "-soft") || bytes_eq word (codes "-host") || bytes_eq word (codes "-arch")
    || bytes_eq word (codes "-wdir") || bytes_eq word (codes "-path") || bytes_eq word (codes "-file")

-- the word begins with `-`
abbrev pub is_dashed : Word → Bool
is_dashed word = slice_index word 0 == 45

-- what the word is where an option may stand
unfoldable pub symbol_of : Word → Symbol
symbol_of word =
    if bytes_eq word (codes "-job") then Own Job
    else (if bytes_eq word (codes "-baseport") then Own BasePort
    else (if bytes_eq word (codes "-restart") then Own Restart
    else (if bytes_eq word (codes "-patience") then Own Patience
    else (if bytes_eq word (codes "-configfile") then File
    else (if bytes_eq word (codes "-n") then Count
    else (if is_left_out word then LeftOut
    else (if is_dashed word then Unknown
    else (if is_separator word then Separator
    else Program))))))))

-- the least value of an option
abbrev pub least_of : OwnOption → ℕ
least_of Job = 0
least_of BasePort = 1
least_of Restart = 0
least_of Patience = 1

-- the greatest value of an option
abbrev pub greatest_of : OwnOption → ℕ
greatest_of Job = 18446744073709551615
greatest_of BasePort = 65535
greatest_of Restart = 65535
greatest_of Patience = 3600000
