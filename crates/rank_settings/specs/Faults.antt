-- Which word is at fault, and what may stand in its place.
use Rattle.std.specs.Prelude.{◌≡◌, ℕ, ◌++◌, List, Option, Some, None, codes, if◌then◌else◌}
use Rattle.std.specs.Fmt.{decimal}
use Rattle.std.specs.Str.{bytes_eq}
use Rattle.numerals.specs.Numbers.{number_between}
use Rattle.rank_addresses.specs.HostLists.{Lists}
use Rattle.rank_settings.specs.declared.faults.Wanted.{Wanted}
use Rattle.rank_settings.specs.declared.faults.Wanted.TheVariants as wanted

-- between which numbers the value of an option lies
unfoldable pub range_of : List ℕ → Option (ℕ × ℕ)
range_of option =
    if bytes_eq option (codes "--rank") then Some (0, 1023)
    else (if bytes_eq option (codes "--size") then Some (1, 1024)
    else (if bytes_eq option (codes "--inc") then Some (0, 65535)
    else (if bytes_eq option (codes "--job") then Some (0, 18446744073709551615)
    else (if bytes_eq option (codes "--port") then Some (1, 65535)
    else (if bytes_eq option (codes "--patience") then Some (1, 3600000)
    else None)))))

-- what may stand in the place of a word
abbrev pub wanted_text : Wanted → List ℕ
wanted_text (wanted.Number low high) = codes "a number from " ++ decimal low ++ codes " to " ++ decimal high
wanted_text (wanted.Addresses count) =
    codes "a list of " ++ decimal count ++ codes " IPv4 addresses, one a rank, with commas between them"
wanted_text wanted.OptionOrScript =
    codes "one of --rank, --size, --inc, --job, --port, --patience and --hosts, each once, or one script"

-- a word that isn't what may stand in its place
abbrev pub IsAtFault : List ℕ → Wanted → Type 0
IsAtFault word (wanted.Number low high) = number_between word low high ≡ None
IsAtFault word (wanted.Addresses count) = Lists word count → ⊥
IsAtFault word wanted.OptionOrScript = Unit {0}
