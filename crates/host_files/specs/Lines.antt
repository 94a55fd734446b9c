-- What a line of a file of hosts says.
use Rattle.std.specs.Prelude.{◌≡◌, ℕ, ◌==◌, Bool, true, false, not, nat_le, ◌&&◌, ◌||◌, List, [], ◌∷◌, length, min, take, drop}
use Rattle.std.specs.Prelude.{slice_index, is_some, codes, option_map, Option, Some, None, Result, Ok, Err, if◌then◌else◌}
use Rattle.std.specs.List.{slice_split, list_all, position_from}
use Rattle.std.specs.Str.{bytes_eq}
use Rattle.numerals.specs.Numbers.{number_between}
use Rattle.host_files.specs.declared.fault.HostFault.{HostFault}
use Rattle.host_files.specs.declared.fault.HostFault.TheVariants as faults
use Rattle.host_files.specs.declared.host.Host.{Host}
use Rattle.host_files.specs.declared.line.HostOption.{HostOption}
use Rattle.host_files.specs.declared.line.HostOption.TheVariants.{Slots, Most, Local}

abbrev pub Word : Type 0
Word = List ℕ

-- what a line tells of a host: its name, how many ranks it takes and how many at most, where the line says so, and
-- whether it is this machine
pub record Told : Type 0 where
  pub name : Word
  pub slots : Option ℕ
  pub most : Option ℕ
  pub is_local : Bool

-- what stands in a host of the code
abbrev pub shown : Host → Told
shown host = record { name = host.name.now; slots = host.slots; most = host.most; is_local = host.is_local }

abbrev pub shown_result : Result Host HostFault → Result Told HostFault
shown_result (Ok host) = Ok (shown host)
shown_result (Err fault) = Err fault

-- words stand apart by spaces, tabs and carriage returns
abbrev pub is_blank : ℕ → Bool
is_blank byte = byte == 32 || byte == 9 || byte == 13

-- the words among the pieces of a line, in front of a comment, which a `#` begins
abbrev pub said : List Word → List Word
said [] = []
said (piece ∷ pieces) =
    if length piece == 0 then said pieces
    else (if slice_index piece 0 == 35 then [] else piece ∷ said pieces)

-- the words of a line
abbrev pub words_of : List ℕ → List Word
words_of line = said (slice_split is_blank line)

-- a byte lies between these two
abbrev pub is_between : (low high byte : ℕ) → Bool
is_between low high byte = nat_le low byte && nat_le byte high

-- letters, digits, `.`, `-`, `_`
abbrev pub is_name_byte : ℕ → Bool
is_name_byte byte =
    is_between 97 122 byte || is_between 65 90 byte || is_between 48 57 byte || byte == 46 || byte == 45 || byte == 95

-- the name or the address of a host
abbrev pub is_name : Word → Bool
is_name word = not (length word == 0) && (not (slice_index word 0 == 45) && list_all is_name_byte word)

-- a number of ranks behind this name, as of `slots=N`
abbrev pub value_in : (name word : Word) → Option ℕ
value_in name word =
    if bytes_eq (take (min (length word) (length name)) word) name
    then number_between (drop (min (length word) (length name)) word) 1 1024 else None

-- `max_slots=N` or `max-slots=N`
abbrev pub most_read : (one other : Option ℕ) → Option ℕ
most_read (Some most) other = Some most
most_read None other = other

abbrev pub most_in : Word → Option ℕ
most_in word = most_read (value_in (codes "max_slots=") word) (value_in (codes "max-slots=") word)

-- what a word says behind a host's name
abbrev pub numbers_read : (slots most : Option ℕ) → Option HostOption
numbers_read (Some slots) most = Some (Slots slots)
numbers_read None (Some most) = Some (Most most)
numbers_read None None = None

abbrev pub option_of : Word → Option HostOption
option_of word =
    if bytes_eq word (codes "local") then Some Local
    else numbers_read (value_in (codes "slots=") word) (most_in word)

-- a host with one more word, which may stand once
abbrev pub with_option : Told → Option HostOption → Option Told
with_option host None = None
with_option host (Some (Slots slots)) = if is_some host.slots then None else Some (record host { slots = Some slots })
with_option host (Some (Most most)) = if is_some host.most then None else Some (record host { most = Some most })
with_option host (Some Local) = if host.is_local then None else Some (record host { is_local = true })

abbrev pub after : Told → Word → Option Told
after host word = with_option host (option_of word)

-- what the words behind make of a host
abbrev pub options_on : Option Told → (Told → Result Told HostFault) → Result Told HostFault
options_on None rest = Err faults.Option
options_on (Some host) rest = rest host

-- the names by which each machine knows itself
abbrev pub is_own_name : Word → Bool
is_own_name name = bytes_eq name (codes "localhost") || bytes_eq name (codes "127.0.0.1")

-- a host is this machine where its name says so, too
abbrev pub finished : Told → Told
finished host = record host { is_local = host.is_local || is_own_name host.name }

abbrev pub with_options : Told → List Word → Result Told HostFault
with_options host [] = Ok (finished host)
with_options host (word ∷ words) = options_on (after host word) (λ next. with_options next words)

-- a host of which only its name and, maybe, its slots are known
abbrev pub with_value : Word → Option ℕ → Result Told HostFault
with_value name slots =
    if is_name name then Ok (record { name = name; slots = slots; most = None; is_local = false }) else Err faults.Name

-- `HOST:N`, cut at this place
abbrev pub counted_in : Word → Option ℕ → Result Told HostFault
counted_in name None = Err faults.Option
counted_in name (Some slots) = with_value name (Some slots)

-- the byte `:`
abbrev pub is_colon : ℕ → Bool
is_colon byte = byte == 58

-- `HOST`, or `HOST:N`
abbrev pub named_by : Option ℕ → Word → Result Told HostFault
named_by None word = with_value word None
named_by (Some place) word =
    counted_in (take (min place (length word)) word) (value_in (codes ":") (drop (min place (length word)) word))

abbrev pub named_in : Word → Result Told HostFault
named_in word = named_by (position_from is_colon 0 word) word

-- what words behind make of a host that was named
abbrev pub named_on : Result Told HostFault → List Word → Result Told HostFault
named_on (Ok host) words = with_options host words
named_on (Err fault) words = Err fault

-- the host that a first word and these words behind it tell
abbrev pub host_in : Word → List Word → Result Told HostFault
host_in first words = named_on (named_in first) words

-- what words tell, if there are any
abbrev pub told_by : List Word → Option (Result Told HostFault)
told_by [] = None
told_by (name ∷ words) = Some (host_in name words)

-- what a line tells, if it has words
abbrev pub told_in : List ℕ → Option (Result Told HostFault)
told_in line = told_by (words_of line)
