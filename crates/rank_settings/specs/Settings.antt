-- The settings that words give.
use Rattle.std.specs.Prelude.{◌≡◌, ℕ, ◌+◌, ◌<◌, ◌≤◌, List, [], Option, Some, None, Result, Ok, Err, codes}
use Rattle.std.specs.Prelude.{option_and_then, option_map}
use Rattle.std.specs.Borrow.{Bor}
use Rattle.clap.specs.Words.{Kinds, Row, Text, fault_of, first_of, matches_of}
use Rattle.clap.specs.declared.error.kind.ErrorKind.{ErrorKind}
use Rattle.clap.specs.declared.error.kind.ErrorKind.TheVariants as kinds
use Rattle.numerals.specs.Numbers.{number_between}
use Rattle.rank_addresses.specs.HostLists.{Lists}
use Rattle.rank_settings.specs.declared.settings.Settings.{Settings}
use Rattle.rank_settings.specs.declared.refusal.SettingsRefusal.{SettingsRefusal}
use Rattle.rank_settings.specs.declared.refusal.SettingsRefusal.TheVariants.{OutOfMemory, Words}
use Rattle.rank_settings.specs.Program.{rank_program}

-- the numbers of refusals
abbrev pub number_of : SettingsRefusal → ℕ
number_of OutOfMemory = 14
number_of Words = 64

-- the number that an option's value spells, where it lies between these
abbrev pub number_in : List Row → Text → (low high : ℕ) → Option ℕ
number_in rows name low high = option_and_then (λ text. number_between text low high) (first_of name rows)

-- the patience that a value gives, or 10,000 where none is given
abbrev pub patience_of : Option Text → Option ℕ
patience_of None = Some 10000
patience_of (Some text) = number_between text 1 3600000

-- the ports of all ranks are 1 to 65,535; rank s has the port p - r + s
abbrev pub ArePorts : (rank size port : ℕ) → Type 0
ArePorts rank size port = (rank < port) × (port + size ≤ 65536 + rank)

-- the text of an option's value, where it is given
abbrev pub text_in : Option (Bor Text) → Option Text
text_in text = option_map (λ text. text.now) text

-- a value, if there is one, lists the addresses of so many ranks
abbrev pub AreHosts : Option Text → ℕ → Type 0
AreHosts None size = Unit {0}
AreHosts (Some text) size = Lists text size

-- Each number is the value that the words gave its option, in its range, and the hosts, where they are given, are an
-- address for each rank.
pub record AreGiven (rows : List Row) (s : Settings) : Type 0 where
  pub rank : number_in rows (codes "rank") 0 1023 ≡ Some s.rank
  pub size : number_in rows (codes "size") 1 1024 ≡ Some s.size
  pub incarnation : number_in rows (codes "inc") 0 65535 ≡ Some s.incarnation
  pub job : number_in rows (codes "job") 0 18446744073709551615 ≡ Some s.job
  pub port : number_in rows (codes "port") 1 65535 ≡ Some s.port
  pub patience : patience_of (first_of (codes "patience") rows) ≡ Some s.patience
  pub hosts : first_of (codes "hosts") rows ≡ text_in s.hosts
  pub file : first_of (codes "FILE") rows ≡ Some s.file.now
  pub below : s.rank < s.size
  pub ports : ArePorts s.rank s.size s.port
  pub listed : AreHosts (first_of (codes "hosts") rows) s.size

-- What looking for a value answers: the value, or 64 where there is none. It takes no memory.
abbrev pub Finds : {X Y : Type 0} → (X → Y) → Result X SettingsRefusal → Option Y → Type 0
Finds view (Ok x) found = found ≡ Some (view x)
Finds view (Err Words) found = found ≡ None
Finds view (Err OutOfMemory) found = ⊥

-- these rows are no settings
abbrev pub GiveNone : List Row → Type 0
GiveNone rows = (s : Settings) → AreGiven rows s → ⊥

-- What the rows answer: the settings that they give, or 64 where they give none. It takes no memory.
abbrev pub RowsAnswer : List Row → Result Settings SettingsRefusal → Type 0
RowsAnswer rows (Ok s) = AreGiven rows s
RowsAnswer rows (Err Words) = GiveNone rows
RowsAnswer rows (Err OutOfMemory) = ⊥

-- a fault of the words is 64, unless memory was wanting
abbrev pub refusal_of : ErrorKind → SettingsRefusal
refusal_of kinds.OutOfMemory = OutOfMemory
refusal_of kind = Words

-- What words answer by the faults that the program's options find in them and the rows that they give: the settings of
-- the rows, where there is no fault; 64 where there is one, or the rows are no settings; 14 for want of memory.
abbrev pub AnswersBy : Kinds → List Row → Result Settings SettingsRefusal → Type 0
AnswersBy faults rows (Ok s) = (faults ≡ []) × AreGiven rows s
AnswersBy faults rows (Err Words) = faults ≡ [] → GiveNone rows
AnswersBy faults rows (Err OutOfMemory) = Unit {0}

-- what words answer
abbrev pub Answers : List Text → Result Settings SettingsRefusal → Type 0
Answers words result = AnswersBy (fault_of rank_program words) (matches_of rank_program words) result
