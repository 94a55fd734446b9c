-- Settings whose place stands in the environment.
use Rattle.std.specs.Prelude.{◌≡◌, ◌⊎◌, ℕ, ◌+◌, ◌<◌, ◌≤◌, ◌==◌, slice_index, List, [], ◌∷◌, Option, Some, None, Result, Ok, Err}
use Rattle.std.specs.Prelude.{unwrap_or, if◌then◌else◌}
use Rattle.std.specs.Borrow.{Bor}
use Rattle.clap.specs.Words.{Text}
use Rattle.rank_environment.specs.declared.place.RankPlace.{RankPlace}
use Rattle.rank_environment.specs.declared.reading.FoundPlace.{FoundPlace}
use Rattle.rank_environment.specs.declared.reading.FoundPlace.TheVariants as found
use Rattle.rank_settings.specs.declared.settings.Settings.{Settings}
use Rattle.rank_settings.specs.declared.refusal.SettingsRefusal.{SettingsRefusal}
use Rattle.rank_settings.specs.declared.refusal.SettingsRefusal.TheVariants.{OutOfMemory, Words}
use Rattle.rank_settings.specs.Settings.{Answers}

-- the script of words that are the program's name and one word more, which is no option
abbrev pub bare_file : List Text → Option Text
bare_file [] = None
bare_file (name ∷ []) = None
bare_file (name ∷ file ∷ []) = if slice_index file 0 == 45 then None else Some file
bare_file (name ∷ file ∷ word ∷ words) = None

-- the settings of a place, with these hosts and this script: the rank's own port is that of rank 0 and the rank
pub record AreOf (place : RankPlace) (hosts : Option (Bor Text)) (file : Text) (s : Settings) : Type 0 where
  pub rank : s.rank ≡ place.rank
  pub size : s.size ≡ place.size
  pub incarnation : s.incarnation ≡ place.incarnation
  pub job : s.job ≡ place.job
  pub port : s.port ≡ place.base_port + place.rank
  pub patience : s.patience ≡ unwrap_or place.patience 10000
  pub hosts_are : s.hosts ≡ hosts
  pub file_is : s.file.now ≡ file
  pub below : place.rank < place.size
  pub ports : place.base_port + place.size ≤ 65536

-- the settings of a place, or 64 where it is none
abbrev pub IsPlaced : RankPlace → Option (Bor Text) → Text → Result Settings SettingsRefusal → Type 0
IsPlaced place hosts file (Ok s) = AreOf place hosts file s
IsPlaced place hosts file (Err Words) = (place.size ≤ place.rank) ⊎ (65536 < place.base_port + place.size)
IsPlaced place hosts file (Err OutOfMemory) = ⊥

-- what words that name a script alone, or others, answer in a place
abbrev pub AnswersAt : RankPlace → Option (Bor Text) → Option Text → List Text → Result Settings SettingsRefusal → Type 0
AnswersAt place hosts (Some file) words result = IsPlaced place hosts file result
AnswersAt place hosts None words result = Answers words result

-- what words answer where the environment says this
abbrev pub AnswersIn : List Text → FoundPlace → Result Settings SettingsRefusal → Type 0
AnswersIn words (found.At place hosts) result = AnswersAt place hosts (bare_file words) words result
AnswersIn words found.Missing result = Answers words result
AnswersIn words found.Faulty result = Answers words result
