-- What the variables of an environment say of a rank's place.
use Rattle.std.specs.Prelude.{◌≡◌, ℕ, ◌+◌, ◌<◌, ◌≤◌, Bool, true, false, ◌||◌, is_some, List, Option, Some, None}
use Rattle.std.specs.Borrow.{Bor}
use Rattle.numerals.specs.Numbers.{number_between}
use Rattle.rank_addresses.specs.HostLists.{Lists}
use Rattle.rank_environment.specs.declared.reading.EnvironmentTexts.{EnvironmentTexts}
use Rattle.rank_environment.specs.declared.reading.FoundPlace.{FoundPlace}
use Rattle.rank_environment.specs.declared.reading.FoundPlace.TheVariants as found
use Rattle.rank_environment.specs.declared.place.RankPlace.{RankPlace}

-- the number that a variable spells between these bounds, where it is there
abbrev pub number_in : Option (Bor (List ℕ)) → (low high : ℕ) → Option ℕ
number_in None low high = None
number_in (Some text) low high = number_between text.now low high

-- a patience that was read
abbrev pub patience_read : Option ℕ → Option (Option ℕ)
patience_read None = None
patience_read (Some patience) = Some (Some patience)

-- the patience that a variable spells; it need not be there
abbrev pub patience_in : Option (Bor (List ℕ)) → Option (Option ℕ)
patience_in None = Some None
patience_in (Some text) = patience_read (number_between text.now 1 3600000)

-- whether one of the variables is there that have to be
abbrev pub are_given : EnvironmentTexts → Bool
are_given texts = is_some texts.rank || is_some texts.size || is_some texts.incarnation || is_some texts.job
    || is_some texts.base_port

-- a text, if there is one, lists the addresses of so many ranks
abbrev pub Fit : Option (Bor (List ℕ)) → ℕ → Type 0
Fit None size = Unit {0}
Fit (Some text) size = Lists text.now size

-- the values tell this place
pub record Tell (texts : EnvironmentTexts) (place : RankPlace) : Type 0 where
  pub rank : number_in texts.rank 0 1023 ≡ Some place.rank
  pub size : number_in texts.size 1 1024 ≡ Some place.size
  pub incarnation : number_in texts.incarnation 0 65535 ≡ Some place.incarnation
  pub job : number_in texts.job 0 18446744073709551615 ≡ Some place.job
  pub base_port : number_in texts.base_port 1 65535 ≡ Some place.base_port
  pub patience : patience_in texts.patience ≡ Some place.patience
  pub below : place.rank < place.size
  pub ports : place.base_port + place.size ≤ 65536
  pub hosts : Fit texts.hosts place.size

-- the values tell no place
abbrev pub TellNone : EnvironmentTexts → Type 0
TellNone texts = (place : RankPlace) → Tell texts place → ⊥

-- the place that values tell, if they tell one
abbrev pub Finds : EnvironmentTexts → Option RankPlace → Type 0
Finds texts (Some place) = Tell texts place
Finds texts None = TellNone texts

-- what an environment says
abbrev pub IsFound : EnvironmentTexts → FoundPlace → Type 0
IsFound texts found.Missing = are_given texts ≡ false
IsFound texts found.Faulty = (are_given texts ≡ true) × TellNone texts
IsFound texts (found.At place hosts) = (are_given texts ≡ true) × Tell texts place × (hosts ≡ texts.hosts)
