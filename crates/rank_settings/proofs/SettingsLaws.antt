-- What words and their rows answer.
use Rattle.std.proofs.Common.{◌≡◌, List, [], Result, Ok, Err, ap, subst, ◌∙◌, inl, inr}
use Rattle.std.specs.Prelude.{◌⊎◌}
use Rattle.clap.specs.Words.{IsAmong, Kinds, Row}
use Rattle.clap.specs.declared.error.kind.ErrorKind.{ErrorKind}
use Rattle.clap.specs.declared.error.kind.ErrorKind.TheVariants as kinds
use Rattle.rank_settings.specs.declared.settings.Settings.{Settings}
use Rattle.rank_settings.specs.declared.refusal.SettingsRefusal.{SettingsRefusal}
use Rattle.rank_settings.specs.declared.refusal.SettingsRefusal.TheVariants.{OutOfMemory, Words}
use Rattle.rank_settings.specs.Settings.{AnswersBy, AreGiven, GiveNone, RowsAnswer, refusal_of}

-- rows of words without a fault
pub taken : (faults : Kinds) (rows found : List Row) (r : Result Settings SettingsRefusal) → faults ≡ [] →
    found ≡ rows → RowsAnswer found r → AnswersBy faults rows r
taken faults rows found (Ok s) none is given = (none, subst (λ (f : List Row). AreGiven f s) is given)
taken faults rows found (Err Words) none is given = λ again. subst GiveNone is given
taken faults rows found (Err OutOfMemory) none is given = tt

-- words with a fault
pub refused : (faults : Kinds) (rows : List Row) (kind : ErrorKind) (r : SettingsRefusal) → r ≡ refusal_of kind →
    (kind ≡ kinds.OutOfMemory) ⊎ IsAmong kind faults
    → AnswersBy faults rows (Err r)
refused faults rows kind OutOfMemory is has = tt
refused faults rows kind Words is (inl short) = let bad : Words ≡ OutOfMemory = is ∙ ap refusal_of short in absurd cc
refused faults rows kind Words is (inr among) = λ none. absurd (subst (λ (k : Kinds). IsAmong kind k) none among)
