-- Judging the fronts of the words.
use Rattle.std.proofs.Common.{◌≡◌, ℕ, Option, Some, None, Result, Ok, Err, refl, sym, ap, ◌∙◌}
use Rattle.launch_plan.specs.declared.refusal.LaunchRefusal.{LaunchRefusal}
use Rattle.launch_plan.specs.declared.refusal.LaunchRefusal.TheVariants as refusals
use Rattle.launch_plan.specs.Launches.{Launch}
use Rattle.launch_plan.specs.Results.{HasNoFault, Fails}
use Rattle.std.specs.Prelude.{List, take}
use Rattle.launch_keeper.specs.Words.{Word}
use Rattle.launch_plan.specs.Grammar.{ReachesFile}
use Rattle.launch_diagnostics.specs.Places.{rule_of, rule_in, place_by, IsPlaced}

no_fault : (read : Result Launch LaunchRefusal) → HasNoFault read → None ≡ rule_in read
no_fault (Ok launch) fine = refl
no_fault (Err refusals.OutOfMemory) fine = refl
no_fault (Err refusals.NoSet) fine = absurd fine
no_fault (Err refusals.WrongOption) fine = absurd fine
no_fault (Err refusals.WrongValue) fine = absurd fine
no_fault (Err refusals.NoCount) fine = absurd fine
no_fault (Err refusals.NoProgram) fine = absurd fine
no_fault (Err refusals.OverLimit) fine = absurd fine
no_fault (Err refusals.LeftOut) fine = absurd fine
no_fault (Err refusals.UnreadableFile) fine = absurd fine

-- what failed with this refusal breaks its rule
pub rule_broken : (e : LaunchRefusal) (read : Result Launch LaunchRefusal) → Fails e read → rule_of e ≡ rule_in read
rule_broken refusals.OutOfMemory read h = no_fault read h
rule_broken refusals.NoSet read h = sym (ap rule_in h)
rule_broken refusals.WrongOption read h = sym (ap rule_in h)
rule_broken refusals.WrongValue read h = sym (ap rule_in h)
rule_broken refusals.NoCount read h = sym (ap rule_in h)
rule_broken refusals.NoProgram read h = sym (ap rule_in h)
rule_broken refusals.OverLimit read h = sym (ap rule_in h)
rule_broken refusals.LeftOut read h = sym (ap rule_in h)
rule_broken refusals.UnreadableFile read h = sym (ap rule_in h)

pub no_rule_broken : (read : Result Launch LaunchRefusal) (launch : Launch) → read ≡ Ok launch → None ≡ rule_in read
no_rule_broken read launch h = sym (ap rule_in h)

no_name : (found : Option Word) (name : Word) → found ≡ None → found ≡ Some name → ⊥
no_name found name none some = let clash : None ≡ Some name = sym none ∙ some in absurd cc

-- where no file's name is found, the words that settle the refusal name none
pub unnamed_place : (words : List Word) (refused : LaunchRefusal) (settled place : ℕ) (found : Option Word) →
    found ≡ None → ((name : Word) → ReachesFile (take settled words) name → found ≡ Some name) →
    place ≡ place_by refused settled
    → IsPlaced words refused settled place
unnamed_place words refused settled place found none only is =
    record { named = λ name reaches. absurd (no_name found name none (only name reaches)); unnamed = λ _. is }
