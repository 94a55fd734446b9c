-- Completions by the program's own numbers.
use Rattle.std.proofs.Common.{◌≡◌, ℕ, suc, List, [], ◌∷◌, map, Option, Some, None, refl, ap, ◌∙◌}
use Rattle.std.specs.Prelude.{option_and_then, option_map}
use Rattle.perfect_queues.specs.Completions.{AllOf, Answer, AnyOf, Awaited, ForAll, ForOne, Looks, One, Saw, Searches}
use Rattle.perfect_queues.specs.Completions.{Took, Unanswered, Waits, all_outcomes, answer_to, completion}
use Rattle.perfect_queues.specs.Completions.{completion_of_any, lowest_finished, serials, this_or_later}
use Rattle.perfect_queues.specs.Outcomes.{Empty, Outcome}
use Rattle.proof_late_posting.specs.Places.{answer_by, awaited_by, unanswered_by}

-- an answer with the requests that it uses up
abbrev pub used_by : (ℕ → ℕ) → Answer × List ℕ → Answer × List ℕ
used_by g t = (answer_by g t.0, map g t.1)

abbrev pub low_by : (ℕ → ℕ) → ℕ × ℕ × Outcome → ℕ × ℕ × Outcome
low_by g t = (t.0, g t.1, t.2)

pub serials_by : (g : ℕ → ℕ) (rs : List (Option ℕ)) → serials (map (λ r. option_map g r) rs) ≡ map g (serials rs)
serials_by g [] = refl
serials_by g (None ∷ rs) = serials_by g rs
serials_by g (Some k ∷ rs) = ap (λ ks. g k ∷ ks) (serials_by g rs)

module _ (g : ℕ → ℕ) (own known : ℕ → Option Outcome) (same : (k : ℕ) → own (g k) ≡ known k) where
  low_here : (o : Option Outcome) (i k : ℕ) (later : Option (ℕ × ℕ × Outcome)) →
      this_or_later o i (g k) (option_map (low_by g) later) ≡ option_map (low_by g) (this_or_later o i k later)
  low_here None i k later = refl
  low_here (Some o) i k later = refl

  low : (rs : List (Option ℕ)) (i : ℕ) →
      lowest_finished own i (map (λ r. option_map g r) rs) ≡ option_map (low_by g) (lowest_finished known i rs)
  low [] i = refl
  low (None ∷ rs) i = low rs (suc i)
  low (Some k ∷ rs) i =
      ap (λ o. this_or_later o i (g k) (lowest_finished own (suc i) (map (λ r. option_map g r) rs))) (same k)
      ∙ ap (λ l. this_or_later (known k) i (g k) l) (low rs (suc i))
      ∙ low_here (known k) i k (lowest_finished known (suc i) rs)

  all : (rs : List (Option ℕ)) → all_outcomes own (map (λ r. option_map g r) rs) ≡ all_outcomes known rs
  all [] = refl
  all (None ∷ rs) = ap (λ o. option_map (λ os. Empty ∷ os) o) (all rs)
  all (Some k ∷ rs) =
      ap (λ l. option_and_then (λ o. option_map (λ os. o ∷ os) l) (own (g k))) (all rs)
      ∙ ap (λ v. option_and_then (λ o. option_map (λ os. o ∷ os) (all_outcomes known rs)) v) (same k)

  any_here : (ks : List ℕ) (l : Option (ℕ × ℕ × Outcome)) →
      completion_of_any (map g ks) (option_map (low_by g) l) ≡ option_map (used_by g) (completion_of_any ks l)
  any_here [] l = refl
  any_here (k ∷ ks) None = refl
  any_here (k ∷ ks) (Some t) = refl

  one_here : (o : Option Outcome) (k : ℕ) →
      option_map (λ v. (ForOne v, g k ∷ [])) o ≡ option_map (used_by g) (option_map (λ v. (ForOne v, k ∷ [])) o)
  one_here None k = refl
  one_here (Some v) k = refl

  all_here : (o : Option (List Outcome)) (ks : List ℕ) →
      option_map (λ os. (ForAll os, map g ks)) o ≡ option_map (used_by g) (option_map (λ os. (ForAll os, ks)) o)
  all_here None ks = refl
  all_here (Some os) ks = refl

  pub completion_by : (a : Awaited) →
      completion own (awaited_by g a) ≡ option_map (used_by g) (completion known a)
  completion_by (One None) = refl
  completion_by (One (Some k)) =
      ap (λ o. option_map (λ v. (ForOne v, g k ∷ [])) o) (same k) ∙ one_here (known k) k
  completion_by (AnyOf rs) =
      ap (λ ks. completion_of_any ks (lowest_finished own 0 (map (λ r. option_map g r) rs))) (serials_by g rs)
      ∙ ap (λ l. completion_of_any (map g (serials rs)) l) (low rs 0)
      ∙ any_here (serials rs) (lowest_finished known 0 rs)
  completion_by (AllOf rs) =
      ap (λ ks. option_map (λ os. (ForAll os, ks)) (all_outcomes own (map (λ r. option_map g r) rs))) (serials_by g rs)
      ∙ ap (λ o. option_map (λ os. (ForAll os, map g (serials rs))) o) (all rs)
      ∙ all_here (all_outcomes known rs) (serials rs)

  pub ready_by : (b : Option Unanswered) →
      option_and_then (answer_to own) (option_map (unanswered_by g) b)
      ≡ option_map (used_by g) (option_and_then (answer_to known) b)
  ready_by None = refl
  ready_by (Some (Waits a)) = completion_by a
  ready_by (Some (Looks q)) = refl
  ready_by (Some (Saw status)) = refl
  ready_by (Some (Searches q)) = refl
  ready_by (Some (Took message status)) = refl
