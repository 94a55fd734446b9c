-- How several operations ended is told by the texts of how each ended.
use Rattle.std.proofs.Common.{◌≡◌, ℕ, List, [], ◌∷◌, ◌++◌, map, refl, sym, ap, ◌∙◌, codes}
use Rattle.std.specs.List.{flat_map}
use Rattle.std.proofs.lemmas.List.Folds.{flat_map-map}
use Rattle.printed_lines.specs.Answers.{outcome_text, outcomes_text}
use Rattle.printed_lines.specs.declared.outcomes.OutcomeText.{OutcomeText}
use Rattle.simulation.specs.Lines.{outcome_line, outcomes_line}
use Rattle.requests.specs.declared.outcome.Outcome.{Outcome}

-- texts with `; ` between two, or `done`
abbrev said : List (List ℕ) → List ℕ
said [] = codes "done"
said (text ∷ texts) = text ++ flat_map (λ t. codes "; " ++ t) texts

said_texts : (texts : List OutcomeText) → outcomes_text texts ≡ said (map outcome_text texts)
said_texts [] = refl
said_texts (t ∷ ts) =
    ap (λ (x : List ℕ). outcome_text t ++ x) (sym (flat_map-map (λ (y : List ℕ). codes "; " ++ y) outcome_text ts))

said_lines : (ended : List Outcome) → outcomes_line ended ≡ said (map outcome_line ended)
said_lines [] = refl
said_lines (o ∷ os) =
    ap (λ (x : List ℕ). outcome_line o ++ x) (sym (flat_map-map (λ (y : List ℕ). codes "; " ++ y) outcome_line os))

-- the same texts tell the same
pub outcomes_same : (texts : List OutcomeText) (ended : List Outcome) →
    map outcome_text texts ≡ map outcome_line ended → outcomes_text texts ≡ outcomes_line ended
outcomes_same texts ended same = said_texts texts ∙ ap said same ∙ sym (said_lines ended)
