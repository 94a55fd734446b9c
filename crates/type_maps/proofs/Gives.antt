-- Answers that are refused where something doesn't fit.
use Rattle.std.proofs.Common.{◌≡◌, ℕ, ◌-◌, ◌<◌, ◌∙◌, sym, ap, subst, w64, to_z, of_z}
use Rattle.std.proofs.Math.IntN.{ℤ, pos, ◌+ℤ◌, ◌-ℤ◌}
use Rattle.std.specs.Prelude.{Result, Ok, Err}
use Rattle.std.proofs.lemmas.Int.{to_z-of_z}
use mir.Val.{SFits}
use Rattle.type_maps.specs.declared.places.Span.{Span}
use Rattle.type_maps.specs.declared.refusal.Refusal.{Refusal}
use Rattle.type_maps.specs.declared.summary.Summary.{Summary}
use Rattle.type_maps.specs.Refusals.{Fits, GivesIf, GivesNumber, SummaryFits}
use Rattle.type_maps.specs.Summaries.{hull, spread, copied_summary, data_upper, lower_bound, padding, padded_upper}
use Rattle.type_maps.proofs.SummaryLaws.{copied_is_spread}

-- what is refused under a condition is refused under a stronger one
pub gives_under : {X : Type 0} (P Q : Type 0) (x y : X) (r : Result X Refusal) → x ≡ y → (Q → P) → GivesIf P x r →
    GivesIf Q y r
gives_under P Q x y (Ok z) same f h = h ∙ same
gives_under P Q x y (Err e) same f h = (h.0, λ q. h.1 (f q))

pub copied_gives : (n : ℕ) (a s : ℤ) (F : Type 0) (t : Summary) (h : Span) (r : Result Summary Refusal) → 0 < n →
    h ≡ hull a (n - 1) s → GivesIf (SummaryFits (spread h n t)) (spread h n t) r →
    GivesIf (F × SummaryFits (copied_summary a n s t)) (copied_summary a n s t) r
copied_gives n a s F t h r some is given =
    gives_under (SummaryFits (spread h n t)) (F × SummaryFits (copied_summary a n s t)) (spread h n t)
    (copied_summary a n s t)
    r same (λ q. subst (λ (x : Summary). SummaryFits x) (sym same) q.1) given
  where
    same : spread h n t ≡ copied_summary a n s t
    same = ap (λ x. spread x n t) is ∙ copied_is_spread n a s t some

pub padded_gives : (s : Summary) (u l d f : ℤ) (pad : ℕ) (r : Result ℤ Refusal) →
    SFits w64 u → SFits w64 l → SFits w64 d → SFits w64 f → u ≡ data_upper s.span → l ≡ lower_bound s →
    d ≡ to_z w64 (of_z w64 u) -ℤ to_z w64 (of_z w64 l) → pad ≡ padding s.alignment (to_z w64 (of_z w64 d)) →
    f ≡ pos pad → GivesNumber (to_z w64 (of_z w64 u) +ℤ to_z w64 (of_z w64 f)) r →
    GivesIf (Fits (data_upper s.span -ℤ lower_bound s) × Fits (padded_upper s)) (padded_upper s) r
padded_gives s u l d f pad r fu fl fd ff ui li di pi fi given =
    gives_under (Fits (to_z w64 (of_z w64 u) +ℤ to_z w64 (of_z w64 f)))
    (Fits (data_upper s.span -ℤ lower_bound s) × Fits (padded_upper s)) (to_z w64 (of_z w64 u) +ℤ to_z w64 (of_z w64 f))
    (padded_upper s) r same (λ q. subst (λ (x : ℤ). Fits x) (sym same) q.1) given
  where
    uppers : to_z w64 (of_z w64 u) ≡ data_upper s.span
    uppers = to_z-of_z w64 u fu ∙ ui

    lowers : to_z w64 (of_z w64 l) ≡ lower_bound s
    lowers = to_z-of_z w64 l fl ∙ li

    distance : to_z w64 (of_z w64 d) ≡ data_upper s.span -ℤ lower_bound s
    distance = to_z-of_z w64 d fd ∙ di ∙ (λ t. uppers t -ℤ lowers t)

    same : to_z w64 (of_z w64 u) +ℤ to_z w64 (of_z w64 f) ≡ padded_upper s
    same = λ t. uppers t +ℤ (to_z-of_z w64 f ff ∙ fi ∙ ap pos (pi ∙ ap (padding s.alignment) distance)) t
