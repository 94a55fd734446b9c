-- The first part of a text that is cut, and what is left behind it.
use Rattle.std.proofs.Common.{◌≡◌, ℕ, ◌+◌, ◌≤◌, ◌<◌, Bool, true, false, cond, List, [], ◌∷◌, length, take, drop, Option}
use Rattle.std.proofs.Common.{Some, None, refl, sym, ap, ◌∙◌, arith}
use Rattle.std.specs.Prelude.{not, IfSome}
use Rattle.std.specs.List.{slice_split, onto_first, position_or_len, position_from}
use Rattle.std.specs.Option.{option_copied}
use Rattle.std.specs.Prelude.{ltb}
use Rattle.std.proofs.lemmas.Bool.{ltb-true, ltb-false}
use Rattle.std.proofs.lemmas.List.{length-drop}
use Rattle.std.proofs.lemmas.List.Splits.{slice_split_first}
use Rattle.std.proofs.lemmas.Iterator.Adapters.{position_from-zero}
use Rattle.launcher_words.specs.declared.cut.Cut.{Cut}
use Rattle.launcher_words.specs.Cuts.{part_before, rest_behind, IsCut, IsFirst}

uncut : (is_cut : ℕ → Bool) (text : List ℕ) → length text ≤ position_or_len is_cut text →
    slice_split is_cut text ≡ text ∷ []
uncut is_cut [] le = refl
uncut is_cut (x ∷ text) le =
    let go : (t : Bool) → length (x ∷ text) ≤ cond (not t) (1 + position_or_len is_cut text) 0 →
    cond t ([] ∷ slice_split is_cut text) (onto_first x (slice_split is_cut text)) ≡ (x ∷ text) ∷ [] =
    λ t. elim t as (λ t. length (x ∷ text) ≤ cond (not t) (1 + position_or_len is_cut text) 0 →
    cond t ([] ∷ slice_split is_cut text) (onto_first x (slice_split is_cut text)) ≡ (x ∷ text) ∷ []) [
      | true ↦ λ h. absurd (omega (arith, h))
      | false ↦ λ h. ap (onto_first x) (uncut is_cut text (omega (arith, h)))
    ] in
    go (is_cut x) le

-- the place of the first cut, where there is one
abbrev pub place_by : Bool → (ℕ → Bool) → List ℕ → Option ℕ
place_by test is_cut text = cond test (Some (position_or_len is_cut text)) None

cut_by : (test : Bool) (is_cut : ℕ → Bool) (text : List ℕ) (place : Option ℕ) (cut : Cut) →
    ltb (position_or_len is_cut text) (length text) ≡ test → place ≡ place_by test is_cut text → IsCut place text cut →
    IsFirst is_cut text cut
cut_by true is_cut text place cut h place_is is =
    let lt = ltb-true _ _ h in
    let at = position_or_len is_cut text in
    let part : cut.part.now ≡ take at text = is.0 ∙ ap (λ (p : Option ℕ). part_before p text) place_is in
    let rest : option_copied cut.rest ≡ Some (drop (at + 1) text) =
    is.1 ∙ ap (λ (p : Option ℕ). rest_behind p text) place_is in
    let len = length-drop (at + 1) text in
    record {
      parts = rw (part, rest) (slice_split_first is_cut text 0 lt);
      shorter = rw rest (omega (arith, lt, len));
    }
cut_by false is_cut text place cut h place_is is =
    let le = ltb-false _ _ h in
    let part : cut.part.now ≡ text = is.0 ∙ ap (λ (p : Option ℕ). part_before p text) place_is in
    let rest : option_copied cut.rest ≡ None = is.1 ∙ ap (λ (p : Option ℕ). rest_behind p text) place_is in
    record { parts = rw (part, rest) (uncut is_cut text le); shorter = rw rest tt }

pub cut_is : (is_cut : ℕ → Bool) (text : List ℕ) (place : Option ℕ) (cut : Cut) → place ≡ position_from is_cut 0 text →
    IsCut place text cut → IsFirst is_cut text cut
cut_is is_cut text place cut place_is is =
    cut_by (ltb (position_or_len is_cut text) (length text)) is_cut text place cut refl
    (place_is ∙ sym (position_from-zero is_cut text)) is

within_by : (test : Bool) (is_cut : ℕ → Bool) (text : List ℕ) (place : Option ℕ) →
    ltb (position_or_len is_cut text) (length text) ≡ test → place ≡ place_by test is_cut text →
    IfSome place (λ i. i < length text)
within_by true is_cut text place h place_is = rw place_is (ltb-true _ _ h)
within_by false is_cut text place h place_is = rw place_is tt

pub place_within : (is_cut : ℕ → Bool) (text : List ℕ) (place : Option ℕ) → place ≡ position_from is_cut 0 text →
    IfSome place (λ i. i < length text)
place_within is_cut text place place_is =
    within_by (ltb (position_or_len is_cut text) (length text)) is_cut text place refl
    (place_is ∙ sym (position_from-zero is_cut text))

-- how much is left, for a loop over it
abbrev pub left_len : Option (List ℕ) → ℕ
left_len None = 0
left_len (Some text) = 1 + length text
