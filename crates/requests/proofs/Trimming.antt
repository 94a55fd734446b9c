-- Places without the empty ones at the end.
use Rattle.std.proofs.Common.{◌≡◌, ℕ, zero, suc, List, [], ◌∷◌, Option, Some, None, refl, ap, ◌∙◌}
use Rattle.std.specs.Prelude.{slice_index_or}
use Rattle.requests.specs.Trimmed.{before, trimmed}

-- places at which the same stands have the same left
pub same_trimmed : {A : Type 0} (xs ys : List (Option A)) →
    ((key : ℕ) → slice_index_or xs key None ≡ slice_index_or ys key None) → trimmed xs ≡ trimmed ys
same_trimmed [] [] h = refl
same_trimmed [] (p ∷ ps) h =
    ap (before None) (same_trimmed [] ps (λ k. h (suc k))) ∙ ap (λ q. before q (trimmed ps)) (h 0)
same_trimmed (o ∷ os) [] h =
    ap (λ q. before q (trimmed os)) (h 0) ∙ ap (before None) (same_trimmed os [] (λ k. h (suc k)))
same_trimmed (o ∷ os) (p ∷ ps) h =
    ap (λ q. before q (trimmed os)) (h 0) ∙ ap (before p) (same_trimmed os ps (λ k. h (suc k)))

before_here : {A : Type 0} (o : Option A) (os : List (Option A)) → slice_index_or (before o os) 0 None ≡ o
before_here None [] = refl
before_here None (p ∷ ps) = refl
before_here (Some x) os = refl

before_later : {A : Type 0} (o : Option A) (os : List (Option A)) (k : ℕ) →
    slice_index_or (before o os) (suc k) None ≡ slice_index_or os k None
before_later None [] k = refl
before_later None (p ∷ ps) k = refl
before_later (Some x) os k = refl

-- the same stands at each place of what is left
pub trimmed_at : {A : Type 0} (xs : List (Option A)) (key : ℕ) →
    slice_index_or (trimmed xs) key None ≡ slice_index_or xs key None
trimmed_at [] key = refl
trimmed_at (o ∷ os) zero = before_here o (trimmed os)
trimmed_at (o ∷ os) (suc k) = before_later o (trimmed os) k ∙ trimmed_at os k
