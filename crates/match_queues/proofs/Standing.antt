-- What stands at the first places, of which some are empty.
use Rattle.std.proofs.Common.{get_or, ◌≡◌, ℕ, ◌+◌, ◌≤◌, List, [], ◌∷◌, ◌++◌, length, take, Option, Some, None, refl, sym, ap, ◌∙◌}
use Rattle.std.specs.Prelude.{slice_get}
use Rattle.std.proofs.lemmas.List.{take_more, take_all, append-nil}
use Rattle.std.proofs.lemmas.Option.{get_or_from_slice_get, slice_get_within}
use Rattle.match_queues.specs.Slots.{somes}

somes_append : {A : Type 0} (xs ys : List (Option A)) → somes (xs ++ ys) ≡ somes xs ++ somes ys
somes_append [] ys = refl
somes_append (None ∷ xs) ys = somes_append xs ys
somes_append (Some x ∷ xs) ys = ap (λ zs. x ∷ zs) (somes_append xs ys)

-- one place more
pub somes_more : {A : Type 0} (xs : List (Option A)) (i : ℕ) (o : Option A) → slice_get xs i ≡ Some o →
    somes (take (i + 1) xs) ≡ somes (take i xs) ++ somes (o ∷ [])
somes_more xs i o e =
    ap somes (take_more xs i o (slice_get_within xs i o e)) ∙ somes_append (take i xs) (get_or xs i o ∷ [])
    ∙ ap (λ p. somes (take i xs) ++ somes (p ∷ [])) (get_or_from_slice_get xs i o o e)

-- one place more, which is empty
pub none_more : {A : Type 0} (xs ys : List (Option A)) (i : ℕ) → slice_get xs i ≡ Some None →
    somes (take i xs) ≡ somes ys → somes (take (i + 1) xs) ≡ somes ys
none_more xs ys i e h = somes_more xs i None e ∙ append-nil (somes (take i xs)) ∙ h

-- one place more, at which stands what stands here
pub one_more : {A : Type 0} (xs ys : List (Option A)) (i : ℕ) (o : Option A) → slice_get xs i ≡ Some o →
    somes (take i xs) ≡ somes ys → somes (take (i + 1) xs) ≡ somes ys ++ somes (o ∷ [])
one_more xs ys i o e h = somes_more xs i o e ∙ ap (λ zs. zs ++ somes (o ∷ [])) h

-- no place is left
pub no_more : {A : Type 0} (xs ys : List (Option A)) (i : ℕ) → length xs ≤ i → somes (take i xs) ≡ somes ys →
    somes xs ≡ somes ys
no_more xs ys i e h = sym (ap somes (take_all i xs e)) ∙ h
