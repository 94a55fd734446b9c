-- Lists of what holds, and what stands at a place.
use Rattle.std.proofs.Common.{◌≡◌, ℕ, zero, suc, ◌<◌, Bool, true, false, List, [], ◌∷◌, ◌++◌, length, Some, ◌==◌}
use Rattle.std.proofs.Common.{slice_get, slice_set, refl, sym, ◌∙◌, subst, arith}
use Rattle.std.specs.List.{AllByRecursion, flat_map}
use Rattle.std.proofs.lemmas.Bool.{eqb-true, eqb-false, ne_eqb}
use Rattle.std.proofs.lemmas.Option.{same_Some, slice_get_within}
use Rattle.std.proofs.lemmas.List.{length-set}
use Rattle.perfect_queues.proofs.ListLemmas.{get_last, get_set, get_set_other}

-- what holds of each element of two lists holds of each of both
pub All_append : {A : Type 0} (P : A → Type 0) (xs ys : List A) → AllByRecursion P xs → AllByRecursion P ys →
    AllByRecursion P (xs ++ ys)
All_append P [] ys a b = b
All_append P (x ∷ xs) ys a b = (a.0, All_append P xs ys a.1 b)

-- what follows from what holds of each element holds of each
pub All_more : {A : Type 0} (P Q : A → Type 0) (xs : List A) → ((x : A) → P x → Q x) → AllByRecursion P xs →
    AllByRecursion Q xs
All_more P Q [] f a = tt
All_more P Q (x ∷ xs) f a = (f x a.0, All_more P Q xs f a.1)

-- what holds of each element holds of the one at a place
pub All_get : {A : Type 0} (P : A → Type 0) (xs : List A) (k : ℕ) (x : A) → AllByRecursion P xs →
    slice_get xs k ≡ Some x → P x
All_get P [] k x a h = absurd (grind arith)
All_get P (y ∷ ys) zero x a h = subst P (same_Some y x h) a.0
All_get P (y ∷ ys) (suc k) x a h = All_get P ys k x a.1 h

-- what holds of each element of two lists joined holds of each of the first
pub All_front : {A : Type 0} (P : A → Type 0) (xs ys : List A) → AllByRecursion P (xs ++ ys) → AllByRecursion P xs
All_front P [] ys a = tt
All_front P (x ∷ xs) ys a = (a.0, All_front P xs ys a.1)

-- what holds at each place holds of each element
pub All_each : {A : Type 0} (P : A → Type 0) (xs : List A) → ((k : ℕ) (x : A) → slice_get xs k ≡ Some x → P x) →
    AllByRecursion P xs
All_each P [] f = tt
All_each P (x ∷ xs) f = (f 0 x refl, All_each P xs (λ k y h. f (suc k) y h))

-- what holds of each element and of one behind them holds of each where that one stands at a place
pub All_set : {A : Type 0} (P : A → Type 0) (xs : List A) (k : ℕ) (new : A) → AllByRecursion P (xs ++ new ∷ []) →
    AllByRecursion P (slice_set xs k new)
All_set P [] k new a = tt
All_set P (x ∷ xs) zero new a =
    (All_get P (x ∷ (xs ++ new ∷ [])) (suc (length xs)) new a (get_last xs new), All_front P xs (new ∷ []) a.1)
All_set P (x ∷ xs) (suc k) new a = (a.0, All_set P xs k new a.1)

-- what holds of each part holds of the parts joined
pub All_flat : {A B : Type 0} (P : B → Type 0) (f : A → List B) (xs : List A) → ((x : A) → AllByRecursion P (f x)) →
    AllByRecursion P (flat_map f xs)
All_flat P f [] h = tt
All_flat P f (x ∷ xs) h = All_append P (f x) (flat_map f xs) (h x) (All_flat P f xs h)

-- a test for two numbers does not ask which comes first
pub false_sym : (a b : ℕ) → (a == b) ≡ false → (b == a) ≡ false
false_sym a b h = ne_eqb b a (λ e. eqb-false a b h (sym e))

-- a place within a list has an element
pub get_within : {A : Type 0} (xs : List A) (k : ℕ) → k < length xs → (x : A) × (slice_get xs k ≡ Some x)
get_within [] k h = absurd (omega arith)
get_within (x ∷ xs) zero h = (x, refl)
get_within (x ∷ xs) (suc k) h = get_within xs k (omega arith)

-- what holds at each place still does once the one at a place is another of which it holds
pub set_each : {A : Type 0} (P : ℕ → A → Type 0) (xs : List A) (k : ℕ) (new : A) → P k new
    → ((y : ℕ) (x : A) → (y == k) ≡ false → slice_get xs y ≡ Some x → P y x) →
    (y : ℕ) (x : A) → slice_get (slice_set xs k new) y ≡ Some x → P y x
set_each P xs k new here elsewhere y x h = go (y == k) refl
  where
    there : y ≡ k → P y x
    there e =
        let a : slice_get (slice_set xs k new) k ≡ Some x = subst (λ (j : ℕ). slice_get (slice_set xs k new) j ≡ Some x) e h in
        let lt : k < length xs = subst (λ (m : ℕ). k < m) (length-set xs k new) (slice_get_within (slice_set xs k new) k x a) in
        let b : new ≡ x = same_Some new x (sym (get_set xs k new lt) ∙ a) in
        subst (λ (j : ℕ). P j x) (sym e) (subst (P k) b here)

    go : (t : Bool) → (y == k) ≡ t → P y x
    go true e = there (eqb-true y k e)
    go false e = elsewhere y x e (sym (get_set_other xs k y new (λ same. eqb-false y k e (sym same))) ∙ h)
