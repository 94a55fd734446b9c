-- Lists with one more behind them, and with one changed.
use Rattle.std.proofs.Common.{◌≡◌, ◌≢◌, ℕ, zero, suc, ◌<◌, List, [], ◌∷◌, ◌++◌, length, map, Some, ◌⊎◌, inl, inr}
use Rattle.std.proofs.Common.{slice_get, slice_set, refl, sym, ap, ◌∙◌, subst, arith}
use Rattle.std.proofs.lemmas.Bool.{cases_eq}
use Rattle.std.proofs.lemmas.Option.{none-some, same_Some}
use Rattle.std.specs.List.{AllByRecursion}
use Rattle.perfect_queues.proofs.ListLemmas.{get_set, get_set_other}
use Rattle.perfect_queues.specs.Requests.{changed}

pub get_more : {A : Type 0} (xs : List A) (x y : A) (j : ℕ) → slice_get xs j ≡ Some y →
    slice_get (xs ++ x ∷ []) j ≡ Some y
get_more [] x y j h = absurd (none-some y h)
get_more (z ∷ zs) x y zero h = h
get_more (z ∷ zs) x y (suc j) h = get_more zs x y j h

pub get_before : {A : Type 0} (xs : List A) (x y : A) (j : ℕ) → slice_get (xs ++ x ∷ []) j ≡ Some y →
    (slice_get xs j ≡ Some y) ⊎ ((j ≡ length xs) × (x ≡ y))
get_before [] x y zero h = inr (refl, same_Some x y h)
get_before [] x y (suc j) h = absurd (none-some y h)
get_before (z ∷ zs) x y zero h = inl h
get_before (z ∷ zs) x y (suc j) h =
    elim (get_before zs x y j h) [ inl a ↦ inl a | inr b ↦ inr (ap suc b.0, b.1) ]

pub length_more : {A : Type 0} (xs : List A) (x : A) → length (xs ++ x ∷ []) ≡ suc (length xs)
length_more [] x = refl
length_more (z ∷ zs) x = ap suc (length_more zs x)

pub get_within : {A : Type 0} (xs : List A) (k : ℕ) → k < length xs → (x : A) × (slice_get xs k ≡ Some x)
get_within [] k h = absurd (omega arith)
get_within (x ∷ xs) zero h = (x, refl)
get_within (x ∷ xs) (suc k) h = get_within xs k (omega arith)

pub within : {A : Type 0} (xs : List A) (k : ℕ) (x : A) → slice_get xs k ≡ Some x → k < length xs
within [] k x h = absurd (none-some x h)
within (z ∷ zs) zero x h = omega arith
within (z ∷ zs) (suc k) x h = let e : k < length zs = within zs k x h in omega arith

-- one element is another, and the rest is as it was
pub record IsSet {A : Type 0} (xs : List A) (k : ℕ) (y : A) (ys : List A) : Type 0 where
  pub here : slice_get ys k ≡ Some y
  pub others : (j : ℕ) → j ≢ k → slice_get ys j ≡ slice_get xs j
  pub same_length : length ys ≡ length xs

pub length_set : {A : Type 0} (xs : List A) (k : ℕ) (y : A) → length (slice_set xs k y) ≡ length xs
length_set [] k y = refl
length_set (x ∷ xs) zero y = refl
length_set (x ∷ xs) (suc k) y = ap suc (length_set xs k y)

turned : (j k : ℕ) → j ≢ k → k ≢ j
turned j k ne e = ne (sym e)

pub is_set : {A : Type 0} (xs : List A) (k : ℕ) (x y : A) → slice_get xs k ≡ Some x → IsSet xs k y (slice_set xs k y)
is_set xs k x y h =
    record {
      here = get_set xs k y (within xs k x h);
      others = λ j ne. get_set_other xs k j y (turned j k ne);
      same_length = length_set xs k y;
    }

changed_here : {A : Type 0} (f : A → A) (xs : List A) (k : ℕ) (x : A) → slice_get xs k ≡ Some x →
    slice_get (changed f xs k) k ≡ Some (f x)
changed_here f [] k x h = absurd (none-some x h)
changed_here f (z ∷ zs) zero x h = ap (λ v. Some (f v)) (same_Some z x h)
changed_here f (z ∷ zs) (suc k) x h = changed_here f zs k x h

changed_others : {A : Type 0} (f : A → A) (xs : List A) (k j : ℕ) → j ≢ k →
    slice_get (changed f xs k) j ≡ slice_get xs j
changed_others f [] k j ne = refl
changed_others f (z ∷ zs) zero zero ne = absurd (ne refl)
changed_others f (z ∷ zs) zero (suc j) ne = refl
changed_others f (z ∷ zs) (suc k) zero ne = refl
changed_others f (z ∷ zs) (suc k) (suc j) ne = changed_others f zs k j (λ e. ne (ap suc e))

pub changed_length : {A : Type 0} (f : A → A) (xs : List A) (k : ℕ) → length (changed f xs k) ≡ length xs
changed_length f [] k = refl
changed_length f (z ∷ zs) zero = refl
changed_length f (z ∷ zs) (suc k) = ap suc (changed_length f zs k)

pub is_changed : {A : Type 0} (f : A → A) (xs : List A) (k : ℕ) (x : A) → slice_get xs k ≡ Some x →
    IsSet xs k (f x) (changed f xs k)
is_changed f xs k x h =
    record {
      here = changed_here f xs k x h;
      others = λ j ne. changed_others f xs k j ne;
      same_length = changed_length f xs k;
    }

pub changed_nothing : {A : Type 0} (f : A → A) (xs : List A) (k : ℕ) →
    ((x : A) → slice_get xs k ≡ Some x → f x ≡ x) → changed f xs k ≡ xs
changed_nothing f [] k same = refl
changed_nothing f (x ∷ xs) zero same = ap (λ z. z ∷ xs) (same x refl)
changed_nothing f (x ∷ xs) (suc k) same = ap (λ zs. x ∷ zs) (changed_nothing f xs k same)

pub read_set : {A : Type 0} (xs ys : List A) (k : ℕ) (y : A) → IsSet xs k y ys → (j : ℕ) (z : A) →
    slice_get ys j ≡ Some z →
    ((j ≡ k) × (y ≡ z)) ⊎ ((j ≢ k) × (slice_get xs j ≡ Some z))
read_set xs ys k y is j z h =
    elim (cases_eq j k) [
      | inl e ↦ inl (e, same_Some y z (sym is.here ∙ (subst (λ i. slice_get ys i ≡ Some z) e h)))
      | inr ne ↦ inr (ne, sym (is.others j ne) ∙ h)
    ]

pub set_last : {A : Type 0} (xs : List A) (x y : A) → slice_set (xs ++ x ∷ []) (length xs) y ≡ xs ++ y ∷ []
set_last [] x y = refl
set_last (z ∷ zs) x y = ap (λ ys. z ∷ ys) (set_last zs x y)

pub all_mapped : {A B : Type 0} (f : A → B) (P : A → Type 0) (Q : B → Type 0) → ((x : A) → P x → Q (f x)) →
    (xs : List A) → AllByRecursion P xs → AllByRecursion Q (map f xs)
all_mapped f P Q one [] all = tt
all_mapped f P Q one (x ∷ xs) all = (one x all.0, all_mapped f P Q one xs all.1)
