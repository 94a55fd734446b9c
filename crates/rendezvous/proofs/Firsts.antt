-- The place that `position` gives is that of the first one.
use Rattle.std.proofs.Common.{◌≡◌, ℕ, zero, suc, ◌+◌, ◌<◌, ◌≤◌, Bool, true, false, not, cond, ltb, List, [], ◌∷◌, ◌++◌}
use Rattle.std.proofs.Common.{length, get_or, set, take, drop, Some, None, refl, sym, ap, ◌∙◌, arith, inl, inr, ◌⊎◌}
use Rattle.std.specs.Prelude.{position, remove, slice_get}
use Rattle.std.specs.List.{position_or_len}
use Rattle.std.proofs.lemmas.Bool.{cases_lt, le-ltb, lt-ltb}
use Rattle.std.proofs.lemmas.List.{take-append-drop}
use Rattle.std.proofs.lemmas.List.Quantifiers.{position-Some}
use Rattle.std.proofs.lemmas.Option.{slice_get-get_or, get_or_from_slice_get}
use Rattle.std.proofs.Math.Seq.{drop-cons}

-- no element passes
abbrev pub NonePass : {A : Type 0} → (A → Bool) → List A → Type 0
NonePass p [] = Unit {0}
NonePass p (x ∷ xs) = (p x ≡ false) × NonePass p xs

-- x is the first element that passes, at place i
pub record IsFirst {A : Type 0} (p : A → Bool) (xs : List A) (i : ℕ) (x : A) : Type 0 where
  pub front : List A
  pub back : List A
  pub place : position p xs ≡ Some i
  pub there : slice_get xs i ≡ Some x
  pub read : (d : A) → get_or xs i d ≡ x
  pub parts : xs ≡ front ++ x ∷ back
  pub removed : remove xs i ≡ front ++ back
  pub written : (y : A) → set xs i y ≡ front ++ y ∷ back
  pub passes : p x ≡ true
  pub before : NonePass p front

none_pass : {A : Type 0} (p : A → Bool) (xs : List A) (i : ℕ) (d : A) → i ≤ length xs →
    ((k : ℕ) → k < i → p (get_or xs k d) ≡ false) → NonePass p (take i xs)
none_pass p xs zero d le h = tt
none_pass p [] (suc i) d le h = tt
none_pass p (x ∷ xs) (suc i) d le h =
    (h 0 (omega arith), none_pass p xs i d (omega arith) (λ k lt. h (suc k) (omega arith)))

step : (b : Bool) (m n : ℕ) → suc m ≤ cond (not b) (1 + n) 0 → (b ≡ false) × (m ≤ n)
step true m n le = absurd (omega arith)
step false m n le = (refl, omega arith)

long_none : {A : Type 0} (p : A → Bool) (xs : List A) → length xs ≤ position_or_len p xs → NonePass p xs
long_none p [] le = tt
long_none p (x ∷ xs) le =
    let s = step (p x) (length xs) (position_or_len p xs) le in
    (s.0, long_none p xs s.1)

set_parts : {A : Type 0} (xs : List A) (i : ℕ) (y : A) → i < length xs → set xs i y ≡ take i xs ++ y ∷ drop (suc i) xs
set_parts [] i y lt = absurd (omega arith)
set_parts (x ∷ xs) zero y lt = refl
set_parts (x ∷ xs) (suc i) y lt = ap (λ t. x ∷ t) (set_parts xs i y (omega arith))

first_at : {A : Type 0} (p : A → Bool) (xs : List A) (i : ℕ) (d : A) → position p xs ≡ Some i →
    IsFirst p xs i (get_or xs i d)
first_at p xs i d is =
    let h = position-Some p xs i d is in
    let whole : xs ≡ take i xs ++ get_or xs i d ∷ drop (suc i) xs = sym (take-append-drop i xs) ∙ ap (λ t. take i xs ++ t) (drop-cons xs i d h.0) in
    let there : slice_get xs i ≡ Some (get_or xs i d) = slice_get-get_or xs i d h.0 in
    record {
      front = take i xs;
      back = drop (suc i) xs;
      place = is;
      there = there;
      read = λ e. get_or_from_slice_get xs i (get_or xs i d) e there;
      parts = whole;
      removed = refl;
      written = λ y. set_parts xs i y h.0;
      passes = h.1;
      before = none_pass p xs i d (omega (arith, h.0)) h.2;
    }

some_at : {A : Type 0} (p : A → Bool) (xs : List A) → position_or_len p xs < length xs →
    (i : ℕ) × (x : A) × IsFirst p xs i x
some_at p [] lt = absurd (omega arith)
some_at p (y ∷ ys) lt =
    let xs = y ∷ ys in
    let t : ltb (position_or_len p xs) (length xs) ≡ true = lt-ltb _ _ lt in (
      position_or_len p xs,
      get_or xs (position_or_len p xs) y,
      first_at p xs (position_or_len p xs) y (ap (λ b. cond b (Some (position_or_len p xs)) None) t),
    )

-- the first element that passes, or none does
pub first_or_none : {A : Type 0} (p : A → Bool) (xs : List A) → ((position p xs ≡ None) × NonePass p xs) ⊎
    ((i : ℕ) × (x : A) × IsFirst p xs i x)
first_or_none p xs =
    elim (cases_lt (position_or_len p xs) (length xs)) [
      | inl lt ↦ inr (some_at p xs lt)
      | inr le ↦ inl (ap (λ b. cond b (Some (position_or_len p xs)) None) (le-ltb _ _ le), long_none p xs le)
    ]
