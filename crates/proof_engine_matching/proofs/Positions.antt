-- The first place that passes a test, by recursion over the list.
use Rattle.std.proofs.Common.{◌≡◌, ℕ, suc, ◌+◌, ◌<◌, ◌≤◌, Bool, true, false, not, cond, ltb, List, [], ◌∷◌, length}
use Rattle.std.proofs.Common.{drop, position, remove, option_map, Option, Some, None, refl, sym, ap, ◌∙◌, ⊎_elim, arith}
use Rattle.std.specs.List.{position_or_len}
use Rattle.std.proofs.lemmas.Bool.{lt-ltb, le-ltb, cases_lt}

-- a place below the length stays below it in a list with one more element in front
onward : (k n : ℕ) → cond (ltb (1 + k) (suc n)) (Some (1 + k)) None ≡ option_map suc (cond (ltb k n) (Some k) None)
onward k n = ⊎_elim
    (λ (lt : k < n). ap (λ (t : Bool). cond t (Some (1 + k)) None) (lt-ltb (1 + k) (suc n) (omega arith)) ∙
    (ap Some one_more ∙ sym (ap (λ (t : Bool). option_map suc (cond t (Some k) None)) (lt-ltb k n lt))))
    (λ (le : n ≤ k). ap (λ (t : Bool). cond t (Some (1 + k)) None) (le-ltb (1 + k) (suc n) (omega arith)) ∙
    sym (ap (λ (t : Bool). option_map suc (cond t (Some k) None)) (le-ltb k n le)))
    (cases_lt k n)
  where
    one_more : 1 + k ≡ suc k
    one_more = omega arith

-- what the front element's test makes of the place
by_test : (b : Bool) (k n : ℕ) → cond (ltb (cond (not b) (1 + k) 0) (suc n)) (Some (cond (not b) (1 + k) 0)) None ≡
    cond b (Some 0) (option_map suc (cond (ltb k n) (Some k) None))
by_test true k n = ap (λ (t : Bool). cond t (Some 0) None) (lt-ltb 0 (suc n) (omega arith))
by_test false k n = onward k n

-- the place in a list by its first element
pub position_cons : {A : Type 0} (p : A → Bool) (x : A) (xs : List A) →
    position p (x ∷ xs) ≡ cond (p x) (Some 0) (option_map suc (position p xs))
position_cons p x xs = by_test (p x) (position_or_len p xs) (length xs)

-- the front element passes
pub position_here : {A : Type 0} (p : A → Bool) (x : A) (xs : List A) → p x ≡ true → position p (x ∷ xs) ≡ Some 0
position_here p x xs h = position_cons p x xs ∙ ap (λ (b : Bool). cond b (Some 0) (option_map suc (position p xs))) h

-- the front element doesn't
pub position_later : {A : Type 0} (p : A → Bool) (x : A) (xs : List A) (o : Option ℕ) → p x ≡ false →
    position p xs ≡ o → position p (x ∷ xs) ≡ option_map suc o
position_later p x xs o h e = position_cons p x xs ∙
    (ap (λ (b : Bool). cond b (Some 0) (option_map suc (position p xs))) h ∙ ap (λ (q : Option ℕ). option_map suc q) e)

-- nothing dropped
drop_none : {A : Type 0} (xs : List A) → drop 0 xs ≡ xs
drop_none [] = refl
drop_none (x ∷ xs) = refl

-- the list without its first element
pub remove_first : {A : Type 0} (x : A) (xs : List A) → remove (x ∷ xs) 0 ≡ xs
remove_first x xs = drop_none xs
