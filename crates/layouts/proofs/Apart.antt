-- Copies of a layout don't meet.
use Rattle.std.proofs.Common.{◌≡◌, ℕ, zero, suc, ◌+◌, ◌*◌, ◌<◌, ◌≤◌, max, min, Bool, true, false, ◌||◌, List, [], ◌∷◌}
use Rattle.std.proofs.Common.{◌++◌, nat_eq, refl, sym, ap, ap₂, ◌∙◌, subst, arith}
use Rattle.std.specs.List.{AllByRecursion}
use Rattle.std.specs.Set.{is_member}
use Rattle.std.proofs.Math.Nat.{suc-mul}
use Rattle.std.proofs.lemmas.Bool.{eqb-true, eq-eqb}
use Rattle.std.proofs.lemmas.List.Folds.{list_any-append}
use Rattle.layouts.specs.Laws.{CopiesDontMeet}
use Rattle.layouts.specs.Layouts.{copies_at, extent_of, has_repeats, highest_of, lowest_of, moved}
use Rattle.layouts.proofs.PlaceLaws.{copies_at-none, copies_at-suc}
use Rattle.layouts.proofs.WritingLaws.{both_false, neither}

-- each number is at least n; each is at most n
abbrev AreFrom : ℕ → List ℕ → Type 0
AreFrom n xs = AllByRecursion (λ x. n ≤ x) xs

abbrev AreUpTo : ℕ → List ℕ → Type 0
AreUpTo n xs = AllByRecursion (λ x. x ≤ n) xs

from_less : (m n : ℕ) (xs : List ℕ) → m ≤ n → AreFrom n xs → AreFrom m xs
from_less m n [] le a = tt
from_less m n (x ∷ xs) le a = let h : n ≤ x = a.0 in (omega arith, from_less m n xs le a.1)

from_append : (n : ℕ) (xs ys : List ℕ) → AreFrom n xs → AreFrom n ys → AreFrom n (xs ++ ys)
from_append n [] ys a b = b
from_append n (x ∷ xs) ys a b = (a.0, from_append n xs ys a.1 b)

-- the lowest and the highest bound all
from_lowest : (xs : List ℕ) → AreFrom (lowest_of xs) xs
from_lowest [] = tt
from_lowest (x ∷ []) = (omega arith, tt)
from_lowest (x ∷ y ∷ ys) = (
  omega arith,
  from_less (min x (lowest_of (y ∷ ys))) (lowest_of (y ∷ ys)) (y ∷ ys) (omega arith)
      (from_lowest (y ∷ ys)),
)

up_to_more : (m n : ℕ) (xs : List ℕ) → m ≤ n → AreUpTo m xs → AreUpTo n xs
up_to_more m n [] le a = tt
up_to_more m n (x ∷ xs) le a = let h : x ≤ m = a.0 in (omega arith, up_to_more m n xs le a.1)

up_to_highest : (xs : List ℕ) → AreUpTo (highest_of xs) xs
up_to_highest [] = tt
up_to_highest (x ∷ xs) =
    (omega arith, up_to_more (highest_of xs) (max x (highest_of xs)) xs (omega arith) (up_to_highest xs))

from_moved : (by n : ℕ) (xs : List ℕ) → AreFrom n xs → AreFrom (by + n) (moved by xs)
from_moved by n [] a = tt
from_moved by n (x ∷ xs) a = let h : n ≤ x = a.0 in (omega arith, from_moved by n xs a.1)

up_to_moved : (by n : ℕ) (xs : List ℕ) → AreUpTo n xs → AreUpTo (by + n) (moved by xs)
up_to_moved by n [] a = tt
up_to_moved by n (x ∷ xs) a = let h : x ≤ n = a.0 in (omega arith, up_to_moved by n xs a.1)

unlike : (o x : ℕ) → (o ≡ x → ⊥) → nat_eq o x ≡ false
unlike o x ne = go (nat_eq o x) refl
  where
    go : (t : Bool) → nat_eq o x ≡ t → t ≡ false
    go true h = absurd (ne (eqb-true o x h))
    go false h = refl

not_above : (o n : ℕ) (ys : List ℕ) → o < n → AreFrom n ys → is_member nat_eq ys o ≡ false
not_above o n [] lt a = refl
not_above o n (y ∷ ys) lt a =
    let h : n ≤ y = a.0 in
    both_false (nat_eq o y) (is_member nat_eq ys o) (unlike o y (λ e. absurd (omega arith))) (not_above o n ys lt a.1)

-- numbers up to one, and others above it
repeats_append : (n : ℕ) (xs ys : List ℕ) → AreUpTo n xs → AreFrom (n + 1) ys → has_repeats xs ≡ false →
    has_repeats ys ≡ false → has_repeats (xs ++ ys) ≡ false
repeats_append n [] ys a b d e = e
repeats_append n (x ∷ xs) ys a b d e =
    let h : x ≤ n = a.0 in
    let m = neither (is_member nat_eq xs x) (has_repeats xs) d in
    both_false (is_member nat_eq (xs ++ ys) x) (has_repeats (xs ++ ys))
    (list_any-append (nat_eq x) xs ys ∙
    both_false (is_member nat_eq xs x) (is_member nat_eq ys x) m.0 (not_above x (n + 1) ys (omega arith) b))
    (repeats_append n xs ys a.1 b m.1 e)

moved_eq : (by o x : ℕ) → nat_eq (by + o) (by + x) ≡ nat_eq o x
moved_eq by o x = go (nat_eq o x) refl
  where
    go : (t : Bool) → nat_eq o x ≡ t → nat_eq (by + o) (by + x) ≡ t
    go true h = let e : o ≡ x = eqb-true o x h in eq-eqb (by + o) (by + x) (omega arith)
    go false h =
        unlike (by + o) (by + x) (λ e. let same : o ≡ x = omega arith in absurd (differ (sym h ∙ eq-eqb o x same)))
      where
        differ : false ≡ true → ⊥
        differ q = absurd (cc)

moved_member : (by o : ℕ) (xs : List ℕ) → is_member nat_eq (moved by xs) (by + o) ≡ is_member nat_eq xs o
moved_member by o [] = refl
moved_member by o (x ∷ xs) = ap₂ (λ (a b : Bool). a || b) (moved_eq by o x) (moved_member by o xs)

moved_repeats : (by : ℕ) (xs : List ℕ) → has_repeats (moved by xs) ≡ has_repeats xs
moved_repeats by [] = refl
moved_repeats by (x ∷ xs) = ap₂ (λ (a b : Bool). a || b) (moved_member by x xs) (moved_repeats by xs)

-- an extent reaches from the lowest to the highest
reaches : (x : ℕ) (xs : List ℕ) → highest_of (x ∷ xs) + 1 ≤ lowest_of (x ∷ xs) + extent_of (x ∷ xs)
reaches x xs = omega arith

next : (first e : ℕ) → (first + 1) * e ≡ first * e + e
next first e = let same : first + 1 ≡ suc first = omega arith in ap (λ (n : ℕ). n * e) same ∙
    (suc-mul first e ∙ omega arith)

from_copies : (first count : ℕ) (xs : List ℕ) → AreFrom (first * extent_of xs + lowest_of xs) (copies_at first count xs)
from_copies first zero xs = subst (AreFrom (first * extent_of xs + lowest_of xs)) (sym (copies_at-none first xs)) tt
from_copies first (suc count) xs =
    let e = next first (extent_of xs) in
    subst (AreFrom (first * extent_of xs + lowest_of xs)) (sym (copies_at-suc first count xs))
    (from_append (first * extent_of xs + lowest_of xs) (moved (first * extent_of xs) xs)
    (copies_at (first + 1) count xs)
    (from_moved (first * extent_of xs) (lowest_of xs) xs (from_lowest xs))
    (from_less (first * extent_of xs + lowest_of xs) ((first + 1) * extent_of xs + lowest_of xs)
    (copies_at (first + 1) count xs) (omega (arith, e)) (from_copies (first + 1) count xs)))

copies_apart : (first count x : ℕ) (xs : List ℕ) → has_repeats (x ∷ xs) ≡ false →
    has_repeats (copies_at first count (x ∷ xs)) ≡ false
copies_apart first zero x xs d = ap has_repeats (copies_at-none first (x ∷ xs))
copies_apart first (suc count) x xs d =
    let l : List ℕ = x ∷ xs in
    let e = next first (extent_of (x ∷ xs)) in
    let r = reaches x xs in
    ap has_repeats (copies_at-suc first count (x ∷ xs))
    ∙ repeats_append (first * extent_of (x ∷ xs) + highest_of (x ∷ xs)) (moved (first * extent_of (x ∷ xs)) (x ∷ xs))
    (copies_at (first + 1) count (x ∷ xs))
    (up_to_moved (first * extent_of (x ∷ xs)) (highest_of (x ∷ xs)) (x ∷ xs) (up_to_highest (x ∷ xs)))
    (from_less (first * extent_of (x ∷ xs) + highest_of (x ∷ xs) + 1) ((first + 1) * extent_of (x ∷ xs) +
    lowest_of (x ∷ xs)) (copies_at (first + 1) count (x ∷ xs)) (omega (arith, e, r))
    (from_copies (first + 1) count (x ∷ xs)))
    (moved_repeats (first * extent_of (x ∷ xs)) (x ∷ xs) ∙ d)
    (copies_apart (first + 1) count x xs d)

none_of_none : (first count : ℕ) → copies_at first count [] ≡ []
none_of_none first zero = copies_at-none first []
none_of_none first (suc count) = copies_at-suc first count [] ∙ none_of_none (first + 1) count

pub copies_dont_meet : CopiesDontMeet
copies_dont_meet copies [] d = ap has_repeats (none_of_none 0 copies)
copies_dont_meet copies (x ∷ xs) d = copies_apart 0 copies x xs d
