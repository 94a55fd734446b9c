-- Lemmas on sorted rows.
use Rattle.std.proofs.Common.{◌≡◌, ℕ, ◌+◌, ◌<◌, ◌≤◌, zero, suc, Bool, true, false, cond, List, [], ◌∷◌, Option, Some}
use Rattle.std.proofs.Common.{None, length, get_or, set, filter, map, refl, arith, inl, inr, is_lt}
use Rattle.std.specs.List.{swap}
use Rattle.std.specs.List.Sorted.{IsPermutation, IsNonDecreasingBy, IsSorted}
use Rattle.std.specs.Option.{option_cmp}
use Rattle.std.specs.Ordering.{nat_cmp, ordering_then}
use Rattle.std.specs.Cmp.{IsTotalOrder, IsStrictWeakOrder, nat_cmp_total, int_cmp_total, on_total, then_total}
use Rattle.std.specs.Cmp.Lexicographic.{options_total}
use Rattle.std.specs.declared.cmp.Ordering.{Ordering}
use Rattle.std.specs.declared.cmp.Ordering.TheVariants.{Less, Equal, Greater}
use Rattle.std.proofs.lemmas.Bool.{cases_lt, lt-ltb, eqb-true, false≢true, true≢false}
use Rattle.std.proofs.lemmas.Cmp.{tied_itself}
use Rattle.std.proofs.lemmas.List.Elements.{filter_passes}
use Rattle.std.proofs.lemmas.List.Kept.{IsSortedBy-filter}
use Rattle.std.proofs.lemmas.List.Sorted.{IsPermutation-refl, IsPermutation-cons, IsPermutation-trans}
use Rattle.std.proofs.lemmas.List.Sorted.{IsPermutation-sym, IsPermutation-middle, IsPermutation-keeps, All-permutation}
use Rattle.std.proofs.lemmas.List.Sorted.{IsNonDecreasingBy-from_all_adjacent, ranks_by}
use Rattle.context_agreement.specs.declared.split.SplitRow.{SplitRow}
use Rattle.context_agreement.specs.Parts.{SplitPart}
use Rattle.context_agreement.specs.Splits.{is_given, has_colour, row_order, full_order, HasPart, IsPart, IsSplitPlan}
use Rattle.context_agreement.specs.Splits.{IsCut, colour_number}

-- it is an order
full_order_total : IsTotalOrder full_order
full_order_total =
    then_total (on_total (λ (row : SplitRow). row.colour) (options_total nat_cmp_total))
    (then_total (on_total (λ (row : SplitRow). row.key) int_cmp_total)
    (on_total (λ (row : SplitRow). row.rank) nat_cmp_total))

-- and its test a strict one
full_order_weak : IsStrictWeakOrder (λ a b. is_lt (full_order a b))
full_order_weak = ranks_by full_order_total (λ (row : SplitRow). row)

-- what isn't below by two tests isn't below by the first
first_not_less : (o p : Ordering) → is_lt (ordering_then o p) ≡ false → is_lt o ≡ false
first_not_less Less p h = h
first_not_less Equal p h = refl
first_not_less Greater p h = h

-- a number that isn't below is at least as great
nat_not_less : (a b : ℕ) → is_lt (nat_cmp a b) ≡ false → b ≤ a
nat_not_less a b h =
    elim (cases_lt a b) [ inl below ↦ absurd (true≢false (rw (lt-ltb a b below) at h)) | inr above ↦ above ]

-- nor is a colour
colours_rise : (a b : Option ℕ) → is_lt (option_cmp nat_cmp a b) ≡ false → colour_number b ≤ colour_number a
colours_rise None None h = omega arith
colours_rise None (Some b) h = absurd (true≢false h)
colours_rise (Some a) None h = omega arith
colours_rise (Some a) (Some b) h = let le = nat_not_less a b h in omega arith

-- sorted rows stand in the order of their colours
pub non_decreasing : (rows : List SplitRow) → IsSorted full_order rows →
    IsNonDecreasingBy (λ row. colour_number row.colour) rows
non_decreasing rows sorted =
    IsNonDecreasingBy-from_all_adjacent (λ (row : SplitRow). colour_number row.colour) rows (λ k d within.
    colours_rise (get_or rows (k + 1) d).colour (get_or rows k d).colour
    (first_not_less _ _ (sorted k d (omega arith) within)))

-- the two first of a list, in each other's place
front_two : (p : SplitRow → Bool) (a b : SplitRow) (rest : List SplitRow)
    → IsPermutation (filter p (a ∷ b ∷ rest)) (filter p (b ∷ a ∷ rest))
front_two p a b rest = by (p a) (p b)
  where
    by : (s t : Bool) →
        IsPermutation
        (cond s (a ∷ cond t (b ∷ filter p rest) (filter p rest)) (cond t (b ∷ filter p rest) (filter p rest)))
        (cond t (b ∷ cond s (a ∷ filter p rest) (filter p rest)) (cond s (a ∷ filter p rest) (filter p rest)))
    by true true = IsPermutation-middle (a ∷ []) b (filter p rest)
    by true false = IsPermutation-refl (a ∷ filter p rest)
    by false true = IsPermutation-refl (b ∷ filter p rest)
    by false false = IsPermutation-refl (filter p rest)

-- one more element before both
before_both : (p : SplitRow → Bool) (x : SplitRow) (xs ys : List SplitRow) → IsPermutation (filter p xs) (filter p ys)
    → IsPermutation (filter p (x ∷ xs)) (filter p (x ∷ ys))
before_both p x xs ys same = by (p x)
  where
    by : (s : Bool) → IsPermutation (cond s (x ∷ filter p xs) (filter p xs)) (cond s (x ∷ filter p ys) (filter p ys))
    by true = IsPermutation-cons x (filter p xs) (filter p ys) same
    by false = same

-- the first of a list and a later one, in each other's place
first_swapped : (p : SplitRow → Bool) (x d : SplitRow) (xs : List SplitRow) (j : ℕ) → j < length xs
    → IsPermutation (filter p (x ∷ xs)) (filter p (get_or xs j d ∷ set xs j x))
first_swapped p x d [] j within = absurd (omega arith)
first_swapped p x d (y ∷ ys) zero within = front_two p x y ys
first_swapped p x d (y ∷ ys) (suc j) within =
    let rest = first_swapped p x d ys j (omega arith) in
    IsPermutation-trans _ _ _ (front_two p x y ys)
    (IsPermutation-trans _ _ _ (before_both p y (x ∷ ys) (get_or ys j d ∷ set ys j x) rest)
    (front_two p y (get_or ys j d) (set ys j x)))

-- any two, in each other's place
swapped : (p : SplitRow → Bool) (d : SplitRow) (xs : List SplitRow) (i j : ℕ) → i < length xs → j < length xs
    → IsPermutation (filter p xs) (filter p (set (set xs i (get_or xs j d)) j (get_or xs i d)))
swapped p d [] i j i<len j<len = absurd (omega arith)
swapped p d (x ∷ xs) zero zero i<len j<len = IsPermutation-refl (filter p (x ∷ xs))
swapped p d (x ∷ xs) zero (suc j) i<len j<len = first_swapped p x d xs j (omega arith)
swapped p d (x ∷ xs) (suc i) zero i<len j<len = first_swapped p x d xs i (omega arith)
swapped p d (x ∷ xs) (suc i) (suc j) i<len j<len =
    before_both p x xs (set (set xs i (get_or xs j d)) j (get_or xs i d))
    (swapped p d xs i j (omega arith) (omega arith))

-- a filter of a list in another order is the filter in another order
pub IsPermutation-filter : (p : SplitRow → Bool) (xs ys : List SplitRow) → IsPermutation xs ys →
    IsPermutation (filter p xs) (filter p ys)
IsPermutation-filter p xs ys =
    IsPermutation-keeps xs (λ l. IsPermutation (filter p xs) (filter p l)) (IsPermutation-refl (filter p xs)) step ys
  where
    step : (l : List SplitRow) (i j : ℕ) → i < length l → j < length l → IsPermutation (filter p xs) (filter p l)
        → IsPermutation (filter p xs) (filter p (swap l i j))
    step [] i j i<len j<len so_far = so_far
    step (x ∷ l) i j i<len j<len so_far = IsPermutation-trans _ _ _ so_far (swapped p x (x ∷ l) i j i<len j<len)

-- rows of one colour are sorted by key and old rank
one_colour : (colour : ℕ) (a b : SplitRow) → has_colour colour a ≡ true → has_colour colour b ≡ true
    → is_lt (full_order a b) ≡ false → is_lt (row_order a b) ≡ false
one_colour colour a b here there h = rw (tie a.colour b.colour here there) at h
  where
    tie : (s t : Option ℕ) → is_given colour s ≡ true → is_given colour t ≡ true → option_cmp nat_cmp s t ≡ Equal
    tie None t here there = absurd (false≢true here)
    tie (Some s) None here there = absurd (false≢true there)
    tie (Some s) (Some t) here there =
        rw (eqb-true s colour here, eqb-true t colour there) (tied_itself nat_cmp_total colour)

-- sorted rows and their cut are the plan of the rows as they came
pub IsSplitPlan-sorted : (rows sorted : List SplitRow) (plan : List SplitPart) → IsPermutation rows sorted →
    IsSorted full_order sorted
    → IsCut sorted plan → IsSplitPlan rows plan
IsSplitPlan-sorted rows sorted plan moved in_order cut = record {
  parts = λ k d within. part (get_or plan k d) (cut.parts k d within) (cut.present k d within);
  rising = cut.rising;
  complete =
      All-permutation (λ (row : SplitRow). HasPart plan row.colour) sorted rows (IsPermutation-sym rows sorted moved)
      cut.complete;
}
  where
    part : (p : SplitPart) → p.ranks ≡ map (λ row. row.rank) (filter (has_colour p.colour) sorted) →
        0 < length p.ranks → IsPart rows p
    part p ranks present = record {
      ordered = filter (has_colour p.colour) sorted;
      all_of_its_colour = IsPermutation-filter (has_colour p.colour) rows sorted moved;
      in_order = λ k d low within.
          let passes = filter_passes (has_colour p.colour) sorted in
          one_colour p.colour (get_or (filter (has_colour p.colour) sorted) (k + 1) d)
          (get_or (filter (has_colour p.colour) sorted) k d)
          (passes (k + 1) d within) (passes k d (omega arith))
          (IsSortedBy-filter (λ a b. is_lt (full_order a b)) full_order_weak (has_colour p.colour) sorted in_order k d
          low within);
      ranks = ranks;
      present = present;
    }
