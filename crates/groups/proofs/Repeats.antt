-- Lemmas on lists that name nothing twice.
use Rattle.std.proofs.Common.{◌≡◌, ℕ, ◌+◌, ◌<◌, Bool, true, false, List, [], ◌∷◌, ◌++◌, length, get_or, take, nat_eq}
use Rattle.std.proofs.Common.{refl, sym, ◌∙◌, ap, subst, arith, not, cond, ◌^◌, ◌≤◌, Fits, w16, inl, inr}
use Rattle.std.specs.Cmp.{nat_eq_equiv}
use Rattle.std.specs.List.{IsDistinct, AllByRecursion, All, filter, range_with_len, list_any}
use Rattle.std.proofs.lemmas.Bool.{eqb-true, eqb-false, eq-eqb, ne_eqb, not-true, or_parts, cases_lt}
use Rattle.std.proofs.lemmas.List.{take_more, get_or-take, length-take-le}
use Rattle.std.proofs.lemmas.Grind.{get_or_default_zero}
use Rattle.std.proofs.lemmas.Map.Keys.{IsDistinct-push, IsDistinct-cons, IsDistinct-head, IsDistinct-tail}
use Rattle.std.proofs.lemmas.Map.Keys.{IsDistinct-from_apart, apart_from_distinct}
use Rattle.std.proofs.lemmas.Map.Steps.{length-le_from_distinct_below}
use Rattle.std.proofs.lemmas.List.Elements.{All-append, All-weaker, All-filter, All-from_recursion, recursion_from_All}
use Rattle.std.proofs.lemmas.List.Elements.{filter_passes}
use Rattle.std.proofs.lemmas.List.FromFn.{get_or-range_with_len, length-range_with_len}
use Rattle.std.proofs.lemmas.Map.Views.{Contains-from_any}
use Rattle.groups.specs.RankSets.{is_marked}
use Rattle.groups.specs.Groups.{is_member, HasNoRepeats}

-- what a loop knows that has passed some ranks: which they were, and that none came twice
pub record AreSeen (words ranks : List ℕ) : Type 0 where
  pub marked : (rank : ℕ) → is_marked words rank ≡ is_member ranks rank
  pub apart : HasNoRepeats ranks

-- one more rank, which was not there
pub apart_more : (ranks : List ℕ) (i : ℕ) → i < length ranks → HasNoRepeats (take i ranks)
    → is_member (take i ranks) (get_or ranks i 0) ≡ false → HasNoRepeats (take (i + 1) ranks)
apart_more ranks i within apart new =
    rw (take_more ranks i 0 within) (IsDistinct-push nat_eq_equiv (take i ranks) (get_or ranks i 0) apart new)

-- a rank that came before comes twice
pub repeated : (ranks : List ℕ) (i : ℕ) → i < length ranks → is_member (take i ranks) (get_or ranks i 0) ≡ true
    → HasNoRepeats ranks → ⊥
repeated ranks i within here apart =
    let found = Contains-from_any {eq = nat_eq} eqb-true (get_or ranks i 0) (take i ranks) here in
    let early : found.0 < i = omega (arith, found.1, length-take-le i ranks) in
    let same : get_or ranks found.0 (get_or ranks i 0) ≡ get_or ranks i 0 =
    sym (get_or-take i ranks found.0 (get_or ranks i 0) early) ∙ found.2 in
    let here_too : get_or ranks i (get_or ranks i 0) ≡ get_or ranks i 0 = get_or_default_zero ranks i (get_or ranks i 0) within in
    eqb-false _ _ (apart_from_distinct nat_eq ranks found.0 i (get_or ranks i 0) apart early within)
    (same ∙ sym here_too)

-- no rank comes twice among none
pub nothing_seen : (words : List ℕ) → ((rank : ℕ) → is_marked words rank ≡ false) → AreSeen words []
unfolding IsDistinct
nothing_seen words blank = record { marked = blank; apart = tt }

-- a filter leaves no repeats where there were none
pub HasNoRepeats-filter : (p : ℕ → Bool) (xs : List ℕ) → HasNoRepeats xs → HasNoRepeats (filter p xs)
HasNoRepeats-filter p [] apart = apart
HasNoRepeats-filter p (x ∷ xs) apart = kept (p x)
    (recursion_from_All (λ y. nat_eq x y ≡ false) (filter p xs)
    (All-filter p (λ y. nat_eq x y ≡ false) xs
    (All-from_recursion (λ y. nat_eq x y ≡ false) xs (IsDistinct-head nat_eq x xs apart))))
    (HasNoRepeats-filter p xs (IsDistinct-tail nat_eq x xs apart))
  where
    kept : (b : Bool) → AllByRecursion (λ y. nat_eq x y ≡ false) (filter p xs) → HasNoRepeats (filter p xs)
        → HasNoRepeats (cond b (x ∷ filter p xs) (filter p xs))
    kept true head tail = IsDistinct-cons nat_eq x (filter p xs) head tail
    kept false head tail = tail

-- two lists that share nothing, joined
pub HasNoRepeats-append : (xs ys : List ℕ) → HasNoRepeats xs → HasNoRepeats ys → All (λ y. is_member xs y ≡ false) ys
    → HasNoRepeats (xs ++ ys)
HasNoRepeats-append [] ys first second out = second
HasNoRepeats-append (x ∷ xs) ys first second out =
    IsDistinct-cons nat_eq x (xs ++ ys)
    (recursion_from_All (λ y. nat_eq x y ≡ false) (xs ++ ys)
    (All-append (λ y. nat_eq x y ≡ false) xs ys
    (All-from_recursion (λ y. nat_eq x y ≡ false) xs (IsDistinct-head nat_eq x xs first))
    (All-weaker (λ y. is_member (x ∷ xs) y ≡ false) (λ y. nat_eq x y ≡ false)
    (λ y absent. ne_eqb x y (λ same. eqb-false y x (or_parts (nat_eq y x) (is_member xs y) absent).0 (sym same))) ys
    out)))
    (HasNoRepeats-append xs ys (IsDistinct-tail nat_eq x xs first) second
    (All-weaker (λ y. is_member (x ∷ xs) y ≡ false) (λ y. is_member xs y ≡ false)
    (λ y absent. (or_parts (nat_eq y x) (is_member xs y) absent).1) ys out))

-- the members of a union
pub HasNoRepeats-union : (first second : List ℕ) → HasNoRepeats first → HasNoRepeats second
    → HasNoRepeats (first ++ filter (λ rank. not (is_member first rank)) second)
HasNoRepeats-union first second one other =
    HasNoRepeats-append first (filter (λ rank. not (is_member first rank)) second) one
    (HasNoRepeats-filter (λ rank. not (is_member first rank)) second other)
    (All-weaker (λ rank. not (is_member first rank) ≡ true) (λ rank. is_member first rank ≡ false)
    (λ rank passes. not-true (is_member first rank) passes) (filter (λ rank. not (is_member first rank)) second)
    (filter_passes (λ rank. not (is_member first rank)) second))

-- numbers that rise by one
pub HasNoRepeats-range_with_len : (a n : ℕ) → HasNoRepeats (range_with_len a n)
HasNoRepeats-range_with_len a n = IsDistinct-from_apart nat_eq (range_with_len a n) (λ i j d i<j j<len.
    let within : j < n = omega (arith, j<len, length-range_with_len a n) in
    let inside : i < n = omega arith in
    rw (get_or-range_with_len a n i d inside, get_or-range_with_len a n j d within)
    (ne_eqb (a + i) (a + j) (λ same. omega arith)))

-- at two places there are two numbers
pub apart_at : (xs : List ℕ) (i j : ℕ) → HasNoRepeats xs → (i ≡ j → ⊥) → i < length xs → j < length xs
    → get_or xs i 0 ≡ get_or xs j 0 → ⊥
apart_at xs i j apart differ i<len j<len same =
    elim (cases_lt i j) [
      | inl below ↦ eqb-false _ _ (apart_from_distinct nat_eq xs i j 0 apart below j<len) same
      | inr above ↦ let over : j < i = omega arith in
          eqb-false _ _ (apart_from_distinct nat_eq xs j i 0 apart over i<len) (sym same)
    ]

-- numbers of 16 bits, none of them twice, are at most so many
pub length-le_from_apart : (xs : List ℕ) → HasNoRepeats xs → ((i : ℕ) → Fits w16 (get_or xs i 0)) → length xs ≤ 2 ^ 16
length-le_from_apart xs apart fit =
    length-le_from_distinct_below xs 65536 apart (λ q here.
    let found = Contains-from_any {eq = nat_eq} eqb-true q xs here in
    let at : get_or xs found.0 0 ≡ q = sym (get_or_default_zero xs found.0 q found.1) ∙ found.2 in
    omega (arith, fit found.0))
