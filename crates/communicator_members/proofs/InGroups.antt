-- The rank in a group is the place of the first member that is the rank of world.
use Rattle.std.proofs.Common.{◌≡◌, ℕ, zero, suc, ◌+◌, ◌≤◌, Bool, true, false, cond, ltb, List, [], ◌∷◌, length, Some}
use Rattle.std.proofs.Common.{None, refl, sym, ◌∙◌, arith, inl, inr}
use Rattle.std.specs.Prelude.{◌==◌, position}
use Rattle.std.specs.List.{position_or_len}
use Rattle.std.proofs.lemmas.Bool.{cases_lt, lt-ltb}
use Rattle.std.proofs.lemmas.List.Recursion.{is_position_or_len}
use Rattle.perfect_queues.specs.Groups.{rank_in}

one_more : (b : Bool) (n : ℕ) → cond b zero (suc n) ≡ cond b 0 (1 + n)
one_more true n = refl
one_more false n = omega arith

rank_is : (m : ℕ) (xs : List ℕ) → rank_in xs m ≡ position_or_len (λ x. x == m) xs
rank_is m xs = is_position_or_len (λ ys. rank_in ys m) (λ x. x == m) refl (λ x ys. one_more (x == m) (rank_in ys m)) xs

within_by : (b : Bool) (n k : ℕ) → n ≤ k → cond b zero (suc n) ≤ suc k
within_by true n k le = omega arith
within_by false n k le = omega (arith, le)

-- it is at most one behind the last
pub rank_within : (m : ℕ) (xs : List ℕ) → rank_in xs m ≤ length xs
rank_within m [] = omega arith
rank_within m (x ∷ xs) = within_by (x == m) (rank_in xs m) (length xs) (rank_within m xs)

same_if : (b : Bool) (n p : ℕ) → cond b (Some n) None ≡ Some p → p ≡ n
same_if true n p is = cc
same_if false n p is = absurd cc

-- the place that is found
pub found_is : (xs : List ℕ) (m p : ℕ) → position (λ x. x == m) xs ≡ Some p → p ≡ rank_in xs m
found_is xs m p is =
    same_if (ltb (position_or_len (λ x. x == m) xs) (length xs)) (position_or_len (λ x. x == m) xs) p is ∙
    sym (rank_is m xs)

not_below : (b : Bool) (n : ℕ) → b ≡ true → cond b (Some n) None ≡ None → ⊥
not_below true n at is = cc
not_below false n at is = cc

-- where none is found, it is one behind the last
pub none_is : (xs : List ℕ) (m : ℕ) → position (λ x. x == m) xs ≡ None → length xs ≡ rank_in xs m
none_is xs m is =
    let first = position_or_len (λ x. x == m) xs in
    let same : rank_in xs m ≡ first = rank_is m xs in
    elim (cases_lt first (length xs)) [
      | inl lt ↦ absurd (not_below (ltb first (length xs)) first (lt-ltb _ _ lt) is)
      | inr le ↦ omega (arith, le, same, rank_within m xs)
    ]
