-- What is told before what.
use Rattle.std.proofs.Common.{◌≡◌, ◌==◌, ℕ, ◌<◌, Bool, true, false, nat_lt, refl, ◌∙◌, arith, ◌⊎◌, inl, inr}
use Rattle.std.specs.Prelude.{if◌then◌else◌}
use Rattle.std.proofs.lemmas.Bool.{eqb-true, eq-eqb, lt-ltb, ltb-true, ne_eqb}
use Rattle.rank_findings.specs.Laws.{GoesAlong}
use Rattle.rank_findings.specs.Orders.{by, chapter, place_in_rank, rank_in}
use Rattle.rank_findings.specs.declared.order.Told.{Told}

split : (t p u : Bool) → (if t then p else u) ≡ true → ((t ≡ true) × (p ≡ true)) ⊎ (u ≡ true)
split true p u is = inl (refl, is)
split false p u is = inr is

-- either the first two numbers decide, or they are the same
decides : (a b : ℕ) (p : Bool) → ((a == b ≡ true) × (p ≡ true)) ⊎ (nat_lt a b ≡ true) →
    (a < b) ⊎ ((a ≡ b) × (p ≡ true))
decides a b p (inl both) = inr (eqb-true a b both.0, both.1)
decides a b p (inr less) = inl (ltb-true a b less)

from_by : (a b : ℕ) (p : Bool) → by a b p ≡ true → (a < b) ⊎ ((a ≡ b) × (p ≡ true))
from_by a b p is = decides a b p (split (a == b) p (nat_lt a b) is)

other : (t p u : Bool) → t ≡ false → u ≡ true → (if t then p else u) ≡ true
other true p u apart is = absurd cc
other false p u apart is = is

same : (t p u : Bool) → t ≡ true → p ≡ true → (if t then p else u) ≡ true
same true p u alike is = is
same false p u alike is = absurd cc

apart : (a b : ℕ) → a < b → a ≡ b → ⊥
apart a b less is = omega arith

to_less : (a b : ℕ) (p : Bool) → a < b → by a b p ≡ true
to_less a b p less = other (a == b) p (nat_lt a b) (ne_eqb a b (apart a b less)) (lt-ltb a b less)

to_same : (a b : ℕ) (p : Bool) → a ≡ b → p ≡ true → by a b p ≡ true
to_same a b p is behind = same (a == b) p (nat_lt a b) (eq-eqb a b is) behind

behind_less : (a b c : ℕ) (q r : Bool) → a < b → (b < c) ⊎ ((b ≡ c) × (q ≡ true)) → by a c r ≡ true
behind_less a b c q r less (inl next) = to_less a c r (omega arith)
behind_less a b c q r less (inr next) = let e : b ≡ c = next.0 in to_less a c r (omega arith)

behind_same : (a b c : ℕ) (q r : Bool) → (q ≡ true → r ≡ true) → a ≡ b → (b < c) ⊎ ((b ≡ c) × (q ≡ true)) →
    by a c r ≡ true
behind_same a b c q r on is (inl next) = to_less a c r (omega arith)
behind_same a b c q r on is (inr next) = to_same a c r (is ∙ next.0) (on next.1)

behind : (a b c : ℕ) (p q r : Bool) → (p ≡ true → q ≡ true → r ≡ true) → (a < b) ⊎ ((a ≡ b) × (p ≡ true)) →
    (b < c) ⊎ ((b ≡ c) × (q ≡ true)) → by a c r ≡ true
behind a b c p q r on (inl less) next = behind_less a b c q r less next
behind a b c p q r on (inr same) next = behind_same a b c q r (on same.1) same.0 next

by_along : (a b c : ℕ) (p q r : Bool) → (p ≡ true → q ≡ true → r ≡ true) → by a b p ≡ true → by b c q ≡ true →
    by a c r ≡ true
by_along a b c p q r on first next = behind a b c p q r on (from_by a b p first) (from_by b c q next)

less_along : (a b c : ℕ) → nat_lt a b ≡ true → nat_lt b c ≡ true → nat_lt a c ≡ true
less_along a b c first next =
    let p : a < b = ltb-true a b first in
    let q : b < c = ltb-true b c next in
    lt-ltb a c (omega arith)

abbrev found_before : Told → Told → Bool
found_before a b = nat_lt a.number b.number

abbrev in_rank : Told → Told → Bool
in_rank a b = by (place_in_rank a.finding) (place_in_rank b.finding) (found_before a b)

abbrev in_chapter : Told → Told → Bool
in_chapter a b = by (rank_in a) (rank_in b) (in_rank a b)

in_rank_along : (a b c : Told) → in_rank a b ≡ true → in_rank b c ≡ true → in_rank a c ≡ true
in_rank_along a b c first next =
    by_along (place_in_rank a.finding) (place_in_rank b.finding) (place_in_rank c.finding) (found_before a b)
    (found_before b c) (found_before a c) (less_along a.number b.number c.number) first next

in_chapter_along : (a b c : Told) → in_chapter a b ≡ true → in_chapter b c ≡ true → in_chapter a c ≡ true
in_chapter_along a b c first next =
    by_along (rank_in a) (rank_in b) (rank_in c) (in_rank a b) (in_rank b c) (in_rank a c) (in_rank_along a b c) first next

pub goes_along : GoesAlong
goes_along a b c first next =
    by_along (chapter a.finding) (chapter b.finding) (chapter c.finding) (in_chapter a b) (in_chapter b c)
    (in_chapter a c) (in_chapter_along a b c) first next
