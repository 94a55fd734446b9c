-- The places of copies in a buffer, and what is sent and received there.
use Rattle.std.proofs.Common.{◌≡◌, ℕ, zero, suc, ◌+◌, ◌-◌, ◌*◌, ◌/◌, ◌%◌, ◌^◌, ◌<◌, false, ltb, leb, List, [], ◌∷◌}
use Rattle.std.proofs.Common.{length, refl, sym, ap, ◌∙◌, arith, inl, inr}
use Rattle.std.specs.Prelude.{min}
use Rattle.std.proofs.Math.Nat.{mul-div_cancel, div-add-mod'}
use Rattle.std.proofs.lemmas.Bool.{cases_lt, lt-ltb, le-ltb, le-leb, lt-leb}
use Rattle.derived_types.specs.Layouts.{highest_of, extent_of, places}
use Rattle.layouts.specs.Buffers.{room_for}
use Rattle.derived_types.proofs.LayoutLaws.{Reaches-copies, copies_at-none, copies_at-nil}

pub room_for-is : (xs : List ℕ) → 0 < length xs → room_for xs ≡ highest_of xs + 1
room_for-is [] h = absurd (omega arith)
room_for-is (x ∷ xs) h = refl

-- the room that so many copies need, as counted with a ceiling
pub room_is : (copies len : ℕ) (xs : List ℕ) → 0 < copies → 0 < length xs → len < 2 ^ 64
    → ltb len (room_for (places copies xs)) ≡
    leb len (min (min ((copies - 1) * extent_of xs) (2 ^ 64 - 1) + highest_of xs) (2 ^ 64 - 1))
room_is zero len xs c h s = absurd (omega arith)
room_is (suc k) len xs c h s =
    let r = Reaches-copies 0 k xs h in
    let some : 0 < length (places (suc k) xs) = omega (arith, r.some, r.entries_are) in
    let room = room_for-is (places (suc k) xs) some in
    let high = r.highest_is in
    let same : (suc k - 1) * extent_of xs ≡ (0 + k) * extent_of xs = ap (λ (n : ℕ). n * extent_of xs) (omega arith) in
    elim (cases_lt len ((0 + k) * extent_of xs + highest_of xs + 1)) [
      | inl lt ↦ lt-ltb len (room_for (places (suc k) xs)) (omega arith) ∙ sym (le-leb len _ (omega arith))
      | inr le ↦ le-ltb len (room_for (places (suc k) xs)) (omega arith) ∙ sym (lt-leb len _ (omega arith))
    ]

pub room_is-none : (len : ℕ) (xs : List ℕ) → ltb len (room_for (places 0 xs)) ≡ false
room_is-none len xs = ap (λ (t : List ℕ). ltb len (room_for t)) (copies_at-none 0 xs) ∙ le-ltb len 0 (omega arith)

pub room_is-nil : (len copies : ℕ) (xs : List ℕ) → length xs ≡ 0 → ltb len (room_for (places copies xs)) ≡ false
room_is-nil len copies [] h = ap (λ (t : List ℕ). ltb len (room_for t)) (copies_at-nil 0 copies) ∙
    le-ltb len 0 (omega arith)
room_is-nil len copies (x ∷ xs) h = absurd (omega arith)

-- a whole number of copies, and none
pub count_whole : (n m : ℕ) → n % m ≡ 0 → n ≡ n / m * m
count_whole n m h = let d = div-add-mod' n m in omega arith

pub count_none : (n m : ℕ) → 0 < m → (n % m ≡ 0 → ⊥) → (k : ℕ) → n ≡ k * m → ⊥
count_none n m p h k e =
    let q : n / m ≡ k = ap (λ (x : ℕ). x / m) e ∙ mul-div_cancel k p in
    let t : n / m * m ≡ k * m = ap (λ (x : ℕ). x * m) q in
    let d = div-add-mod' n m in
    h (omega arith)
