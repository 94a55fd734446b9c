-- Rows of two runs that don't share a byte.
use Rattle.std.proofs.Common.{ℕ, ◌+◌, ◌<◌, ◌≤◌, ◌⊎◌, inl, inr, arith}
use Rattle.std.proofs.Math.Nat.{mul-le-mul_left}
use Rattle.std.proofs.lemmas.Bool.{cases_lt}
use Rattle.shared_bytes.specs.declared.runs.ByteRun.{ByteRun}
use Rattle.shared_bytes.specs.Memory.{IsIn, IsInPiece, Meet, piece_at}

-- a row begins at the one before it or behind it
pub rises : (r : ByteRun) (k n : ℕ) → k ≤ n → piece_at r k ≤ piece_at r n
rises r k n le = let h = mul-le-mul_left r.stride le in omega (arith, h)

-- no row before one of these, of either run, shares a byte with a row of the other run
pub record NoneBefore (r s : ByteRun) (i j : ℕ) : Type 0 where
  pub no_byte : (a k l : ℕ) → IsInPiece a r k → IsInPiece a s l → (k < i) ⊎ (l < j) → ⊥

pub none_yet : (r s : ByteRun) → NoneBefore r s 0 0
none_yet r s = record { no_byte = λ a k l p q h. elim h [ inl x ↦ omega arith | inr x ↦ omega arith ] }

-- where a row ends before another one begins, no row up to that one shares a byte with one from the other on
apart_on : (r s : ByteRun) (i j a k l : ℕ) → piece_at r i + r.length ≤ piece_at s j → k ≤ i → j ≤ l →
    IsInPiece a r k → IsInPiece a s l → ⊥
apart_on r s i j a k l apart below above p q =
    let low : piece_at r k ≤ piece_at r i = rises r k i below in
    let high : piece_at s j ≤ piece_at s l = rises s j l above in
    omega (arith, p.before, q.from)

-- a row that ends before one of the other run begins is before all behind that one
pub first_passed : (r s : ByteRun) (i j : ℕ) → piece_at r i + r.length ≤ piece_at s j → NoneBefore r s i j →
    NoneBefore r s (i + 1) j
first_passed r s i j apart before = record { no_byte = λ a k l p q h. passed a k l p q h (cases_lt l j) }
  where
    passed : (a k l : ℕ) → IsInPiece a r k → IsInPiece a s l → (k < i + 1) ⊎ (l < j) → (l < j) ⊎ (j ≤ l) → ⊥
    passed a k l p q h (inl less) = before.no_byte a k l p q (inr less)
    passed a k l p q (inr less) (inr above) = before.no_byte a k l p q (inr less)
    passed a k l p q (inl less) (inr above) =
        let below : k ≤ i = omega arith in apart_on r s i j a k l apart below above p q

pub second_passed : (r s : ByteRun) (i j : ℕ) → piece_at s j + s.length ≤ piece_at r i → NoneBefore r s i j →
    NoneBefore r s i (j + 1)
second_passed r s i j apart before = record { no_byte = λ a k l p q h. passed a k l p q h (cases_lt k i) }
  where
    passed : (a k l : ℕ) → IsInPiece a r k → IsInPiece a s l → (k < i) ⊎ (l < j + 1) → (k < i) ⊎ (i ≤ k) → ⊥
    passed a k l p q h (inl less) = before.no_byte a k l p q (inl less)
    passed a k l p q (inl less) (inr above) = before.no_byte a k l p q (inl less)
    passed a k l p q (inr less) (inr above) =
        let below : l ≤ j = omega arith in apart_on s r j i a l k apart below above q p

-- all rows of one were passed
pub none_at_all : (r s : ByteRun) (i j : ℕ) → (r.count ≤ i) ⊎ (s.count ≤ j) → NoneBefore r s i j → Meet r s → ⊥
none_at_all r s i j (inl all) before m =
    let less : m.in_one.piece < i = omega (arith, m.in_one.is_in.there) in
    before.no_byte m.address m.in_one.piece m.in_other.piece m.in_one.is_in m.in_other.is_in (inl less)
none_at_all r s i j (inr all) before m =
    let less : m.in_other.piece < j = omega (arith, m.in_other.is_in.there) in
    before.no_byte m.address m.in_one.piece m.in_other.piece m.in_one.is_in m.in_other.is_in (inr less)

-- all bytes of one run are before the other one begins
pub apart_at_all : (r s : ByteRun) → ((a : ℕ) → IsIn a r → a < s.at) → Meet r s → ⊥
apart_at_all r s before m =
    let low : m.address < s.at = before m.address m.in_one in omega (arith, m.in_other.is_in.from)

pub swapped : (r s : ByteRun) → Meet r s → Meet s r
swapped r s m = record { address = m.address; in_one = m.in_other; in_other = m.in_one }
