-- Each operation is associative, over any width, and its results are elements.
use Rattle.std.proofs.Common.{◌≡◌, ℕ, zero, suc, ◌+◌, ◌*◌, ◌/◌, ◌%◌, ◌^◌, ◌<◌, Bool, true, false, cond, ltb, eqb, refl}
use Rattle.std.proofs.Common.{sym, ap, ◌∙◌, arith, inl, inr}
use Rattle.std.specs.Prelude.{bit_or, bit_xor}
use Rattle.std.proofs.Math.Nat.{add-mod, add_assoc, mul_assoc, mod-lt, mod-mod}
use Rattle.std.proofs.lemmas.Bool.{cases_lt, lt-ltb, le-ltb}
use Rattle.std.proofs.lemmas.Nat.{mul-mod_first, mul-mod_second, and_assoc, or_shr, or_mod, div-mul-add, mod-mul-add}
use Rattle.std.proofs.lemmas.Nat.{or_lt, xor_lt, and_le_l}
use lib.Bits.{xor_assoc}
use lib.Arith.{bin_ind}
use lib.Ieee.Bits.{to_bits-lt}
use lib.Ieee.Fits.{add-fits, mul-fits}
use Rattle.std.specs.Float.Ieee.{binary32, binary64, add, mul}
use Rattle.std.proofs.Common.{from_bits}
use Rattle.vocabulary.specs.declared.basic_type.BasicType.{BasicType}
use Rattle.vocabulary.specs.declared.basic_type.BasicType.TheVariants.{Int8, Int16, Int32, Int64, Uint8, Uint16, Uint32}
use Rattle.vocabulary.specs.declared.basic_type.BasicType.TheVariants.{Uint64, Byte, Float32, Float64}
use Rattle.vocabulary.specs.declared.operation.Operation.{Operation}
use Rattle.vocabulary.specs.declared.operation.Operation.TheVariants.{Max, Min, Sum, Prod, Land, Lor, Lxor, Band, Bor, Bxor}
use Rattle.vocabulary.specs.declared.operation.Operation.TheVariants.{Affine}
use Rattle.datatypes.specs.Elements.{numbers_of}
use Rattle.reductions.specs.Operations.{combined, greater_by, is_associative, is_defined, lesser_by, map_after}
use Rattle.reductions.specs.Operations.{order_above, order_below}

-- ---- the greater and the lesser

-- of three, the greater of the first two and the third is the greater of the first and of the last two
greater_associates : (order : ℕ → ℕ) (a b c : ℕ) → greater_by order (greater_by order a b) c ≡
    greater_by order a (greater_by order b c)
greater_associates order a b c =
    elim (cases_lt (order a) (order b)) [
      | inl h ↦ elim (cases_lt (order b) (order c)) [
        | inl k ↦
            let p = lt-ltb (order a) (order b) h in
            let q = lt-ltb (order b) (order c) k in
            let r = lt-ltb (order a) (order c) (omega arith) in
            rw (p, q, r) refl
        | inr k ↦
            let p = lt-ltb (order a) (order b) h in
            let q = le-ltb (order b) (order c) k in
            rw (p, q, p) refl
      ]
      | inr h ↦ elim (cases_lt (order b) (order c)) [
        | inl k ↦
            let p = le-ltb (order a) (order b) h in
            let q = lt-ltb (order b) (order c) k in
            rw (p, q) refl
        | inr k ↦
            let p = le-ltb (order a) (order b) h in
            let q = le-ltb (order b) (order c) k in
            let r = le-ltb (order a) (order c) (omega arith) in
            rw (p, q, r, p) refl
      ]
    ]

-- and so is the lesser
lesser_associates : (order : ℕ → ℕ) (a b c : ℕ) → lesser_by order (lesser_by order a b) c ≡
    lesser_by order a (lesser_by order b c)
lesser_associates order a b c =
    elim (cases_lt (order b) (order a)) [
      | inl h ↦ elim (cases_lt (order c) (order b)) [
        | inl k ↦
            let p = lt-ltb (order b) (order a) h in
            let q = lt-ltb (order c) (order b) k in
            let r = lt-ltb (order c) (order a) (omega arith) in
            rw (p, q, r) refl
        | inr k ↦
            let p = lt-ltb (order b) (order a) h in
            let q = le-ltb (order c) (order b) k in
            rw (p, q, p) refl
      ]
      | inr h ↦ elim (cases_lt (order c) (order b)) [
        | inl k ↦
            let p = le-ltb (order b) (order a) h in
            let q = lt-ltb (order c) (order b) k in
            rw (p, q) refl
        | inr k ↦
            let p = le-ltb (order b) (order a) h in
            let q = le-ltb (order c) (order b) k in
            let r = le-ltb (order c) (order a) (omega arith) in
            rw (p, q, r, p) refl
      ]
    ]

-- ---- sums and products

-- sums modulo n are associative
sum_associates : (n a b c : ℕ) → ((a + b) % n + c) % n ≡ (a + (b + c) % n) % n
sum_associates n a b c =
    add-mod ((a + b) % n) c n
    ∙ ap (λ (x : ℕ). (x + c % n) % n) (mod-mod (a + b) n)
    ∙ sym (add-mod (a + b) c n)
    ∙ ap (λ (x : ℕ). x % n) (add_assoc a b c)
    ∙ add-mod a (b + c) n
    ∙ ap (λ (x : ℕ). (a % n + x) % n) (sym (mod-mod (b + c) n))
    ∙ sym (add-mod a ((b + c) % n) n)

-- products modulo n are associative
product_associates : (n a b c : ℕ) → (a * b % n * c) % n ≡ (a * (b * c % n)) % n
product_associates n a b c =
    mul-mod_first (a * b) c n ∙ ap (λ (x : ℕ). x % n) (mul_assoc a b c) ∙ sym (mul-mod_second a (b * c) n)

-- ---- true and false

-- `and` is associative; a, b and c say whether each number is 0, which is false
and_associates : (a b c : Bool)
    → ◌≡◌ {A = ℕ} (cond (eqb (cond a 0 (cond b 0 1)) 0) 0 (cond c 0 1))
    (cond a 0 (cond (eqb (cond b 0 (cond c 0 1)) 0) 0 1))
and_associates true b c = refl
and_associates false true c = refl
and_associates false false true = refl
and_associates false false false = refl

-- and so is `or`
or_associates : (a b c : Bool)
    → ◌≡◌ {A = ℕ} (cond (eqb (cond a (cond b 0 1) 1) 0) (cond c 0 1) 1)
    (cond a (cond (eqb (cond b (cond c 0 1) 1) 0) 0 1) 1)
or_associates true true true = refl
or_associates true true false = refl
or_associates true false c = refl
or_associates false b c = refl

-- and so is exclusive `or`
xor_associates : (a b c : Bool)
    → ◌≡◌ {A = ℕ} (cond (eqb (cond a (cond b 0 1) (cond b 1 0)) 0) (cond c 0 1) (cond c 1 0))
    (cond a (cond (eqb (cond b (cond c 0 1) (cond c 1 0)) 0) 0 1) (cond (eqb (cond b (cond c 0 1) (cond c 1 0)) 0) 1 0))
xor_associates true true true = refl
xor_associates true true false = refl
xor_associates true false true = refl
xor_associates true false false = refl
xor_associates false true true = refl
xor_associates false true false = refl
xor_associates false false true = refl
xor_associates false false false = refl

-- ---- bit by bit

-- numbers with the same last binary digit, and the same in front of it, are the same
by_digits : (a b : ℕ) → a / 2 ≡ b / 2 → a % 2 ≡ b % 2 → a ≡ b
by_digits a b hi lo = omega arith

-- no binary digit is 2 or more
not_digit : {A : Type 0} (x : ℕ) → suc (suc x) < 2 → A
not_digit x h = absurd (omega arith)

-- `or` of single binary digits is associative
digit_or : (x y z : ℕ) → x < 2 → y < 2 → z < 2 → bit_or (bit_or x y) z ≡ bit_or x (bit_or y z)
digit_or zero y z hx hy hz = refl
digit_or (suc zero) zero z hx hy hz = refl
digit_or (suc zero) (suc zero) zero hx hy hz = refl
digit_or (suc zero) (suc zero) (suc zero) hx hy hz = refl
digit_or (suc zero) (suc zero) (suc (suc z)) hx hy hz = not_digit z hz
digit_or (suc zero) (suc (suc y)) z hx hy hz = not_digit y hy
digit_or (suc (suc x)) y z hx hy hz = not_digit x hx

-- `or` of numbers is associative, since it is so of their binary digits, the lowest first
or_assoc : (a b c : ℕ) → bit_or (bit_or a b) c ≡ bit_or a (bit_or b c)
or_assoc =
    bin_ind (λ (n : ℕ). (b c : ℕ) → bit_or (bit_or n b) c ≡ bit_or n (bit_or b c)) (λ b c. refl)
    (λ n ih b c. by_digits (bit_or (bit_or n b) c) (bit_or n (bit_or b c))
    (or_shr (bit_or n b) c 1 ∙ ap (λ (x : ℕ). bit_or x (c / 2)) (or_shr n b 1) ∙ ih (b / 2) (c / 2)
    ∙ sym (or_shr n (bit_or b c) 1 ∙ ap (bit_or (n / 2)) (or_shr b c 1)))
    (or_mod (bit_or n b) c 1 ∙ ap (λ (x : ℕ). bit_or x (c % 2)) (or_mod n b 1)
    ∙ digit_or (n % 2) (b % 2) (c % 2) (mod-lt n (omega arith)) (mod-lt b (omega arith)) (mod-lt c (omega arith))
    ∙ sym (or_mod n (bit_or b c) 1 ∙ ap (bit_or (n % 2)) (or_mod b c 1))))

-- ---- maps

-- the high half of one map after another is the product of their high halves, modulo 2^32
high_of : (first second : ℕ) → map_after first second / 2 ^ 32 ≡ first / 2 ^ 32 * (second / 2 ^ 32) % 2 ^ 32
high_of first second =
    div-mul-add (first / 2 ^ 32 * (second / 2 ^ 32) % 2 ^ 32) (2 ^ 32)
    ((second / 2 ^ 32 * (first % 2 ^ 32) + second % 2 ^ 32) % 2 ^ 32)
    (mod-lt (second / 2 ^ 32 * (first % 2 ^ 32) + second % 2 ^ 32) (omega arith))

-- the low half is what the second map makes of the first one's constant
low_of : (first second : ℕ) → map_after first second % 2 ^ 32 ≡
    (second / 2 ^ 32 * (first % 2 ^ 32) + second % 2 ^ 32) % 2 ^ 32
low_of first second =
    mod-mul-add (first / 2 ^ 32 * (second / 2 ^ 32) % 2 ^ 32) (2 ^ 32)
    ((second / 2 ^ 32 * (first % 2 ^ 32) + second % 2 ^ 32) % 2 ^ 32)
    (mod-lt (second / 2 ^ 32 * (first % 2 ^ 32) + second % 2 ^ 32) (omega arith))

-- the constant of three maps
low_associates : (n x hy y hz z : ℕ) → (hz * ((hy * x + y) % n) + z) % n ≡ (hy * hz % n * x + (hz * y + z) % n) % n
low_associates n x hy y hz z =
    let left : (hz * ((hy * x + y) % n) + z) % n ≡ (hz * (hy * x + y) + z) % n =
    add-mod (hz * ((hy * x + y) % n)) z n ∙ ap (λ (k : ℕ). (k + z % n) % n) (mul-mod_second hz (hy * x + y) n) ∙
    sym (add-mod (hz * (hy * x + y)) z n)
    in
    let right : (hy * hz % n * x + (hz * y + z) % n) % n ≡ (hy * hz * x + (hz * y + z)) % n =
    add-mod (hy * hz % n * x) ((hz * y + z) % n) n
    ∙ ap (λ (k : ℕ). (k + (hz * y + z) % n % n) % n) (mul-mod_first (hy * hz) x n)
    ∙ ap (λ (k : ℕ). (hy * hz * x % n + k) % n) (mod-mod (hz * y + z) n)
    ∙ sym (add-mod (hy * hz * x) (hz * y + z) n)
    in
    let same : hz * (hy * x + y) + z ≡ hy * hz * x + (hz * y + z) = omega arith in
    left ∙ ap (λ (k : ℕ). k % n) same ∙ sym right

-- maps, one after the other, are associative
maps_associate : (a b c : ℕ) → map_after (map_after a b) c ≡ map_after a (map_after b c)
maps_associate a b c =
    let n : ℕ = 2 ^ 32 in
    let high : map_after a b / 2 ^ 32 * (c / 2 ^ 32) % 2 ^ 32 ≡ a / 2 ^ 32 * (map_after b c / 2 ^ 32) % 2 ^ 32 =
    ap (λ (k : ℕ). k * (c / 2 ^ 32) % 2 ^ 32) (high_of a b)
    ∙ product_associates (2 ^ 32) (a / 2 ^ 32) (b / 2 ^ 32) (c / 2 ^ 32)
    ∙ ap (λ (k : ℕ). a / 2 ^ 32 * k % 2 ^ 32) (sym (high_of b c))
    in
    let low : (c / 2 ^ 32 * (map_after a b % 2 ^ 32) + c % 2 ^ 32) % 2 ^ 32 ≡ (map_after b c / 2 ^ 32 * (a % 2 ^ 32) + map_after b c % 2 ^ 32) % 2 ^ 32 =
    ap (λ (k : ℕ). (c / 2 ^ 32 * k + c % 2 ^ 32) % 2 ^ 32) (low_of a b)
    ∙ low_associates (2 ^ 32) (a % 2 ^ 32) (b / 2 ^ 32) (b % 2 ^ 32) (c / 2 ^ 32) (c % 2 ^ 32)
    ∙ ap (λ (k : ℕ). (k * (a % 2 ^ 32) + (c / 2 ^ 32 * (b % 2 ^ 32) + c % 2 ^ 32) % 2 ^ 32) % 2 ^ 32)
    (sym (high_of b c))
    ∙ ap (λ (k : ℕ). (map_after b c / 2 ^ 32 * (a % 2 ^ 32) + k) % 2 ^ 32) (sym (low_of b c))
    in
    ap (λ (k : ℕ). k * 2 ^ 32 + (c / 2 ^ 32 * (map_after a b % 2 ^ 32) + c % 2 ^ 32) % 2 ^ 32) high
    ∙ ap (λ (k : ℕ). a / 2 ^ 32 * (map_after b c / 2 ^ 32) % 2 ^ 32 * 2 ^ 32 + k) low

-- ---- all of them

sums_associate : (basic : BasicType) (a b c : ℕ) → is_associative Sum basic ≡ true →
    combined Sum basic (combined Sum basic a b) c ≡ combined Sum basic a (combined Sum basic b c)
unfolding combined
sums_associate Int8 a b c h = sum_associates (numbers_of Int8) a b c
sums_associate Int16 a b c h = sum_associates (numbers_of Int16) a b c
sums_associate Int32 a b c h = sum_associates (numbers_of Int32) a b c
sums_associate Int64 a b c h = sum_associates (numbers_of Int64) a b c
sums_associate Uint8 a b c h = sum_associates (numbers_of Uint8) a b c
sums_associate Uint16 a b c h = sum_associates (numbers_of Uint16) a b c
sums_associate Uint32 a b c h = sum_associates (numbers_of Uint32) a b c
sums_associate Uint64 a b c h = sum_associates (numbers_of Uint64) a b c
sums_associate Byte a b c h = sum_associates (numbers_of Byte) a b c
sums_associate Float32 a b c h = absurd cc
sums_associate Float64 a b c h = absurd cc

products_associate : (basic : BasicType) (a b c : ℕ) → is_associative Prod basic ≡ true →
    combined Prod basic (combined Prod basic a b) c ≡ combined Prod basic a (combined Prod basic b c)
unfolding combined
products_associate Int8 a b c h = product_associates (numbers_of Int8) a b c
products_associate Int16 a b c h = product_associates (numbers_of Int16) a b c
products_associate Int32 a b c h = product_associates (numbers_of Int32) a b c
products_associate Int64 a b c h = product_associates (numbers_of Int64) a b c
products_associate Uint8 a b c h = product_associates (numbers_of Uint8) a b c
products_associate Uint16 a b c h = product_associates (numbers_of Uint16) a b c
products_associate Uint32 a b c h = product_associates (numbers_of Uint32) a b c
products_associate Uint64 a b c h = product_associates (numbers_of Uint64) a b c
products_associate Byte a b c h = product_associates (numbers_of Byte) a b c
products_associate Float32 a b c h = absurd cc
products_associate Float64 a b c h = absurd cc

-- each operation is associative on the numbers of each type, but for the sum and the product of floats (MPI 3.1, 5.9.1)
pub combined-associates : (op : Operation) (basic : BasicType) (a b c : ℕ) → is_associative op basic ≡ true →
    combined op basic (combined op basic a b) c ≡ combined op basic a (combined op basic b c)
unfolding combined
combined-associates Max basic a b c h = greater_associates (order_above basic) a b c
combined-associates Min basic a b c h = lesser_associates (order_below basic) a b c
combined-associates Sum basic a b c h = sums_associate basic a b c h
combined-associates Prod basic a b c h = products_associate basic a b c h
combined-associates Land basic a b c h = and_associates (eqb a 0) (eqb b 0) (eqb c 0)
combined-associates Lor basic a b c h = or_associates (eqb a 0) (eqb b 0) (eqb c 0)
combined-associates Lxor basic a b c h = xor_associates (eqb a 0) (eqb b 0) (eqb c 0)
combined-associates Band basic a b c h = and_assoc c a b
combined-associates Bor basic a b c h = or_assoc a b c
combined-associates Bxor basic a b c h = xor_assoc a b c
combined-associates Affine basic a b c h = maps_associate a b c

-- ---- the results are elements

-- a number and its lowest eight bytes have the same lowest bytes of each type
pub mod_mod : (basic : BasicType) (x : ℕ) → x % 2 ^ 64 % numbers_of basic ≡ x % numbers_of basic
mod_mod Int8 x = omega arith
mod_mod Int16 x = omega arith
mod_mod Int32 x = omega arith
mod_mod Int64 x = mod-mod x (2 ^ 64)
mod_mod Uint8 x = omega arith
mod_mod Uint16 x = omega arith
mod_mod Uint32 x = omega arith
mod_mod Uint64 x = mod-mod x (2 ^ 64)
mod_mod Byte x = omega arith
mod_mod Float32 x = omega arith
mod_mod Float64 x = mod-mod x (2 ^ 64)

-- each type has more than 255 numbers
many : (basic : BasicType) → 255 < numbers_of basic
many Int8 = omega arith
many Int16 = omega arith
many Int32 = omega arith
many Int64 = omega arith
many Uint8 = omega arith
many Uint16 = omega arith
many Uint32 = omega arith
many Uint64 = omega arith
many Byte = omega arith
many Float32 = omega arith
many Float64 = omega arith

-- `or` of two elements is an element
or_within : (basic : BasicType) (a b : ℕ) → a < numbers_of basic → b < numbers_of basic → bit_or a b < numbers_of basic
or_within Int8 a b p q = or_lt 8 a b p q
or_within Int16 a b p q = or_lt 16 a b p q
or_within Int32 a b p q = or_lt 32 a b p q
or_within Int64 a b p q = or_lt 64 a b p q
or_within Uint8 a b p q = or_lt 8 a b p q
or_within Uint16 a b p q = or_lt 16 a b p q
or_within Uint32 a b p q = or_lt 32 a b p q
or_within Uint64 a b p q = or_lt 64 a b p q
or_within Byte a b p q = or_lt 8 a b p q
or_within Float32 a b p q = or_lt 32 a b p q
or_within Float64 a b p q = or_lt 64 a b p q

-- exclusive `or` of two elements is an element
xor_within : (basic : BasicType) (a b : ℕ) → a < numbers_of basic → b < numbers_of basic →
    bit_xor a b < numbers_of basic
xor_within Int8 a b p q = xor_lt 8 a b p q
xor_within Int16 a b p q = xor_lt 16 a b p q
xor_within Int32 a b p q = xor_lt 32 a b p q
xor_within Int64 a b p q = xor_lt 64 a b p q
xor_within Uint8 a b p q = xor_lt 8 a b p q
xor_within Uint16 a b p q = xor_lt 16 a b p q
xor_within Uint32 a b p q = xor_lt 32 a b p q
xor_within Uint64 a b p q = xor_lt 64 a b p q
xor_within Byte a b p q = xor_lt 8 a b p q
xor_within Float32 a b p q = xor_lt 32 a b p q
xor_within Float64 a b p q = xor_lt 64 a b p q

-- one of two numbers below n is below n
either : (t : Bool) (a b n : ℕ) → a < n → b < n → cond t b a < n
either true a b n p q = q
either false a b n p q = p

-- one of four numbers below n is below n
bits_within : (t u : Bool) (v w x y n : ℕ) → v < n → w < n → x < n → y < n → cond t (cond u v w) (cond u x y) < n
bits_within true true v w x y n p q r s = p
bits_within true false v w x y n p q r s = q
bits_within false true v w x y n p q r s = r
bits_within false false v w x y n p q r s = s

-- the high half of one map after another is below 2^32
high_small : (a b : ℕ) → a / 2 ^ 32 * (b / 2 ^ 32) % 2 ^ 32 < 2 ^ 32
high_small a b = mod-lt (a / 2 ^ 32 * (b / 2 ^ 32)) (omega arith)

-- and so is the low half
low_small : (a b : ℕ) → (b / 2 ^ 32 * (a % 2 ^ 32) + b % 2 ^ 32) % 2 ^ 32 < 2 ^ 32
low_small a b = mod-lt (b / 2 ^ 32 * (a % 2 ^ 32) + b % 2 ^ 32) (omega arith)

-- one map after another is an element of the type on which maps are defined
maps_within : (basic : BasicType) (a b : ℕ) → is_defined Affine basic ≡ true → map_after a b < numbers_of basic
maps_within Uint64 a b d =
    let h = high_small a b in
    let l = low_small a b in
    omega arith
maps_within Int8 a b d = absurd cc
maps_within Int16 a b d = absurd cc
maps_within Int32 a b d = absurd cc
maps_within Int64 a b d = absurd cc
maps_within Uint8 a b d = absurd cc
maps_within Uint16 a b d = absurd cc
maps_within Uint32 a b d = absurd cc
maps_within Byte a b d = absurd cc
maps_within Float32 a b d = absurd cc
maps_within Float64 a b d = absurd cc

-- what an operation makes of two elements, where it is defined, is an element of the same type
pub combined-within : (op : Operation) (basic : BasicType) (a b : ℕ) → is_defined op basic ≡ true →
    a < numbers_of basic → b < numbers_of basic → combined op basic a b < numbers_of basic
unfolding combined
combined-within Max basic a b d p q =
    either (ltb (order_above basic a) (order_above basic b)) a b (numbers_of basic) p q
combined-within Min basic a b d p q =
    either (ltb (order_below basic b) (order_below basic a)) a b (numbers_of basic) p q
combined-within Sum Int8 a b d p q = mod-lt (a + b) (omega arith)
combined-within Sum Int16 a b d p q = mod-lt (a + b) (omega arith)
combined-within Sum Int32 a b d p q = mod-lt (a + b) (omega arith)
combined-within Sum Int64 a b d p q = mod-lt (a + b) (omega arith)
combined-within Sum Uint8 a b d p q = mod-lt (a + b) (omega arith)
combined-within Sum Uint16 a b d p q = mod-lt (a + b) (omega arith)
combined-within Sum Uint32 a b d p q = mod-lt (a + b) (omega arith)
combined-within Sum Uint64 a b d p q = mod-lt (a + b) (omega arith)
combined-within Sum Byte a b d p q = mod-lt (a + b) (omega arith)
combined-within Sum Float32 a b d p q =
    to_bits-lt binary32 (add binary32 (from_bits binary32 a) (from_bits binary32 b))
    (add-fits binary32 (from_bits binary32 a) (from_bits binary32 b))
combined-within Sum Float64 a b d p q =
    to_bits-lt binary64 (add binary64 (from_bits binary64 a) (from_bits binary64 b))
    (add-fits binary64 (from_bits binary64 a) (from_bits binary64 b))
combined-within Prod Int8 a b d p q = mod-lt (a * b) (omega arith)
combined-within Prod Int16 a b d p q = mod-lt (a * b) (omega arith)
combined-within Prod Int32 a b d p q = mod-lt (a * b) (omega arith)
combined-within Prod Int64 a b d p q = mod-lt (a * b) (omega arith)
combined-within Prod Uint8 a b d p q = mod-lt (a * b) (omega arith)
combined-within Prod Uint16 a b d p q = mod-lt (a * b) (omega arith)
combined-within Prod Uint32 a b d p q = mod-lt (a * b) (omega arith)
combined-within Prod Uint64 a b d p q = mod-lt (a * b) (omega arith)
combined-within Prod Byte a b d p q = mod-lt (a * b) (omega arith)
combined-within Prod Float32 a b d p q =
    to_bits-lt binary32 (mul binary32 (from_bits binary32 a) (from_bits binary32 b))
    (mul-fits binary32 (from_bits binary32 a) (from_bits binary32 b))
combined-within Prod Float64 a b d p q =
    to_bits-lt binary64 (mul binary64 (from_bits binary64 a) (from_bits binary64 b))
    (mul-fits binary64 (from_bits binary64 a) (from_bits binary64 b))
combined-within Land basic a b d p q =
    let m = many basic in
    either (eqb a 0) (cond (eqb b 0) 0 1) 0 (numbers_of basic)
    (either (eqb b 0) 1 0 (numbers_of basic) (omega arith) (omega arith)) (omega arith)
combined-within Lor basic a b d p q =
    let m = many basic in
    either (eqb a 0) 1 (cond (eqb b 0) 0 1) (numbers_of basic) (omega arith)
    (either (eqb b 0) 1 0 (numbers_of basic) (omega arith) (omega arith))
combined-within Lxor basic a b d p q =
    let m = many basic in
    bits_within (eqb a 0) (eqb b 0) 0 1 1 0 (numbers_of basic) (omega arith) (omega arith) (omega arith) (omega arith)
combined-within Band basic a b d p q = omega (arith, and_le_l a b)
combined-within Bor basic a b d p q = or_within basic a b p q
combined-within Bxor basic a b d p q = xor_within basic a b p q
combined-within Affine basic a b d p q = maps_within basic a b d
