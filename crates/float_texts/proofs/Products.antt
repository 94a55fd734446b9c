-- Multiplication, digit by digit, from the lowest on.
use Rattle.std.proofs.Common.{◌≡◌, ℕ, zero, suc, ◌+◌, ◌-◌, ◌*◌, ◌/◌, ◌%◌, ◌^◌, ◌<◌, ◌≤◌, List, [], ◌∷◌, ◌++◌, length}
use Rattle.std.proofs.Common.{get_or, take, drop, set, replicate, refl, sym, ◌∙◌, ap, arith, add-one, append_assoc}
use Rattle.std.proofs.Common.{append-nil, drop-cons, length-set, drop-set-lt, mul_assoc, take_all, le_refl, mul-le-mul_right}
use Rattle.std.proofs.lemmas.List.{length-replicate, take_more_set}
use Rattle.std.proofs.Math.Nat.{pow-suc, pow-zero}
use Rattle.std.proofs.lemmas.Nat.{pow-add}
use Rattle.float_texts.specs.Digits.{AreDigitsOf, low_digits}

-- The digits before a place are those of the product already; from there on stand those of the rest of the number, and
-- the product's rest is so many times it and what is carried.
pub record AreDoneTo (product factor place carry : ℕ) (digits : List ℕ) : Type 0 where
  pub rest : ℕ
  pub stands : drop place digits ≡ low_digits (length digits - place) rest
  pub makes :
      low_digits (length digits) product ≡
      take place digits ++ low_digits (length digits - place) (rest * factor + carry)

-- the first of some digits, and the others
first_of : (count rest : ℕ) → 0 < count → low_digits count rest ≡ rest % 10 ∷ low_digits (count - 1) (rest / 10)
first_of zero rest some = absurd (no_less some)
  where
    no_less : 0 < 0 → ⊥
    no_less h = omega arith
first_of (suc count) rest some = ap (λ n. rest % 10 ∷ low_digits n (rest / 10)) (one_less count)
  where
    one_less : (n : ℕ) → n ≡ suc n - 1
    one_less n = omega arith

head_is : {a b : ℕ} {xs ys : List ℕ} → a ∷ xs ≡ b ∷ ys → a ≡ b
head_is e = ap (λ (zs : List ℕ). get_or zs 0 0) e

tail_is : {a b : ℕ} {xs ys : List ℕ} → a ∷ xs ≡ b ∷ ys → xs ≡ ys
tail_is e = ap (λ (zs : List ℕ). drop 1 zs) e

tens_and_one : (rest : ℕ) → rest ≡ 10 * (rest / 10) + rest % 10
tens_and_one rest = omega arith

digit_at : (tens factor carry digit : ℕ) →
    ((10 * tens + digit) * factor + carry) % 10 ≡ (digit * factor + carry) % 10
digit_at tens factor carry digit = omega arith

carry_at : (tens factor carry digit : ℕ) →
    ((10 * tens + digit) * factor + carry) / 10 ≡ tens * factor + (digit * factor + carry) / 10
carry_at tens factor carry digit = omega arith

-- a digit of the product is that of the digit's own product and what is carried
digit_is : (rest factor carry digit : ℕ) →
    digit ≡ rest % 10 → (rest * factor + carry) % 10 ≡ (digit * factor + carry) % 10
digit_is rest factor carry digit is =
    let whole : rest ≡ 10 * (rest / 10) + digit = tens_and_one rest ∙ ap (λ (n : ℕ). 10 * (rest / 10) + n) (sym is) in
    ap (λ (n : ℕ). (n * factor + carry) % 10) whole ∙ digit_at (rest / 10) factor carry digit

carry_is : (rest factor carry digit : ℕ) →
    digit ≡ rest % 10 → (rest * factor + carry) / 10 ≡ rest / 10 * factor + (digit * factor + carry) / 10
carry_is rest factor carry digit is =
    let whole : rest ≡ 10 * (rest / 10) + digit = tens_and_one rest ∙ ap (λ (n : ℕ). 10 * (rest / 10) + n) (sym is) in
    ap (λ (n : ℕ). (n * factor + carry) / 10) whole ∙ carry_at (rest / 10) factor carry digit

some_left : (n place : ℕ) → place < n → 0 < n - place
some_left n place within = omega arith

one_less : (n place : ℕ) → n - place - 1 ≡ n - (place + 1)
one_less n place = omega arith

next_place : (place : ℕ) → place < place + 1
next_place place = omega arith

-- one place further
pub one_more : (product factor place carry digit : ℕ) (digits : List ℕ) →
    place < length digits → digit ≡ get_or digits place 0 → AreDoneTo product factor place carry digits →
    AreDoneTo product factor (place + 1) ((digit * factor + carry) / 10)
    (set digits place ((digit * factor + carry) % 10))
one_more product factor place carry digit digits within is done =
    let made : ℕ = (digit * factor + carry) % 10 in
    let carried : ℕ = (digit * factor + carry) / 10 in
    let count : ℕ = length digits - place in
    let some : 0 < count = some_left (length digits) place within in
    let parts : get_or digits place 0 ∷ drop (suc place) digits ≡ done.rest % 10 ∷ low_digits (count - 1) (done.rest / 10) =
    sym (drop-cons digits place 0 within) ∙ done.stands ∙ first_of count done.rest some in
    let last : digit ≡ done.rest % 10 = is ∙ head_is parts in
    let left : count - 1 ≡ length (set digits place made) - (place + 1) =
    one_less (length digits) place ∙ ap (λ (n : ℕ). n - (place + 1)) (sym (length-set digits place made)) in
    let first : (done.rest * factor + carry) % 10 ≡ made = digit_is done.rest factor carry digit last in
    let others : (done.rest * factor + carry) / 10 ≡ done.rest / 10 * factor + carried =
    carry_is done.rest factor carry digit last in
    record {
      rest = done.rest / 10;
      stands =
          drop-set-lt (place + 1) digits place made (next_place place)
          ∙ ap (λ (n : ℕ). drop n digits) (add-one place)
          ∙ tail_is parts
          ∙ ap (λ (n : ℕ). low_digits n (done.rest / 10)) left;
      makes =
          ap (λ (n : ℕ). low_digits n product) (length-set digits place made)
          ∙ done.makes
          ∙ ap (λ (xs : List ℕ). take place digits ++ xs)
          (first_of count (done.rest * factor + carry) some
          ∙ ap (λ (n : ℕ). n ∷ low_digits (count - 1) ((done.rest * factor + carry) / 10)) first
          ∙ ap (λ (n : ℕ). made ∷ low_digits (count - 1) n) others
          ∙ ap (λ (n : ℕ). made ∷ low_digits n (done.rest / 10 * factor + carried)) left)
          ∙ sym
          (append_assoc (take place digits) (made ∷ [])
          (low_digits (length (set digits place made) - (place + 1)) (done.rest / 10 * factor + carried)))
          ∙ ap
          (λ (xs : List ℕ). xs ++ low_digits (length (set digits place made) - (place + 1)) (done.rest / 10 * factor + carried))
          (sym (take_more_set digits place made within));
    }

no_place : (n : ℕ) → n ≡ n - 0
no_place n = omega arith

-- before the first digit
pub at_start : (number factor more : ℕ) (digits : List ℕ) →
    AreDigitsOf number digits → AreDoneTo (number * factor + more) factor 0 more digits
at_start number factor more digits are =
    record {
      rest = number;
      stands = are ∙ ap (λ (n : ℕ). low_digits n number) (no_place (length digits));
      makes = ap (λ (n : ℕ). low_digits n (number * factor + more)) (no_place (length digits));
    }

none_left : (n : ℕ) → n - n ≡ 0
none_left n = omega arith

-- behind the last digit
pub at_end : (product factor place carry : ℕ) (digits : List ℕ) →
    AreDoneTo product factor place carry digits → place ≡ length digits → AreDigitsOf product digits
at_end product factor place carry digits done is =
    let whole : take place digits ≡ digits =
    ap (λ (n : ℕ). take n digits) is ∙ take_all (length digits) digits (le_refl (length digits)) in
    let none : length digits - place ≡ 0 = ap (λ (n : ℕ). length digits - n) is ∙ none_left (length digits) in
    sym
    (done.makes
    ∙ ap (λ (n : ℕ). take place digits ++ low_digits n (done.rest * factor + carry)) none
    ∙ append-nil (take place digits)
    ∙ whole)

-- what is carried stays small
pub carry_small : (digit factor carry : ℕ) →
    digit < 256 → factor ≤ 2 ^ 40 → carry ≤ 2 ^ 60 → (digit * factor + carry) / 10 ≤ 2 ^ 60
carry_small digit factor carry byte few small =
    let most : digit * factor ≤ 255 * factor = mul-le-mul_right factor (le_less digit byte) in
    bound (digit * factor) factor carry most few small
  where
    le_less : (n : ℕ) → n < 256 → n ≤ 255
    le_less n h = omega arith

    bound : (p f c : ℕ) → p ≤ 255 * f → f ≤ 2 ^ 40 → c ≤ 2 ^ 60 → (p + c) / 10 ≤ 2 ^ 60
    bound p f c h k l = omega arith

-- zeros are the digits of 0
pub zeros_are : (count : ℕ) → replicate count 0 ≡ low_digits count 0
zeros_are zero = refl
zeros_are (suc count) = ap (λ (xs : List ℕ). 0 ∷ xs) (zeros_are count)

-- ---- powers, eight factors at a time

eight_more : (q : ℕ) → 8 * suc q ≡ 8 * q + 8
eight_more q = omega arith

power_of_eighth : (base q : ℕ) → (base ^ 8) ^ q ≡ base ^ (8 * q)
power_of_eighth base zero = pow-zero (base ^ 8) ∙ sym (pow-zero base)
power_of_eighth base (suc q) =
    pow-suc (base ^ 8) q
    ∙ ap (λ (n : ℕ). n * base ^ 8) (power_of_eighth base q)
    ∙ sym (pow-add base (8 * q) 8)
    ∙ ap (λ (n : ℕ). base ^ n) (sym (eight_more q))

eights : (k : ℕ) → 8 * (k / 8) + k % 8 ≡ k
eights k = omega arith

-- so many factors, eight at a time, and the rest
pub power_by_eights : (number base eighth k : ℕ) →
    eighth ≡ base ^ 8 → number * eighth ^ (k / 8) * base ^ (k % 8) ≡ number * base ^ k
power_by_eights number base eighth k is =
    mul_assoc number (eighth ^ (k / 8)) (base ^ (k % 8))
    ∙ ap (λ (n : ℕ). number * (n ^ (k / 8) * base ^ (k % 8))) is
    ∙ ap (λ (n : ℕ). number * (n * base ^ (k % 8))) (power_of_eighth base (k / 8))
    ∙ ap (λ (n : ℕ). number * n) (sym (pow-add base (8 * (k / 8)) (k % 8)))
    ∙ ap (λ (n : ℕ). number * base ^ n) (eights k)

-- so many factors, eight at a time, and the rest, in digits
pub digits_by_eights : (number base eighth k : ℕ) (digits : List ℕ) →
    eighth ≡ base ^ 8 → AreDigitsOf (number * eighth ^ (k / 8) * base ^ (k % 8)) digits →
    AreDigitsOf (number * base ^ k) digits
digits_by_eights number base eighth k digits is are =
    are ∙ ap (λ (n : ℕ). low_digits (length digits) n) (power_by_eights number base eighth k is)

sum_of_none : (n : ℕ) → n + 0 ≡ n
sum_of_none n = omega arith

power_more : (number factor times : ℕ) → number * factor ^ times * factor + 0 ≡ number * factor ^ (times + 1)
power_more number factor times =
    sum_of_none (number * factor ^ times * factor)
    ∙ mul_assoc number (factor ^ times) factor
    ∙ ap (λ (n : ℕ). number * n) (sym (pow-suc factor times))
    ∙ ap (λ (n : ℕ). number * factor ^ n) (sym (add-one times))

-- one factor more, in digits
pub digits_of_more : (number factor times : ℕ) (digits : List ℕ) →
    AreDigitsOf (number * factor ^ times * factor + 0) digits → AreDigitsOf (number * factor ^ (times + 1)) digits
digits_of_more number factor times digits are =
    are ∙ ap (λ (n : ℕ). low_digits (length digits) n) (power_more number factor times)

no_factor : (number factor : ℕ) → number ≡ number * factor ^ 0
no_factor number factor = sym (ap (λ (n : ℕ). number * n) (pow-zero factor) ∙ times_one number)
  where
    times_one : (n : ℕ) → n * 1 ≡ n
    times_one n = omega arith

-- no factor yet, in digits
pub digits_of_none : (number factor : ℕ) (digits : List ℕ) →
    AreDigitsOf number digits → AreDigitsOf (number * factor ^ 0) digits
digits_of_none number factor digits are =
    are ∙ ap (λ (n : ℕ). low_digits (length digits) n) (no_factor number factor)

-- a number that is put among zeros
pub digits_among_zeros : (number count : ℕ) (zeros digits : List ℕ) → zeros ≡ replicate count 0 →
    (AreDigitsOf 0 zeros → AreDigitsOf (0 * 0 + number) digits) → AreDigitsOf number digits
digits_among_zeros number count zeros digits is makes =
    makes
    (is ∙ zeros_are count ∙ ap (λ (n : ℕ). low_digits n 0) (sym (ap (λ (xs : List ℕ). length xs) is ∙ length-replicate count 0)))
    ∙ ap (λ (n : ℕ). low_digits (length digits) n) (only number)
  where
    only : (n : ℕ) → 0 * 0 + n ≡ n
    only n = omega arith
