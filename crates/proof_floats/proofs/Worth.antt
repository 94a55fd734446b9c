-- What digits are worth, the highest first, and which zeros add nothing.
use Rattle.std.proofs.Common.{◌≡◌, ℕ, zero, suc, ◌+◌, ◌-◌, ◌*◌, ◌/◌, ◌%◌, ◌^◌, ◌<◌, ◌≤◌, Bool, true, false, cond}
use Rattle.std.proofs.Common.{List, [], ◌∷◌, ◌++◌}
use Rattle.std.proofs.Common.{length, take, drop, replicate, reverse, refl, sym, ◌∙◌, ap, subst, arith, append_assoc}
use Rattle.std.proofs.Common.{mul_assoc, one-add, length-append}
use Rattle.std.proofs.lemmas.Bool.{eqb-true}
use Rattle.std.proofs.lemmas.List.{reverse-append, reverse-reverse, length-reverse, length-drop, length-replicate}
use Rattle.std.proofs.Math.Nat.{pow-suc, pow-zero}
use Rattle.std.specs.List.{take_while, prefix_len}
use lib.Seq.{take-append_seam}
use Rattle.float_texts.specs.Digits.{is_zero, low_digits}

-- the number that digits go on to make of those before them
abbrev pub worth : ℕ → List ℕ → ℕ
worth before [] = before
worth before (digit ∷ digits) = worth (before * 10 + digit) digits

pub worth_append : (before : ℕ) (xs ys : List ℕ) → worth before (xs ++ ys) ≡ worth (worth before xs) ys
worth_append before [] ys = refl
worth_append before (x ∷ xs) ys = worth_append (before * 10 + x) xs ys

-- each digit is below ten
abbrev pub AreSmall : List ℕ → Type 0
AreSmall [] = Unit {0}
AreSmall (digit ∷ digits) = (digit < 10) × AreSmall digits

pub small_append : (xs ys : List ℕ) → AreSmall xs → AreSmall ys → AreSmall (xs ++ ys)
small_append [] ys hx hy = hy
small_append (x ∷ xs) ys hx hy = (hx.0, small_append xs ys hx.1 hy)

pub small_left : (xs ys : List ℕ) → AreSmall (xs ++ ys) → AreSmall xs
small_left [] ys h = tt
small_left (x ∷ xs) ys h = (h.0, small_left xs ys h.1)

pub small_right : (xs ys : List ℕ) → AreSmall (xs ++ ys) → AreSmall ys
small_right [] ys h = h
small_right (x ∷ xs) ys h = small_right xs ys h.1

-- ---- the digits of a number

last_small : (n : ℕ) → n % 10 < 10
last_small n = omega arith

last_digit : (x : ℕ) (xs : List ℕ) → reverse (x ∷ xs) ≡ reverse xs ++ x ∷ []
last_digit x xs = reverse-append (x ∷ []) xs

pub digits_small : (count number : ℕ) → AreSmall (reverse (low_digits count number))
digits_small zero number = tt
digits_small (suc count) number =
    subst AreSmall (sym (last_digit (number % 10) (low_digits count (number / 10))))
    (small_append (reverse (low_digits count (number / 10))) (number % 10 ∷ []) (digits_small count (number / 10))
    (last_small number, tt))

none_below_one : (n : ℕ) → n < 10 ^ 0 → 0 ≡ n
none_below_one n h = omega arith

tens : (n : ℕ) → n / 10 * 10 + n % 10 ≡ n
tens n = omega arith

fewer : (n count : ℕ) → n < 10 ^ suc count → n / 10 < 10 ^ count
fewer n count h = below (10 ^ count) (subst (λ (k : ℕ). n < k) (pow-suc 10 count) h)
  where
    below : (k : ℕ) → n < k * 10 → n / 10 < k
    below k l = omega arith

pub digits_worth : (count number : ℕ) → number < 10 ^ count → worth 0 (reverse (low_digits count number)) ≡ number
digits_worth zero number within = none_below_one number within
digits_worth (suc count) number within =
    ap (λ (xs : List ℕ). worth 0 xs) (last_digit (number % 10) (low_digits count (number / 10)))
    ∙ worth_append 0 (reverse (low_digits count (number / 10))) (number % 10 ∷ [])
    ∙ ap (λ (n : ℕ). n * 10 + number % 10) (digits_worth count (number / 10) (fewer number count within))
    ∙ tens number

-- ---- zeros

-- how many zeros stand in front
abbrev pub zeros : List ℕ → ℕ
zeros xs = length (take_while is_zero xs)

split_at_zero : (k x : ℕ) (xs : List ℕ) (b : Bool) → is_zero x ≡ b →
    xs ≡ replicate (length (take k xs)) 0 ++ drop (length (take k xs)) xs →
    x ∷ xs ≡
    replicate (length (take (cond b (1 + k) 0) (x ∷ xs))) 0 ++ drop (length (take (cond b (1 + k) 0) (x ∷ xs))) (x ∷ xs)
split_at_zero k x xs true is rest =
    let first : x ≡ 0 = eqb-true x 0 is in
    let whole : x ∷ xs
    ≡ replicate (length (take (suc k) (x ∷ xs))) 0 ++ drop (length (take (suc k) (x ∷ xs))) (x ∷ xs) =
    ap (λ (n : ℕ). n ∷ xs) first ∙ ap (λ (ys : List ℕ). 0 ∷ ys) rest in
    subst
    (λ (n : ℕ). x ∷ xs ≡ replicate (length (take n (x ∷ xs))) 0 ++ drop (length (take n (x ∷ xs))) (x ∷ xs))
    (sym (one-add k)) whole
split_at_zero k x xs false is rest = refl

-- digits are the zeros in front and the others
pub split_zeros : (xs : List ℕ) → xs ≡ replicate (zeros xs) 0 ++ drop (zeros xs) xs
split_zeros [] = refl
split_zeros (x ∷ xs) = split_at_zero (prefix_len is_zero xs) x xs (is_zero x) refl (split_zeros xs)

no_digit : (n : ℕ) → n ≡ n * 10 ^ 0
no_digit n = sym (ap (λ (k : ℕ). n * k) (pow-zero 10) ∙ once n)
  where
    once : (k : ℕ) → k * 1 ≡ k
    once k = omega arith

zero_more : (n k : ℕ) → n * 10 ^ k * 10 + 0 ≡ n * 10 ^ suc k
zero_more n k =
    plus_none (n * 10 ^ k * 10) ∙ mul_assoc n (10 ^ k) 10 ∙ ap (λ (m : ℕ). n * m) (sym (pow-suc 10 k))
  where
    plus_none : (m : ℕ) → m + 0 ≡ m
    plus_none m = omega arith

-- zeros in front are worth nothing
pub zeros_in_front : (k : ℕ) → worth 0 (replicate k 0) ≡ 0
zeros_in_front zero = refl
zeros_in_front (suc k) = zeros_in_front k

-- each zero at the end is worth a factor of ten
pub zeros_behind : (n k : ℕ) → worth n (reverse (replicate k 0)) ≡ n * 10 ^ k
zeros_behind n zero = no_digit n
zeros_behind n (suc k) =
    ap (λ (xs : List ℕ). worth n xs) (last_digit 0 (replicate k 0))
    ∙ worth_append n (reverse (replicate k 0)) (0 ∷ [])
    ∙ ap (λ (m : ℕ). m * 10 + 0) (zeros_behind n k)
    ∙ zero_more n k

-- the digits but the zeros at the end
abbrev pub kept : List ℕ → List ℕ
kept xs = take (length xs - zeros (reverse xs)) xs

length_kept : (xs : List ℕ) → length (reverse (drop (zeros (reverse xs)) (reverse xs))) ≡ length xs - zeros (reverse xs)
length_kept xs =
    length-reverse (drop (zeros (reverse xs)) (reverse xs))
    ∙ length-drop (zeros (reverse xs)) (reverse xs)
    ∙ ap (λ (n : ℕ). n - zeros (reverse xs)) (length-reverse xs)

turned : (xs : List ℕ) → xs ≡
    reverse (drop (zeros (reverse xs)) (reverse xs)) ++ reverse (replicate (zeros (reverse xs)) 0)
turned xs =
    sym (reverse-reverse xs)
    ∙ ap (λ (ys : List ℕ). reverse ys) (split_zeros (reverse xs))
    ∙ reverse-append (replicate (zeros (reverse xs)) 0) (drop (zeros (reverse xs)) (reverse xs))

kept_is : (xs : List ℕ) → kept xs ≡ reverse (drop (zeros (reverse xs)) (reverse xs))
kept_is xs =
    ap (λ (ys : List ℕ). take (length xs - zeros (reverse xs)) ys) (turned xs)
    ∙ ap
    (λ (n : ℕ).
    take n (reverse (drop (zeros (reverse xs)) (reverse xs)) ++ reverse (replicate (zeros (reverse xs)) 0)))
    (sym (length_kept xs))
    ∙ take-append_seam (reverse (drop (zeros (reverse xs)) (reverse xs))) (reverse (replicate (zeros (reverse xs)) 0))

-- digits are those that are kept, and the zeros at the end
pub split_kept : (xs : List ℕ) → xs ≡ kept xs ++ reverse (replicate (zeros (reverse xs)) 0)
split_kept xs =
    turned xs ∙ ap (λ (ys : List ℕ). ys ++ reverse (replicate (zeros (reverse xs)) 0)) (sym (kept_is xs))

pub count_kept : (xs : List ℕ) → length (kept xs) + zeros (reverse xs) ≡ length xs
count_kept xs =
    sym
    (ap (λ (ys : List ℕ). length ys) (split_kept xs)
    ∙ length-append (kept xs) (reverse (replicate (zeros (reverse xs)) 0))
    ∙ ap (λ (n : ℕ). length (kept xs) + n)
    (length-reverse (replicate (zeros (reverse xs)) 0) ∙ length-replicate (zeros (reverse xs)) 0))

-- Digits before a point and behind it: without zeros in front and at the end they are worth as much, but for as many
-- factors of ten as zeros are left out at the end.
pub worth_shown : (before behind : List ℕ) →
    worth 0 (before ++ behind) ≡ worth 0 (drop (zeros before) before ++ kept behind) * 10 ^ zeros (reverse behind)
worth_shown before behind =
    let front : List ℕ = drop (zeros before) before in
    let end : List ℕ = reverse (replicate (zeros (reverse behind)) 0) in
    worth_append 0 before behind
    ∙ ap (λ (xs : List ℕ). worth (worth 0 xs) behind) (split_zeros before)
    ∙ ap (λ (n : ℕ). worth n behind)
    (worth_append 0 (replicate (zeros before) 0) front ∙ ap (λ (n : ℕ). worth n front) (zeros_in_front (zeros before)))
    ∙ ap (λ (xs : List ℕ). worth (worth 0 front) xs) (split_kept behind)
    ∙ worth_append (worth 0 front) (kept behind) end
    ∙ zeros_behind (worth (worth 0 front) (kept behind)) (zeros (reverse behind))
    ∙ ap (λ (n : ℕ). n * 10 ^ zeros (reverse behind)) (sym (worth_append 0 front (kept behind)))
