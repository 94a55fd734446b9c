-- What is printed of a float reads back as the same number.
use Rattle.std.proofs.Common.{◌≡◌, ◌≢◌, ℕ, zero, suc, ◌+◌, ◌-◌, ◌*◌, ◌/◌, ◌%◌, ◌^◌, ◌==◌, ◌<◌, ◌≤◌, Bool, true, false}
use Rattle.std.proofs.Common.{cond}
use Rattle.std.proofs.Common.{List, [], ◌∷◌, ◌++◌, length, take, drop, replicate, reverse, Some, codes, refl, sym}
use Rattle.std.proofs.Common.{◌∙◌, ap, subst, arith, nat_le}
use Rattle.std.proofs.Common.{mul_assoc, lt_trans, lt_of_lt_of_le, lit<, take-append-drop}
use Rattle.std.proofs.lemmas.Bool.{eqb-true, eqb-false, ne_eqb}
use Rattle.std.proofs.lemmas.List.{length-reverse, length-drop}
use Rattle.std.proofs.lemmas.Float.Parse.{parse_float-text_of, parse_float_on_literals}
use Rattle.std.proofs.lemmas.Nat.{mul-pow, pow-add}
use Rattle.std.proofs.Math.Nat.{mul_right_comm, mul-le-mul, mul-lt-mul_of_pos_right, one-le-pow, pow-le-pow_left}
use Rattle.std.proofs.Math.Nat.{eq_of_mul-eq-mul_right, le_trans}
use Rattle.std.specs.Fmt.{sign_text}
use Rattle.fast_float.specs.Parse.{parse_float}
use lib.Pow.{pow_pos, pow_mono, shl_lt}
use lib.Dec.{T}
use lib.Ieee.{Float, nan, inf, fin, Format, binary32, binary64, prec, emax, hid, ones, top, low, round, odd, fits}
use lib.Ieee.{of_bits, of_fields}
use lib.Ieee.Bits.{of_bits-fits}
use lib.Ieee.Exact.{HasValue, odd_sign, round_exact}
use lib.Ieee.Fits.{round-fits}
use Rattle.float_texts.specs.Digits.{before_point, behind_point, low_digits}
use Rattle.float_texts.specs.Values.{significand_of, value_by}
use Rattle.float_texts.specs.Texts.{float_text, float_value_text}
use Rattle.proof_floats.proofs.DigitTexts.{nearest_is, numeral, some_shown, text_parts, well_formed}
use Rattle.proof_floats.proofs.Unique.{unique}
use Rattle.proof_floats.proofs.Worth.{AreSmall, count_kept, digits_small, digits_worth, kept, small_left, small_right}
use Rattle.proof_floats.proofs.Worth.{split_kept, split_zeros, worth, worth_shown, zeros}
use Rattle.proof_floats.specs.ReadingBack.{TextsReadBack}

-- ---- the digits of a magnitude

ten_pos : (k : ℕ) → 0 < 10 ^ k
ten_pos k = more (10 ^ k) (one-le-pow k 10 (lit< tt))
  where
    more : (n : ℕ) → 1 ≤ n → 0 < n
    more n h = omega arith

-- how many digits a magnitude has at most, and the number that they are
abbrev room : ℕ → ℕ → ℕ
room d p = 17 + d + p

abbrev number : ℕ → ℕ → ℕ → ℕ
number sig d p = sig * 2 ^ d * 5 ^ p

-- no magnitude has more digits
fits_room : (sig d p : ℕ) → sig < 10 ^ 17 → number sig d p < 10 ^ room d p
fits_room sig d p small =
    subst (λ (n : ℕ). number sig d p < n)
    (sym (pow-add 10 (17 + d) p ∙ ap (λ (n : ℕ). n * 10 ^ p) (pow-add 10 17 d)))
    (first_less
    (mul-le-mul (mul-le-mul (le_self sig) (pow-le-pow_left two_ten d)) (pow-le-pow_left five_ten p))
    (mul-lt-mul_of_pos_right (mul-lt-mul_of_pos_right small (ten_pos d)) (ten_pos p)))
  where
    le_self : (n : ℕ) → n ≤ n
    le_self n = omega arith

    two_ten : 2 ≤ 10
    two_ten = omega arith

    five_ten : 5 ≤ 10
    five_ten = omega arith

    first_less : {a b c : ℕ} → a ≤ b → b < c → a < c
    first_less {a} {b} {c} h k = omega arith

length_low : (count n : ℕ) → length (low_digits count n) ≡ count
length_low zero n = refl
length_low (suc count) n = ap (λ (k : ℕ). suc k) (length_low count (n / 10))

-- all digits, those before the point, and those behind it
abbrev all_digits : ℕ → ℕ → ℕ → List ℕ
all_digits sig d p = reverse (low_digits (room d p) (number sig d p))

abbrev whole_of : ℕ → ℕ → ℕ → List ℕ
whole_of sig d p = take (room d p - p) (all_digits sig d p)

abbrev fraction_of : ℕ → ℕ → ℕ → List ℕ
fraction_of sig d p = drop (room d p - p) (all_digits sig d p)

-- without zeros in front
abbrev front : ℕ → ℕ → ℕ → List ℕ
front sig d p = drop (zeros (whole_of sig d p)) (whole_of sig d p)

-- without zeros at the end
abbrev back : ℕ → ℕ → ℕ → List ℕ
back sig d p = kept (fraction_of sig d p)

abbrev text : ℕ → ℕ → ℕ → List ℕ
text sig d p = before_point (front sig d p) ++ behind_point (back sig d p)

joined : (sig d p : ℕ) → whole_of sig d p ++ fraction_of sig d p ≡ all_digits sig d p
joined sig d p = take-append-drop (room d p - p) (all_digits sig d p)

all_small : (sig d p : ℕ) → AreSmall (whole_of sig d p ++ fraction_of sig d p)
all_small sig d p = subst AreSmall (sym (joined sig d p)) (digits_small (room d p) (number sig d p))

front_small : (sig d p : ℕ) → AreSmall (front sig d p)
front_small sig d p =
    small_right (replicate (zeros (whole_of sig d p)) 0) (front sig d p)
    (subst AreSmall (split_zeros (whole_of sig d p))
    (small_left (whole_of sig d p) (fraction_of sig d p) (all_small sig d p)))

back_small : (sig d p : ℕ) → AreSmall (back sig d p)
back_small sig d p =
    small_left (back sig d p) (reverse (replicate (zeros (reverse (fraction_of sig d p))) 0))
    (subst AreSmall (split_kept (fraction_of sig d p))
    (small_right (whole_of sig d p) (fraction_of sig d p) (all_small sig d p)))

count_of_places : (sig d p : ℕ) → length (fraction_of sig d p) ≡ p
count_of_places sig d p =
    length-drop (room d p - p) (all_digits sig d p)
    ∙ ap (λ (n : ℕ). n - (room d p - p))
    (length-reverse (low_digits (room d p) (number sig d p)) ∙ length_low (room d p) (number sig d p))
    ∙ rest d p
  where
    rest : (e q : ℕ) → 17 + e + q - (17 + e + q - q) ≡ q
    rest e q = omega arith

-- what the text is worth, without its point
abbrev told : ℕ → ℕ → ℕ → ℕ
told sig d p = worth 0 (front sig d p ++ back sig d p)

told_is : (sig d p : ℕ) → sig < 10 ^ 17 →
    told sig d p * 10 ^ zeros (reverse (fraction_of sig d p)) ≡ number sig d p
told_is sig d p small =
    sym (worth_shown (whole_of sig d p) (fraction_of sig d p))
    ∙ ap (λ (xs : List ℕ). worth 0 xs) (joined sig d p)
    ∙ digits_worth (room d p) (number sig d p) (fits_room sig d p small)

-- the text as a numeral
text_read : (f : Format) (negative : Bool) (sig d p : ℕ) →
    parse_float f (sign_text negative ++ text sig d p) ≡
    Some (round f negative (told sig d p) (10 ^ length (back sig d p)))
text_read f negative sig d p =
    ap (λ (xs : List ℕ). parse_float f (sign_text negative ++ xs))
    (text_parts (front sig d p) (back sig d p) (front_small sig d p) (back_small sig d p))
    ∙ parse_float-text_of f negative (numeral (front sig d p) (back sig d p))
    (well_formed (front sig d p) (back sig d p) (front_small sig d p) (back_small sig d p)) (some_shown (front sig d p))
    ∙ ap (λ (x : Float). Some x)
    (nearest_is f negative (front sig d p) (back sig d p) (front_small sig d p) (back_small sig d p))

-- ---- the number that it says

-- doublings and places are the exponent, with all places taken together
balance : (v sig d p l scale k z : ℕ) → v * 10 ^ z ≡ sig * 2 ^ d * 5 ^ p → d + l ≡ scale + p → k + z ≡ p →
    v * 2 ^ l ≡ sig * 2 ^ scale * 10 ^ k
balance v sig d p l scale k z worth_is exponents places =
    eq_of_mul-eq-mul_right (10 ^ z) (ten_pos z) (v * 2 ^ l) (sig * 2 ^ scale * 10 ^ k)
    (mul_right_comm v (2 ^ l) (10 ^ z)
    ∙ ap (λ (n : ℕ). n * 2 ^ l) worth_is
    ∙ mul_right_comm (sig * 2 ^ d) (5 ^ p) (2 ^ l)
    ∙ ap (λ (n : ℕ). n * 5 ^ p)
    (mul_assoc sig (2 ^ d) (2 ^ l)
    ∙ ap (λ (n : ℕ). sig * n) (sym (pow-add 2 d l) ∙ ap (λ (n : ℕ). 2 ^ n) exponents ∙ pow-add 2 scale p)
    ∙ sym (mul_assoc sig (2 ^ scale) (2 ^ p)))
    ∙ mul_assoc (sig * 2 ^ scale) (2 ^ p) (5 ^ p)
    ∙ ap (λ (n : ℕ). sig * 2 ^ scale * n)
    (sym (mul-pow 2 5 p) ∙ ap (λ (n : ℕ). 10 ^ n) (sym places) ∙ pow-add 10 k z)
    ∙ sym (mul_assoc (sig * 2 ^ scale) (10 ^ k) (10 ^ z)))

-- the bounds of a format: of its significands and of its exponents
significand_small : (f : Format) (b : Bool) (t : ℕ) → t < hid f → cond b 0 (hid f) + t < 2 ^ prec f
significand_small binary32 true t h = omega arith
significand_small binary32 false t h = omega arith
significand_small binary64 true t h = omega arith
significand_small binary64 false t h = omega arith

seventeen : (f : Format) (n : ℕ) → n < 2 ^ prec f → n < 10 ^ 17
seventeen binary32 n h = lt_trans h (lit< tt)
seventeen binary64 n h = lt_trans h (lit< tt)

exponent_small : (f : Format) (field : ℕ) → field < ones f → prec f + (field - 1) ≤ low f + suc (emax f)
exponent_small binary32 field h = omega arith
exponent_small binary64 field h = omega arith

-- the value of the fields, as a fraction
fields_value : (f : Format) (s : Bool) (field t : ℕ) → field ≢ ones f →
    HasValue (of_fields f s field t) s (significand_of f field t * 2 ^ (field - 1)) (2 ^ low f)
unfolding of_fields
fields_value f s zero t apart =
    subst (λ (n : ℕ). HasValue (odd (prec f) s t 0 (low f)) s (n * 2 ^ 0) (2 ^ low f)) (none_more t)
    (odd_sign (prec f) s t 0 (low f))
  where
    none_more : (n : ℕ) → n ≡ 0 + n
    none_more n = omega arith
fields_value f s (suc x) t apart =
    let special : Float = cond (t == 0) (inf s) nan in
    let leading : hid f + t ≡ significand_of f (suc x) t =
    ap (λ (b : Bool). cond b 0 (hid f) + t) (sym (ne_eqb (suc x) 0 (some x))) in
    let plain : HasValue (odd (prec f) s (hid f + t) x (low f)) s
    (significand_of f (suc x) t * 2 ^ (suc x - 1)) (2 ^ low f) =
    subst
    (λ (n : ℕ). HasValue (odd (prec f) s (hid f + t) x (low f)) s (n * 2 ^ (suc x - 1)) (2 ^ low f)) leading
    (subst (λ (n : ℕ). HasValue (odd (prec f) s (hid f + t) x (low f)) s ((hid f + t) * 2 ^ n) (2 ^ low f)) (one_less x)
    (odd_sign (prec f) s (hid f + t) x (low f))) in
    subst
    (λ (b : Bool).
    HasValue (cond b special (odd (prec f) s (hid f + t) x (low f))) s
    (significand_of f (suc x) t * 2 ^ (suc x - 1)) (2 ^ low f))
    (sym (ne_eqb (suc x) (ones f) apart)) plain
  where
    some : (n : ℕ) → suc n ≢ 0
    some n e = omega arith

    one_less : (n : ℕ) → n ≡ suc n - 1
    one_less n = omega arith

-- the doublings and the places of a field
abbrev doublings : Format → ℕ → ℕ
doublings f field = field - 1 - low f

abbrev places : Format → ℕ → ℕ
places f field = low f - (field - 1)

finite_back : (f : Format) (s : Bool) (field t : ℕ) → field < ones f → t < hid f → T (fits f (of_fields f s field t)) →
    parse_float f (sign_text s ++ text (significand_of f field t) (doublings f field) (places f field))
    ≡ Some (of_fields f s field t)
finite_back f s field t below small fit =
    let sig : ℕ = significand_of f field t in
    let d : ℕ = doublings f field in
    let p : ℕ = places f field in
    let k : ℕ = length (back sig d p) in
    let few : sig < 2 ^ prec f = significand_small f (field == 0) t small in
    let same : told sig d p * 2 ^ low f ≡ sig * 2 ^ (field - 1) * 10 ^ k =
    balance (told sig d p) sig d p (low f) (field - 1) k (zeros (reverse (fraction_of sig d p)))
    (told_is sig d p (seventeen f sig few)) (exponents (field - 1) (low f))
    (count_kept (fraction_of sig d p) ∙ count_of_places sig d p) in
    let read : HasValue (round f s (told sig d p) (10 ^ k)) s (told sig d p) (10 ^ k) =
    round_exact f s (told sig d p) (10 ^ k) sig (field - 1) (ten_pos k) few
    (lt_of_lt_of_le (shl_lt (prec f) (field - 1) few) (pow_mono (exponent_small f field below))) same in
    text_read f s sig d p
    ∙ ap (λ (x : Float). Some x)
    (unique f (round f s (told sig d p) (10 ^ k)) (of_fields f s field t) s (told sig d p)
    (sig * 2 ^ (field - 1)) (10 ^ k) (2 ^ low f) (round-fits f s (told sig d p) (10 ^ k)) fit (ten_pos k)
    (pow_pos (low f)) same
    read (fields_value f s field t (less_apart field (ones f) below)))
  where
    exponents : (scale l : ℕ) → scale - l + l ≡ scale + (l - scale)
    exponents scale l = omega arith

    less_apart : (n o : ℕ) → n < o → n ≢ o
    less_apart n o h e = omega arith

-- ---- the other values

nan_back : (f : Format) → parse_float f (codes "nan") ≡ Some nan
unfolding parse_float_on_literals
nan_back binary32 = refl
nan_back binary64 = refl

infinity_back : (f : Format) (s : Bool) → parse_float f (sign_text s ++ codes "inf") ≡ Some (inf s)
unfolding parse_float_on_literals
infinity_back binary32 true = refl
infinity_back binary32 false = refl
infinity_back binary64 true = refl
infinity_back binary64 false = refl

zero_back : (f : Format) (s : Bool) → parse_float f (sign_text s ++ codes "0") ≡ Some (of_fields f s 0 0)
unfolding parse_float_on_literals of_fields
zero_back binary32 true = refl
zero_back binary32 false = refl
zero_back binary64 true = refl
zero_back binary64 false = refl

ones_are_special : (f : Format) (s : Bool) (t : ℕ) → of_fields f s (ones f) t ≡ cond (t == 0) (inf s) nan
unfolding of_fields
ones_are_special binary32 s t = refl
ones_are_special binary64 s t = refl

special_back : (f : Format) (s : Bool) (field t : ℕ) (b : Bool) → (t == 0) ≡ b → (field == ones f) ≡ true →
    parse_float f (float_value_text (value_by f s field t)) ≡ Some (of_fields f s field t)
special_back f s field t true zero_is ones_is =
    let told : float_value_text (value_by f s field t) ≡ sign_text s ++ codes "inf" = rw (ones_is, zero_is) refl in
    ap (λ (xs : List ℕ). parse_float f xs) told
    ∙ infinity_back f s
    ∙ ap (λ (x : Float). Some x) (sym (ones_are_special f s t ∙ ap (λ (b : Bool). cond b (inf s) nan) zero_is))
    ∙ ap (λ (n : ℕ). Some (of_fields f s n t)) (sym (eqb-true field (ones f) ones_is))
special_back f s field t false zero_is ones_is =
    let told : float_value_text (value_by f s field t) ≡ codes "nan" = rw (ones_is, zero_is) refl in
    ap (λ (xs : List ℕ). parse_float f xs) told
    ∙ nan_back f
    ∙ ap (λ (x : Float). Some x) (sym (ones_are_special f s t ∙ ap (λ (b : Bool). cond b (inf s) nan) zero_is))
    ∙ ap (λ (n : ℕ). Some (of_fields f s n t)) (sym (eqb-true field (ones f) ones_is))

no_leading : (f : Format) (t : ℕ) → hid f + t ≡ 0 → ⊥
no_leading binary32 t is = omega arith
no_leading binary64 t is = omega arith

-- fields without a significand are zeros
no_fields : (f : Format) (s : Bool) (field t : ℕ) (b : Bool) → (field == 0) ≡ b → cond b 0 (hid f) + t ≡ 0 →
    of_fields f s 0 0 ≡ of_fields f s field t
no_fields f s field t true is none =
    ap (λ (n : ℕ). of_fields f s n 0) (sym (eqb-true field 0 is)) ∙ ap (λ (n : ℕ). of_fields f s field n) (same t none)
  where
    same : (n : ℕ) → 0 + n ≡ 0 → 0 ≡ n
    same n e = omega arith
no_fields f s field t false is none = absurd (no_leading f t none)

number_back : (f : Format) (s : Bool) (field t : ℕ) (b : Bool) → (significand_of f field t == 0) ≡ b →
    (field == ones f) ≡ false → field < ones f → t < hid f → T (fits f (of_fields f s field t)) →
    parse_float f (float_value_text (value_by f s field t)) ≡ Some (of_fields f s field t)
number_back f s field t true zero_is ones_is below small fit =
    let told : float_value_text (value_by f s field t) ≡ sign_text s ++ codes "0" = rw (ones_is, zero_is) refl in
    ap (λ (xs : List ℕ). parse_float f xs) told
    ∙ zero_back f s
    ∙ ap (λ (x : Float). Some x)
    (no_fields f s field t (field == 0) refl (eqb-true (significand_of f field t) 0 zero_is))
number_back f s field t false zero_is ones_is below small fit =
    let told : float_value_text (value_by f s field t)
    ≡ sign_text s ++ text (significand_of f field t) (doublings f field) (places f field) =
    rw (ones_is, zero_is) refl in
    ap (λ (xs : List ℕ). parse_float f xs) told ∙ finite_back f s field t below small fit

fields_back : (f : Format) (s : Bool) (field t : ℕ) (b : Bool) → (field == ones f) ≡ b →
    field < suc (ones f) → t < hid f → T (fits f (of_fields f s field t)) →
    parse_float f (float_value_text (value_by f s field t)) ≡ Some (of_fields f s field t)
fields_back f s field t true is within small fit = special_back f s field t (t == 0) refl is
fields_back f s field t false is within small fit =
    number_back f s field t (significand_of f field t == 0) refl is
    (strictly field (ones f) within (eqb-false field (ones f) is)) small fit
  where
    strictly : (n o : ℕ) → n < suc o → n ≢ o → n < o
    strictly n o h apart = omega arith

field_within : (f : Format) (bits : ℕ) → bits % top f / hid f < suc (ones f)
field_within binary32 bits = omega arith
field_within binary64 bits = omega arith

fraction_within : (f : Format) (bits : ℕ) → bits % hid f < hid f
fraction_within binary32 bits = omega arith
fraction_within binary64 bits = omega arith

pub texts_read_back : TextsReadBack
unfolding float_text of_bits
texts_read_back f bits =
    fields_back f (nat_le (top f) bits) (bits % top f / hid f) (bits % hid f) (bits % top f / hid f == ones f) refl
    (field_within f bits) (fraction_within f bits) (of_bits-fits f bits)
