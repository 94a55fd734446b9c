-- Numerals: what `decimal` writes, and what is read of it.
use Rattle.std.proofs.Common.{◌≡◌, ℕ, zero, suc, ◌<◌, ◌≤◌, ◌^◌, Bool, true, false, cond, eqb, leb, ltb, List, length}
use Rattle.std.proofs.Common.{get_or, Some, None, Result, Ok, Err, refl, sym, ap, subst, arith}
use Rattle.std.specs.Prelude.{◌&&◌}
use Rattle.std.specs.Option.{SomeIff}
use Rattle.std.specs.Result.{OkIff, result_ok}
use Rattle.std.specs.Str.{all_ascii_digits, IsUtf8}
use Rattle.std.specs.Str.Parse.{digits_value, ParsesUnsigned}
use Rattle.std.specs.Fmt.{decimal}
use Rattle.std.proofs.lemmas.Bool.{eqb-true, eq-eqb, ltb-false, leb-true, le-leb, le-ltb, false≢true}
use Rattle.std.proofs.lemmas.Str.{IsUtf8-from_ascii}
use Rattle.std.proofs.lemmas.Str.Parse.{IsNumeralModel, numerals_by_value, tells_all_ascii_digits, parse_digits}
use Rattle.std.proofs.lemmas.Fmt.{IsAscii-from_digits, decimal-digits_value, digits_decimal, digits_value-decimal}
use Rattle.std.proofs.lemmas.Fmt.{decimal_nonempty, first_decimal, decimal_digit}
use Rattle.numerals.specs.Numbers.{is_numeral, number_between}

pub own : IsNumeralModel (λ ds. all_ascii_digits ds ≡ true) (digits_value 10)
own = numerals_by_value _ tells_all_ascii_digits

pub record HasDigits (word : List ℕ) : Type 0 where
  pub some : 0 < length word
  pub digits : all_ascii_digits word ≡ true
  pub plain : get_or word 0 0 ≡ 48 → length word ≡ 1

chain : (empty lead rest : Bool) → cond empty false (cond lead false rest) ≡ true → (empty ≡ false) × (lead ≡ false) ×
    (rest ≡ true)
chain true lead rest e = absurd cc
chain false true rest e = absurd cc
chain false false rest e = (refl, refl, e)

not_both : (a b : Bool) → (a && b) ≡ false → a ≡ true → b ≡ false
not_both true b e h = e
not_both false b e h = absurd cc

nonempty : (n : ℕ) → eqb n 0 ≡ false → 0 < n
nonempty zero e = absurd cc
nonempty (suc n) e = omega arith

pub numeral_parts : (word : List ℕ) → is_numeral word ≡ true → HasDigits word
numeral_parts word e =
    let p = chain (eqb (length word) 0) (eqb (get_or word 0 0) 48 && ltb 1 (length word)) (all_ascii_digits word) e in
    let some : 0 < length word = nonempty (length word) p.0 in
    record {
      some = some;
      digits = p.2;
      plain = λ first. let short : length word ≤ 1 = ltb-false _ _ (not_both _ _ p.1 (eq-eqb _ _ first)) in omega arith;
    }

pub is_text : (word : List ℕ) → is_numeral word ≡ true → IsUtf8 word
is_text word e = IsUtf8-from_ascii word (IsAscii-from_digits word (own.to word (numeral_parts word e).digits))

some_iff : {E : Type 0} (r : Result ℕ E) (long small : Type 0) (v : ℕ) → long → OkIff r (long × small) v →
    SomeIff (result_ok r) small v
some_iff (Ok x) long small v h p = (p.0.1, p.1)
some_iff (Err e) long small v h p = λ s. p (h, s)

pub parsed : {E : Type 0} (word text : List ℕ) (r : Result ℕ E) → is_numeral word ≡ true → text ≡ word →
    ParsesUnsigned 64 10 text r → SomeIff (result_ok r) (digits_value 10 word < 2 ^ 64) (digits_value 10 word)
parsed word text r e same h =
    let p = numeral_parts word e in
    let there : ParsesUnsigned 64 10 word r = subst (λ (t : List ℕ). ParsesUnsigned 64 10 t r) same h in
    some_iff r (0 < length word) (digits_value 10 word < 2 ^ 64) (digits_value 10 word) p.some
    (parse_digits own 64 word r there p.digits)

-- ---- a number and its one word

choose : {A : Type 0} (a b c : Bool) (v n : A) → cond (a && (b && c)) (Some v) None ≡ Some n →
    (a ≡ true) × (b ≡ true) × (c ≡ true) × (v ≡ n)
choose true true true v n e = (refl, refl, refl, cc)
choose true true false v n e = absurd cc
choose true false c v n e = absurd cc
choose false b c v n e = absurd cc

-- the word spells this number, which lies between the bounds
pub record Spells (word : List ℕ) (low high n : ℕ) : Type 0 where
  pub spelled : word ≡ decimal n
  pub least : low ≤ n
  pub most : n ≤ high

pub number_takes : (word : List ℕ) (low high n : ℕ) → high < 2 ^ 64 → number_between word low high ≡ Some n →
    Spells word low high n
unfolding number_between
number_takes word low high n fits e =
    let v = digits_value 10 word in
    let p = choose (is_numeral word) (leb low v) (leb v high) v n e in
    let h = numeral_parts word p.0 in
    let least : low ≤ v = leb-true _ _ p.1 in
    let most : v ≤ high = leb-true _ _ p.2 in
    let there : Spells word low high v = record { spelled = sym (decimal-digits_value own word h.digits h.some h.plain (omega arith)); least = least; most = most } in
    subst (λ (m : ℕ). Spells word low high m) p.3 there

pass : (empty lead rest : Bool) → empty ≡ false → lead ≡ false → rest ≡ true → cond empty false (cond lead false rest) ≡
    true
pass true lead rest e f h = absurd (false≢true (sym e))
pass false true rest e f h = absurd (false≢true (sym f))
pass false false rest e f h = h

no_test : (b : Bool) → (b ≡ true → ⊥) → b ≡ false
no_test true h = absurd (h refl)
no_test false h = refl

nonzero : (n : ℕ) → 0 < n → eqb n 0 ≡ false
nonzero n h = no_test (eqb n 0) (λ e. let is : n ≡ 0 = eqb-true n 0 e in omega arith)

no_lead : (first n : ℕ) (t : Bool) → eqb first 48 ≡ t → (first ≡ 48 → n ≡ 1) → (t && ltb 1 n) ≡ false
no_lead first n true e plain = let one : n ≤ 1 = omega (arith, plain (eqb-true first 48 e)) in le-ltb 1 n one
no_lead first n false e plain = refl

numeral_from : (word : List ℕ) → HasDigits word → is_numeral word ≡ true
numeral_from word h =
    pass (eqb (length word) 0) (eqb (get_or word 0 0) 48 && ltb 1 (length word)) (all_ascii_digits word)
    (nonzero (length word) h.some) (no_lead (get_or word 0 0) (length word) (eqb (get_or word 0 0) 48) refl h.plain)
    h.digits

first_plain : (n : ℕ) → n < 2 ^ 64 → get_or (decimal n) 0 0 ≡ 48 → length (decimal n) ≡ 1
first_plain zero fits e = ap length (decimal_digit 0 (omega arith))
first_plain (suc n) fits e = absurd (omega (arith, first_decimal (suc n) (omega arith) fits))

pub decimal_is : (n : ℕ) → n < 2 ^ 64 → HasDigits (decimal n)
decimal_is n fits =
    record { some = decimal_nonempty n fits; digits = digits_decimal own n fits; plain = first_plain n fits }

pub number_again : (low high n : ℕ) → high < 2 ^ 64 → low ≤ n → n ≤ high → number_between (decimal n) low high ≡ Some n
unfolding number_between
number_again low high n fits least most =
    let small : n < 2 ^ 64 = omega arith in
    let t0 : is_numeral (decimal n) ≡ true = numeral_from (decimal n) (decimal_is n small) in
    let t1 : digits_value 10 (decimal n) ≡ n = digits_value-decimal own n small in
    let t2 : leb low n ≡ true = le-leb _ _ least in
    let t3 : leb n high ≡ true = le-leb _ _ most in
    rw (t0, t1, t2, t3) refl
