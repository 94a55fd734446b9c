-- Digits as they are written, as the parts of a numeral.
use Rattle.std.proofs.Common.{◌≡◌, ℕ, zero, suc, ◌+◌, ◌-◌, ◌*◌, ◌^◌, ◌<◌, Bool, true, false, List, [], ◌∷◌, ◌++◌}
use Rattle.std.proofs.Common.{length}
use Rattle.std.proofs.Common.{refl, sym, ◌∙◌, ap, subst, arith, append-nil, add-zero}
use Rattle.std.proofs.lemmas.Fmt.{decimal_digit}
use Rattle.std.specs.Char.{digit_value}
use Rattle.std.specs.Str.Parse.{digits_value, digits_value_after, AllDigits}
use Rattle.std.specs.Float.Numeral.{Parts, text_of, IsWellFormed, numeral_digits, nearest_float, tens_down, tens_up}
use Rattle.std.proofs.Math.Nat.{mul-one}
use lib.Ieee.{Format, Float, round}
use Rattle.float_texts.specs.Digits.{digits_text, before_point, behind_point}
use Rattle.proof_floats.proofs.Worth.{AreSmall, small_append, worth}

-- the characters of digits
abbrev pub glyphs : List ℕ → List ℕ
glyphs [] = []
glyphs (digit ∷ digits) = (48 + digit) ∷ glyphs digits

pub text_is : (digits : List ℕ) → AreSmall digits → digits_text digits ≡ glyphs digits
text_is [] small = refl
text_is (d ∷ ds) small =
    ap (λ (xs : List ℕ). xs ++ digits_text ds) (decimal_digit d small.0)
    ∙ ap (λ (xs : List ℕ). (48 + d) ∷ xs) (text_is ds small.1)

no_more : {A : Type 0} (n : ℕ) → suc (suc (suc (suc (suc (suc (suc (suc (suc (suc n))))))))) < 10 → A
no_more n h = absurd (omega arith)

glyph_value : (d : ℕ) → d < 10 → digit_value (48 + d) ≡ d
glyph_value zero h = refl
glyph_value (suc zero) h = refl
glyph_value (suc (suc zero)) h = refl
glyph_value (suc (suc (suc zero))) h = refl
glyph_value (suc (suc (suc (suc zero)))) h = refl
glyph_value (suc (suc (suc (suc (suc zero))))) h = refl
glyph_value (suc (suc (suc (suc (suc (suc zero)))))) h = refl
glyph_value (suc (suc (suc (suc (suc (suc (suc zero))))))) h = refl
glyph_value (suc (suc (suc (suc (suc (suc (suc (suc zero)))))))) h = refl
glyph_value (suc (suc (suc (suc (suc (suc (suc (suc (suc zero))))))))) h = refl
glyph_value (suc (suc (suc (suc (suc (suc (suc (suc (suc (suc n)))))))))) h = no_more n h

pub glyphs_are_digits : (digits : List ℕ) → AreSmall digits → AllDigits 10 (glyphs digits)
glyphs_are_digits [] small = tt
glyphs_are_digits (d ∷ ds) small =
    (subst (λ (n : ℕ). n < 10) (sym (glyph_value d small.0)) small.0, glyphs_are_digits ds small.1)

pub glyphs_value : (before : ℕ) (digits : List ℕ) → AreSmall digits →
    digits_value_after 10 before (glyphs digits) ≡ worth before digits
glyphs_value before [] small = refl
glyphs_value before (d ∷ ds) small =
    ap (λ (n : ℕ). digits_value_after 10 (before * 10 + n) (glyphs ds)) (glyph_value d small.0)
    ∙ glyphs_value (before * 10 + d) ds small.1

glyphs_append : (xs ys : List ℕ) → glyphs xs ++ glyphs ys ≡ glyphs (xs ++ ys)
glyphs_append [] ys = refl
glyphs_append (x ∷ xs) ys = ap (λ (zs : List ℕ). (48 + x) ∷ zs) (glyphs_append xs ys)

length_glyphs : (digits : List ℕ) → length (glyphs digits) ≡ length digits
length_glyphs [] = refl
length_glyphs (d ∷ ds) = ap (λ (n : ℕ). suc n) (length_glyphs ds)

-- what stands before the point, where there are no digits: a zero
abbrev pub shown : List ℕ → List ℕ
shown [] = 0 ∷ []
shown (digit ∷ digits) = digit ∷ digits

shown_small : (digits : List ℕ) → AreSmall digits → AreSmall (shown digits)
shown_small [] small = (omega arith, tt)
shown_small (d ∷ ds) small = small

worth_of_shown : (digits more : List ℕ) → worth 0 (shown digits ++ more) ≡ worth 0 (digits ++ more)
worth_of_shown [] more = refl
worth_of_shown (d ∷ ds) more = refl

shown_text : (digits : List ℕ) → AreSmall digits → before_point digits ≡ glyphs (shown digits)
shown_text [] small = refl
shown_text (d ∷ ds) small = text_is (d ∷ ds) small

pub some_shown : (digits : List ℕ) → 0 < length (glyphs (shown digits))
some_shown [] = omega arith
some_shown (d ∷ ds) = omega arith

abbrev pub has_digits : List ℕ → Bool
has_digits [] = false
has_digits (digit ∷ digits) = true

-- the parts of the numeral
abbrev pub numeral : List ℕ → List ℕ → Parts
numeral before behind =
    record {
      whole = glyphs (shown before);
      point = has_digits behind;
      fraction = glyphs behind;
      exponent_negative = false;
      exponent = [];
      len = length (before_point before ++ behind_point behind);
    }

pub text_parts : (before behind : List ℕ) → AreSmall before → AreSmall behind →
    before_point before ++ behind_point behind ≡ text_of (numeral before behind)
text_parts before [] hb hf = ap (λ (xs : List ℕ). xs ++ []) (shown_text before hb)
text_parts before (d ∷ ds) hb hf =
    ap (λ (xs : List ℕ). xs ++ behind_point (d ∷ ds)) (shown_text before hb)
    ∙ ap (λ (xs : List ℕ). glyphs (shown before) ++ xs)
    (ap (λ (xs : List ℕ). 46 ∷ xs) (text_is (d ∷ ds) hf) ∙ sym (append-nil (46 ∷ glyphs (d ∷ ds))))

no_fraction : (behind : List ℕ) → has_digits behind ≡ false → glyphs behind ≡ []
no_fraction [] is = refl
no_fraction (d ∷ ds) is = absurd (apart is)
  where
    apart : true ≡ false → ⊥
    apart h = cc

pub well_formed : (before behind : List ℕ) → AreSmall before → AreSmall behind → IsWellFormed (numeral before behind)
well_formed before behind hb hf =
    record {
      whole_digits = glyphs_are_digits (shown before) (shown_small before hb);
      fraction_digits = glyphs_are_digits behind hf;
      exponent_digits = tt;
      no_point = no_fraction behind;
      no_exponent = λ is. refl;
      len_is = ap (λ (xs : List ℕ). length xs) (text_parts before behind hb hf);
    }

digits_are : (before behind : List ℕ) → AreSmall before → AreSmall behind →
    numeral_digits (numeral before behind) ≡ worth 0 (before ++ behind)
digits_are before behind hb hf =
    ap (λ (xs : List ℕ). digits_value 10 xs) (glyphs_append (shown before) behind)
    ∙ glyphs_value 0 (shown before ++ behind) (small_append (shown before) behind (shown_small before hb) hf)
    ∙ worth_of_shown before behind

-- the float that is nearest to the numeral
pub nearest_is : (f : Format) (negative : Bool) (before behind : List ℕ) → AreSmall before → AreSmall behind →
    nearest_float f negative (numeral before behind) ≡
    round f negative (worth 0 (before ++ behind)) (10 ^ length behind)
nearest_is f negative before behind hb hf =
    ap (λ (n : ℕ). round f negative n (10 ^ tens_down (numeral before behind)))
    (mul-one (numeral_digits (numeral before behind)) ∙ digits_are before behind hb hf)
    ∙ ap (λ (n : ℕ). round f negative (worth 0 (before ++ behind)) (10 ^ n))
    (add-zero (length (glyphs behind)) ∙ length_glyphs behind)
