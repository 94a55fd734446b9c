-- What one word stands for: reading and the grammar agree.
use Rattle.std.proofs.Common.{◌≡◌, ◌≢◌, ℕ, ◌<◌, ◌≤◌, Bool, true, false, cond, eqb, leb, ltb, [], ◌∷◌, length, get_or}
use Rattle.std.proofs.Common.{Option, Some, None, refl, sym, ap, subst, ◌∙◌, arith, inl, inr}
use Rattle.std.specs.Prelude.{codes, ◌&&◌, ◌||◌, not, ◌⊎◌}
use Rattle.std.specs.List.{list_all, AllByRecursion}
use Rattle.std.specs.Str.{bytes_eq, all_ascii_digits}
use Rattle.std.specs.Str.Parse.{digits_value}
use Rattle.std.proofs.lemmas.Bool.{eqb-true, ltb-false, leb-true, le-leb, le-ltb, false≢true}
use Rattle.std.proofs.lemmas.List.{nil_from_length}
use Rattle.std.proofs.lemmas.Slice.Eq.{bytes_eq-Decides}
use Rattle.vocabulary.specs.BasicTypes.{is_float}
use Rattle.vocabulary.specs.declared.basic_type.BasicType.{BasicType}
use Rattle.vocabulary.specs.declared.basic_type.BasicType.TheVariants.{Int8, Int16, Int32, Int64, Uint8, Uint16, Uint32}
use Rattle.vocabulary.specs.declared.basic_type.BasicType.TheVariants.{Uint64, Byte, Float32, Float64}
use Rattle.tokens.specs.Grammar.{Word, least, IsNumeral, IsCapped, IsLetter, IsDigit, type_word, IsName}
use Rattle.tokens.specs.Numbers.{is_numeral, number_up_to, number_or, count_of}
use Rattle.tokens.specs.Words.{is_letter, is_name_byte, basic_type_of, is_reserved, is_reserved_type, is_name}
use Rattle.tokens.specs.Results.{◌>>=◌}
use Rattle.numerals.proofs.Numerals.{numeral_parts}

-- ---- steps and tests

pub bind_ok : {A B : Type 0} (r : Option A) (f : A → Option B) (y : B) → (r >>= f) ≡ Some y →
    (x : A) × (r ≡ Some x) × (f x ≡ Some y)
bind_ok (Some x) f y e = (x, refl, e)
bind_ok None f y e = absurd cc

pub made : {A : Type 0} (P : A → Type 0) (a c : A) → P a → Some a ≡ Some c → P c
made P a c p e = let same : a ≡ c = cc in subst P same p

pub pick : {A : Type 0} (P : A → Type 0) (b : Bool) (x y : Option A) (c : A) → (b ≡ true → x ≡ Some c → P c) →
    (b ≡ false → y ≡ Some c → P c) → cond b x y ≡ Some c → P c
pick P true x y c taken passed e = taken refl e
pick P false x y c taken passed e = passed refl e

pub if_some : {A : Type 0} (b : Bool) (x c : A) → cond b (Some x) None ≡ Some c → (b ≡ true) × (x ≡ c)
if_some true x c e = (refl, cc)
if_some false x c e = absurd cc

pub same_word : (word name : Word) → bytes_eq word name ≡ true → word ≡ name
same_word word name e = (bytes_eq-Decides word name).0 e

pub is_same : (word name : Word) → word ≡ name → bytes_eq word name ≡ true
is_same word name e = (bytes_eq-Decides word name).1 e

pub no_test : (b : Bool) → (b ≡ true → ⊥) → b ≡ false
no_test true h = absurd (h refl)
no_test false h = refl

pub other_word : (word name : Word) → word ≢ name → bytes_eq word name ≡ false
other_word word name h = no_test (bytes_eq word name) (λ e. h (same_word word name e))

pub differs : (word name : Word) → bytes_eq word name ≡ false → word ≢ name
differs word name e h = false≢true (sym e ∙ is_same word name h)

both : (a b : Bool) → (a && b) ≡ true → (a ≡ true) × (b ≡ true)
both true b e = (refl, e)
both false b e = absurd cc

either : (a b : Bool) → (a || b) ≡ true → (a ≡ true) ⊎ (b ≡ true)
either true b e = inl refl
either false b e = inr e

neither : (a b : Bool) → (a || b) ≡ false → (a ≡ false) × (b ≡ false)
neither true b e = absurd cc
neither false b e = (refl, e)

-- ---- numbers

nonempty : (word : Word) → 0 < length word → word ≢ []
nonempty word some e = let none : length word ≡ 0 = ap length e in omega arith

pub numeral_takes : (word : Word) → is_numeral word ≡ true → IsNumeral word (digits_value 10 word)
numeral_takes word e =
    let h = numeral_parts word e in
    record { some = nonempty word h.some; digits = h.digits; plain = h.plain; value = refl }

no_lead : (first n : ℕ) (t : Bool) → eqb first 48 ≡ t → (first ≡ 48 → n ≡ 1) → (t && ltb 1 n) ≡ false
no_lead first n true e plain = let one : n ≤ 1 = omega (arith, plain (eqb-true first 48 e)) in le-ltb 1 n one
no_lead first n false e plain = refl

pass : (empty lead rest : Bool) → empty ≡ false → lead ≡ false → rest ≡ true → cond empty false (cond lead false rest) ≡
    true
pass true lead rest e f h = absurd (false≢true (sym e))
pass false true rest e f h = absurd (false≢true (sym f))
pass false false rest e f h = h

some_long : (word : Word) → word ≢ [] → eqb (length word) 0 ≡ false
some_long word h = no_test (eqb (length word) 0) (λ e. h (nil_from_length word (eqb-true (length word) 0 e)))

pub numeral_again : (word : Word) (n : ℕ) → IsNumeral word n → is_numeral word ≡ true
numeral_again word n h =
    pass (eqb (length word) 0) (eqb (get_or word 0 0) 48 && ltb 1 (length word)) (all_ascii_digits word)
    (some_long word h.some) (no_lead (get_or word 0 0) (length word) (eqb (get_or word 0 0) 48) refl h.plain)
    h.digits

pub count_takes : (word : Word) (n : ℕ) → count_of word ≡ Some n → IsNumeral word n
unfolding count_of
count_takes word n e =
    let p = if_some (is_numeral word) (digits_value 10 word) n e in subst (λ (m : ℕ). IsNumeral word m) p.1
    (numeral_takes word p.0)

pub count_again : (word : Word) (n : ℕ) → IsNumeral word n → count_of word ≡ Some n
unfolding count_of
count_again word n h = let t : is_numeral word ≡ true = numeral_again word n h in rw t (ap (λ (m : ℕ). Some m) h.value)

pub capped_takes : (most : ℕ) (word : Word) (n : ℕ) → number_or most word ≡ Some n → IsCapped most word n
unfolding number_or
capped_takes most word n e =
    let p = if_some (is_numeral word) (least (digits_value 10 word) most) n e in
    (digits_value 10 word, numeral_takes word p.0, sym p.1)

pub capped_again : (most : ℕ) (word : Word) (n : ℕ) → IsCapped most word n → number_or most word ≡ Some n
unfolding number_or
capped_again most word n h =
    let t : is_numeral word ≡ true = numeral_again word h.0 h.1 in
    rw t (ap (λ (m : ℕ). Some (least m most)) h.1.value ∙ ap (λ (m : ℕ). Some m) (sym h.2))

pub bounded_takes : (most : ℕ) (word : Word) (n : ℕ) → number_up_to most word ≡ Some n → IsNumeral word n × (n ≤ most)
unfolding number_up_to
bounded_takes most word n e =
    let p = if_some (is_numeral word && leb (digits_value 10 word) most) (digits_value 10 word) n e in
    let q = both (is_numeral word) (leb (digits_value 10 word) most) p.0 in
    subst (λ (m : ℕ). IsNumeral word m × (m ≤ most)) p.1 (numeral_takes word q.0, leb-true _ _ q.1)

pub bounded_again : (most : ℕ) (word : Word) (n : ℕ) → IsNumeral word n → n ≤ most → number_up_to most word ≡ Some n
unfolding number_up_to
bounded_again most word n h le =
    let t : is_numeral word ≡ true = numeral_again word n h in
    let v : digits_value 10 word ≡ n = h.value in
    let small : leb n most ≡ true = le-leb _ _ le in
    rw (t, v, small) refl

-- a numeral is none of the words with letters
pub no_letters : (word name : Word) (n : ℕ) → all_ascii_digits name ≡ false → IsNumeral word n →
    bytes_eq word name ≡ false
no_letters word name n letters h =
    other_word word name (λ e. false≢true (sym letters ∙ ap all_ascii_digits (sym e) ∙ h.digits))

-- ---- basic types

abbrev pub Yields : {A : Type 0} → Option A → (A → Type 0) → Type 0
Yields None P = Unit {0}
Yields (Some x) P = P x

pub step : {A : Type 0} (P : A → Type 0) (b : Bool) (x y : Option A) → (b ≡ true → Yields x P) → Yields y P →
    Yields (cond b x y) P
step P true x y taken passed = taken refl
step P false x y taken passed = passed

pub yielded : {A : Type 0} (P : A → Type 0) (o : Option A) (x : A) → Yields o P → o ≡ Some x → P x
yielded P (Some y) x h e = made P y x h e
yielded P None x h e = absurd cc

types : (word : Word) → Yields (basic_type_of word) (λ basic. word ≡ type_word basic)
unfolding basic_type_of
types word =
    let P : BasicType → Type 0 = λ basic. word ≡ type_word basic in
    step P (bytes_eq word (codes "int8")) _ _ (same_word word (codes "int8"))
    (step P (bytes_eq word (codes "int16")) _ _ (same_word word (codes "int16"))
    (step P (bytes_eq word (codes "int32")) _ _ (same_word word (codes "int32"))
    (step P (bytes_eq word (codes "int64")) _ _ (same_word word (codes "int64"))
    (step P (bytes_eq word (codes "uint8")) _ _ (same_word word (codes "uint8"))
    (step P (bytes_eq word (codes "uint16")) _ _ (same_word word (codes "uint16"))
    (step P (bytes_eq word (codes "uint32")) _ _ (same_word word (codes "uint32"))
    (step P (bytes_eq word (codes "uint64")) _ _ (same_word word (codes "uint64"))
    (step P (bytes_eq word (codes "byte")) _ _ (same_word word (codes "byte"))
    (step P (bytes_eq word (codes "float32")) _ _ (same_word word (codes "float32"))
    (step P (bytes_eq word (codes "float64")) _ _ (same_word word (codes "float64")) tt))))))))))

pub type_takes : (word : Word) (basic : BasicType) → basic_type_of word ≡ Some basic → word ≡ type_word basic
type_takes word basic e = yielded (λ basic. word ≡ type_word basic) (basic_type_of word) basic (types word) e

pub type_again : (basic : BasicType) → basic_type_of (type_word basic) ≡ Some basic
unfolding basic_type_of
type_again Int8 = refl
type_again Int16 = refl
type_again Int32 = refl
type_again Int64 = refl
type_again Uint8 = refl
type_again Uint16 = refl
type_again Uint32 = refl
type_again Uint64 = refl
type_again Byte = refl
type_again Float32 = refl
type_again Float64 = refl

-- ---- names

letter_takes : (b : ℕ) → is_letter b ≡ true → IsLetter b
letter_takes b e = let p = both (leb 97 b) (leb b 122) e in (leb-true 97 b p.0, leb-true b 122 p.1)

pub and_true : (a b : Bool) → a ≡ true → b ≡ true → (a && b) ≡ true
and_true true b e f = f
and_true false b e f = absurd (false≢true e)

or_left : (a b : Bool) → a ≡ true → (a || b) ≡ true
or_left true b e = refl
or_left false b e = absurd (false≢true e)

or_right : (a b : Bool) → b ≡ true → (a || b) ≡ true
or_right true b e = refl
or_right false b e = e

letter_again : (b : ℕ) → IsLetter b → is_letter b ≡ true
letter_again b h = and_true (leb 97 b) (leb b 122) (le-leb _ _ h.0) (le-leb _ _ h.1)

byte_takes : (b : ℕ) → is_name_byte b ≡ true → IsLetter b ⊎ IsDigit b
byte_takes b e =
    elim (either (is_letter b) (leb 48 b && leb b 57) e) [
      | inl l ↦ inl (letter_takes b l)
      | inr d ↦ let p = both (leb 48 b) (leb b 57) d in inr (leb-true 48 b p.0, leb-true b 57 p.1)
    ]

byte_again : (b : ℕ) → IsLetter b ⊎ IsDigit b → is_name_byte b ≡ true
byte_again b (inl l) = or_left (is_letter b) (leb 48 b && leb b 57) (letter_again b l)
byte_again b (inr d) =
    or_right (is_letter b) (leb 48 b && leb b 57) (and_true (leb 48 b) (leb b 57) (le-leb _ _ d.0) (le-leb _ _ d.1))

bytes_take : (word : Word) → list_all is_name_byte word ≡ true →
    AllByRecursion (λ byte. IsLetter byte ⊎ IsDigit byte) word
bytes_take [] e = tt
bytes_take (b ∷ bs) e =
    let p = both (is_name_byte b) (list_all is_name_byte bs) e in (byte_takes b p.0, bytes_take bs p.1)

bytes_again : (word : Word) → AllByRecursion (λ byte. IsLetter byte ⊎ IsDigit byte) word →
    list_all is_name_byte word ≡ true
bytes_again [] h = refl
bytes_again (b ∷ bs) h = and_true (is_name_byte b) (list_all is_name_byte bs) (byte_again b h.0) (bytes_again bs h.1)

guarded : (g r : Bool) → cond g false r ≡ true → (g ≡ false) × (r ≡ true)
guarded true r e = absurd cc
guarded false r e = (refl, e)

three : (a b c : Bool) → (a && b && not c) ≡ true → (a ≡ true) × (b ≡ true) × (c ≡ false)
three true true false e = (refl, refl, refl)
three true true true e = absurd cc
three true false c e = absurd cc
three false b c e = absurd cc

none_of : (a b c d : Bool) → (a || b || c || d) ≡ false → (a ≡ false) × (b ≡ false) × (c ≡ false) × (d ≡ false)
none_of false false false false e = (refl, refl, refl, refl)
none_of true b c d e = absurd cc
none_of false true c d e = absurd cc
none_of false false true d e = absurd cc
none_of false false false true e = absurd cc

no_reserved : (o : Option BasicType) → ((x : BasicType) → is_float x ≡ false → o ≡ Some x → ⊥) →
    is_reserved_type o ≡ false
no_reserved None h = refl
no_reserved (Some x) h = go (is_float x) refl
  where
    go : (t : Bool) → is_float x ≡ t → not t ≡ false
    go true e = refl
    go false e = absurd (h x e refl)

pub is_nothing : {A : Type 0} (o : Option A) → ((x : A) → o ≡ Some x → ⊥) → o ≡ None
is_nothing None h = refl
is_nothing (Some x) h = absurd (h x refl)

not_reserved : (o : Option BasicType) (x : BasicType) → is_reserved_type o ≡ false → is_float x ≡ false → o ≡ Some x → ⊥
not_reserved o x e f is = false≢true (sym e ∙ (ap is_reserved_type is ∙ ap not f))

pub name_takes : (word : Word) → is_name word ≡ true → IsName word
unfolding is_name is_reserved
name_takes word e =
    let t : Bool = is_reserved_type (basic_type_of word) in
    let reserved : Bool = bytes_eq word (codes "world") || bytes_eq word (codes "self") || bytes_eq word (codes "null") || t in
    let g = guarded (eqb (length word) 0 || ltb 16 (length word)) (is_letter (get_or word 0 0) && list_all is_name_byte word && not reserved) e in
    let n = neither (eqb (length word) 0) (ltb 16 (length word)) g.0 in
    let p = three (is_letter (get_or word 0 0)) (list_all is_name_byte word) reserved g.1 in
    let r = none_of (bytes_eq word (codes "world")) (bytes_eq word (codes "self")) (bytes_eq word (codes "null")) t p.2 in
    record {
      some = λ h. false≢true (sym n.0 ∙ ap (λ (w : Word). eqb (length w) 0) h);
      short = ltb-false _ _ n.1;
      first = letter_takes (get_or word 0 0) p.0;
      each = bytes_take word p.1;
      not_world = differs word (codes "world") r.0;
      not_self = differs word (codes "self") r.1;
      not_null = differs word (codes "null") r.2;
      no_type = λ basic f h. not_reserved (basic_type_of word) basic r.3 f (ap basic_type_of h ∙ type_again basic);
    }

pub name_again : (word : Word) → IsName word → is_name word ≡ true
unfolding is_name is_reserved
name_again word h =
    let t0 : eqb (length word) 0 ≡ false = some_long word h.some in
    let t1 : ltb 16 (length word) ≡ false = le-ltb 16 (length word) h.short in
    let t2 : is_letter (get_or word 0 0) ≡ true = letter_again (get_or word 0 0) h.first in
    let t3 : list_all is_name_byte word ≡ true = bytes_again word h.each in
    let t4 : bytes_eq word (codes "world") ≡ false = other_word word (codes "world") h.not_world in
    let t5 : bytes_eq word (codes "self") ≡ false = other_word word (codes "self") h.not_self in
    let t6 : bytes_eq word (codes "null") ≡ false = other_word word (codes "null") h.not_null in
    let t7 : is_reserved_type (basic_type_of word) ≡ false = no_reserved (basic_type_of word) (λ basic f e. h.no_type basic f (type_takes word basic e)) in
    rw (t0, t1, t2, t3, t4, t5, t6, t7) refl
