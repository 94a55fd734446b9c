-- The elements of a buffer: reading and the grammar agree.
use Rattle.std.proofs.Common.{◌≡◌, ℕ, zero, suc, ◌+◌, ◌-◌, ◌/◌, ◌<◌, ◌≤◌, Bool, true, false, cond, eqb, leb, ltb, List}
use Rattle.std.proofs.Common.{[], ◌∷◌, ◌++◌, length, get_or, take, drop, replicate, Option, Some, None, refl, sym, ap}
use Rattle.std.proofs.Common.{subst, ◌∙◌, arith, inl, inr}
use Rattle.std.specs.Prelude.{◌⊎◌, ◌&&◌, not, is_some, option_map, to_bits}
use Rattle.std.specs.Float.Ieee.{Float, binary32, binary64}
use Rattle.fast_float.specs.Parse.{parse_float}
use Rattle.std.specs.List.{position, position_or_len}
use Rattle.std.specs.Char.{is_ascii_digit}
use Rattle.std.specs.Str.{all_ascii_digits}
use Rattle.std.proofs.lemmas.Bool.{eqb-true, eq-eqb, ltb-true, ltb-false, leb-true, le-leb, lt-ltb, false≢true}
use Rattle.vocabulary.specs.BasicTypes.{is_float}
use Rattle.vocabulary.specs.declared.basic_type.BasicType.{BasicType}
use Rattle.vocabulary.specs.declared.basic_type.BasicType.TheVariants.{Int8, Int16, Int32, Int64, Uint8, Uint16, Uint32}
use Rattle.vocabulary.specs.declared.basic_type.BasicType.TheVariants.{Uint64, Byte, Float32, Float64}
use Rattle.datatypes.specs.Elements.{has_sign, numbers_of, number_of_value}
use Rattle.statements.specs.Grammar.{IsAbove, IsFloat, IsValue, AreValues, AreElements, format_of}
use Rattle.tokens.specs.Grammar.{Word, IsNumeral}
use Rattle.tokens.specs.Numbers.{number_up_to, count_of}
use Rattle.tokens.specs.Results.{◌>>=◌}
use Rattle.statements.specs.LineWords.{value_of, is_star, copies_of, copies_at, elements_of, float_of, integer_of}
use Rattle.tokens.specs.Fields.{each}
use Rattle.tokens.proofs.MarkLaws.{mark_here, HasNo, digits_plain, no_place, a_place, take_front, drop_front}
use Rattle.tokens.proofs.WordLaws.{bind_ok, made, pick, no_test, count_takes, count_again, bounded_takes, bounded_again}

positive : (m : ℕ) → eqb m 0 ≡ false → 0 < m
positive zero e = absurd cc
positive (suc m) e = omega arith

-- ---- one value

below_takes : (N m n : ℕ) (sign : Bool) →
    cond sign (cond (eqb m 0) (Some 0) (cond (leb m (N / 2)) (Some (N - m)) None)) None ≡ Some n
    → (sign ≡ true) × (m ≤ N / 2) × (((m ≡ 0) × (n ≡ 0)) ⊎ ((0 < m) × (n + m ≡ N)))
below_takes N m n sign e =
    let P : ℕ → Type 0 = λ n. (sign ≡ true) × (m ≤ N / 2) × (((m ≡ 0) × (n ≡ 0)) ⊎ ((0 < m) × (n + m ≡ N))) in
    pick P sign (cond (eqb m 0) (Some 0) (cond (leb m (N / 2)) (Some (N - m)) None)) None n
    (λ s f. pick P (eqb m 0) (Some 0) (cond (leb m (N / 2)) (Some (N - m)) None) n
    (λ z g. let is : m ≡ 0 = eqb-true m 0 z in made P 0 n (s, omega arith, inl (is, refl)) g)
    (λ z g. pick P (leb m (N / 2)) (Some (N - m)) None n
    (λ l k. let le : m ≤ N / 2 = leb-true _ _ l in let whole : N - m + m ≡ N = omega arith in made P (N - m) n
    (s, le, inr (positive m z, whole)) k)
    (λ _ k. absurd cc) g) f)
    (λ _ f. absurd cc) e

above_takes : (bound m n : ℕ) → cond (ltb m bound) (Some m) None ≡ Some n → (m ≡ n) × (m < bound)
above_takes bound m n e =
    let P : ℕ → Type 0 = λ n. (m ≡ n) × (m < bound) in
    pick P (ltb m bound) (Some m) None n (λ l f. made P m n (refl, ltb-true m bound l) f) (λ _ f. absurd cc) e

pub dash_front : (word : Word) → get_or word 0 0 ≡ 45 → word ≡ 45 ∷ drop 1 word
dash_front [] e = absurd cc
dash_front (b ∷ bs) e = ap (λ (x : ℕ). x ∷ bs) e

-- what is no mark's place has no mark
no_mark : (word : Word) → length word ≤ position_or_len is_star word → HasNo 42 word
no_mark [] le = tt
no_mark (b ∷ bs) le = go (is_star b) refl le (λ h. no_mark bs h)
  where
    go : (t : Bool) → is_star b ≡ t → suc (length bs) ≤ cond (not t) (1 + position_or_len is_star bs) 0 →
        (length bs ≤ position_or_len is_star bs → HasNo 42 bs) → (is_star b ≡ false) × HasNo 42 bs
    go true e le rest = absurd (omega (arith, le))
    go false e le rest = (e, rest (omega (arith, le)))

place_none : (word : Word) → position is_star word ≡ None → HasNo 42 word
place_none word e = no_mark word (ltb-false _ _ (go (ltb (position_or_len is_star word) (length word)) e))
  where
    go : (t : Bool) → cond t (Some (position_or_len is_star word)) None ≡ None → t ≡ false
    go true e = absurd cc
    go false e = refl

mapped : (f : Float → ℕ) (o : Option Float) (n : ℕ) → option_map f o ≡ Some n → (x : Float) × (o ≡ Some x) × (f x ≡ n)
mapped f None n e = absurd cc
mapped f (Some x) n e = (x, refl, cc)

-- a float in a format
in_format : (basic : BasicType) (word : Word) (n : ℕ) (o : Option ℕ) → is_float basic ≡ true →
    position is_star word ≡ o →
    cond (is_some o) None (option_map (to_bits (format_of basic)) (parse_float (format_of basic) word)) ≡ Some n →
    IsFloat basic word n
in_format basic word n (Some place) float is e = absurd cc
in_format basic word n None float is e =
    let m = mapped (to_bits (format_of basic)) (parse_float (format_of basic) word) n e in
    record { float = float; plain = place_none word is; value = m.0; says = m.1; number_is = m.2 }

float_takes : (basic : BasicType) (word : Word) (n : ℕ) → float_of basic word ≡ Some n → IsFloat basic word n
float_takes Float32 word n e = in_format Float32 word n (position is_star word) refl refl e
float_takes Float64 word n e = in_format Float64 word n (position is_star word) refl refl e
float_takes Int8 word n e = absurd cc
float_takes Int16 word n e = absurd cc
float_takes Int32 word n e = absurd cc
float_takes Int64 word n e = absurd cc
float_takes Uint8 word n e = absurd cc
float_takes Uint16 word n e = absurd cc
float_takes Uint32 word n e = absurd cc
float_takes Uint64 word n e = absurd cc
float_takes Byte word n e = absurd cc

integer_takes : (basic : BasicType) (word : Word) (n : ℕ) → is_float basic ≡ false → integer_of basic word ≡ Some n →
    IsValue basic word n
unfolding number_of_value
integer_takes basic word n whole e =
    pick (IsValue basic word) (eqb (get_or word 0 0) 45) _ _ n
    (λ t f.
    let b = bind_ok (number_up_to 18446744073709551615 (drop 1 word)) (λ magnitude. number_of_value basic true magnitude) n f in
    let p = bounded_takes 18446744073709551615 (drop 1 word) b.0 b.1 in
    let q = below_takes (numbers_of basic) b.0 n (has_sign basic) b.2 in
    inl (record {
      digits = drop 1 word;
      magnitude = b.0;
      spelled = dash_front word (eqb-true (get_or word 0 0) 45 t);
      numeral = p.0;
      signed = q.0;
      range = q.1;
      number_is = q.2;
    }))
    (λ t f.
    let b = bind_ok (number_up_to 18446744073709551615 word) (λ magnitude. number_of_value basic false magnitude) n f in
    let p = bounded_takes 18446744073709551615 word b.0 b.1 in
    let q = above_takes (cond (has_sign basic) (numbers_of basic / 2) (numbers_of basic)) b.0 n b.2 in
    inr (inl (subst (λ (m : ℕ). IsAbove basic word m) q.0 (record { no_float = whole; numeral = p.0; range = q.1 }))))
    e

value_takes : (basic : BasicType) (word : Word) (n : ℕ) → value_of basic word ≡ Some n → IsValue basic word n
unfolding value_of
value_takes basic word n e =
    pick (IsValue basic word) (is_float basic) (float_of basic word) (integer_of basic word) n
    (λ t f. inr (inr (float_takes basic word n f))) (λ t f. integer_takes basic word n t f) e

-- ---- copies

copies_take : (basic : BasicType) (word : Word) (o : Option ℕ) (c : ℕ × ℕ) → position is_star word ≡ o →
    copies_at o basic word ≡ Some c → AreValues basic word (replicate c.0 c.1)
copies_take basic word None c is e =
    let b = bind_ok (value_of basic word) (λ number. Some (1, number)) c e in
    made (λ (c : ℕ × ℕ). AreValues basic word (replicate c.0 c.1)) (1, b.0) c
    (inl (b.0, value_takes basic word b.0 b.1, refl)) b.2
copies_take basic word (Some i) c is e =
    let b = bind_ok (value_of basic (drop 1 (drop i word))) (λ number. count_of (take i word) >>= λ count. Some (count, number)) c e in
    let a = bind_ok (count_of (take i word)) (λ count. Some (count, b.0)) c b.2 in
    made (λ (c : ℕ × ℕ). AreValues basic word (replicate c.0 c.1)) (a.0, b.0) c
    (inr (record {
      count_word = take i word;
      value_word = drop 1 (drop i word);
      count = a.0;
      number = b.0;
      spelled =
          mark_here 42 word i is;
      counted = count_takes (take i word) a.0 a.1;
      value =
          value_takes basic (drop 1 (drop i word)) b.0 b.1;
      copies = refl;
    }))
    a.2

values_take : (basic : BasicType) (word : Word) (ns : List ℕ) → elements_of basic word ≡ Some ns →
    AreValues basic word ns
unfolding copies_of
values_take basic word ns e =
    let b = bind_ok (copies_of basic word) (λ copies. Some (replicate copies.0 copies.1)) ns e in
    made (AreValues basic word) (replicate b.0.0 b.0.1) ns (copies_take basic word (position is_star word) b.0 refl b.1)
    b.2

-- ---- values are read again

numbers_fit : (basic : BasicType) → numbers_of basic ≤ 18446744073709551616
numbers_fit Int8 = omega arith
numbers_fit Int16 = omega arith
numbers_fit Int32 = omega arith
numbers_fit Int64 = omega arith
numbers_fit Uint8 = omega arith
numbers_fit Uint16 = omega arith
numbers_fit Uint32 = omega arith
numbers_fit Uint64 = omega arith
numbers_fit Byte = omega arith
numbers_fit Float32 = omega arith
numbers_fit Float64 = omega arith

below_again : (N m n : ℕ) (sign : Bool) → sign ≡ true → m ≤ N / 2 → ((m ≡ 0) × (n ≡ 0)) ⊎ ((0 < m) × (n + m ≡ N)) →
    cond sign (cond (eqb m 0) (Some 0) (cond (leb m (N / 2)) (Some (N - m)) None)) None ≡ Some n
below_again N m n sign s le (inl h) =
    let t : eqb m 0 ≡ true = eq-eqb m 0 h.0 in rw (s, t) (ap (λ (k : ℕ). Some k) (sym h.1))
below_again N m n sign s le (inr h) =
    let t : eqb m 0 ≡ false = no_test (eqb m 0) (λ e. let z : m ≡ 0 = eqb-true m 0 e in omega (arith, h.0)) in
    let l : leb m (N / 2) ≡ true = le-leb _ _ le in
    let is : N - m ≡ n = omega (arith, h.1) in
    rw (s, t, l) (ap (λ (k : ℕ). Some k) is)

both : (a b : Bool) → (a && b) ≡ true → (a ≡ true) × (b ≡ true)
both true b e = (refl, e)
both false b e = absurd cc

pub digit_front : (word : Word) (n : ℕ) → IsNumeral word n → eqb (get_or word 0 0) 45 ≡ false
digit_front [] n h = absurd (h.some refl)
digit_front (b ∷ bs) n h =
    no_test (eqb b 45)
    (λ e. let d : is_ascii_digit b ≡ true = (both (is_ascii_digit b) (all_ascii_digits bs) h.digits).0 in false≢true
    (ap is_ascii_digit (sym (eqb-true b 45 e)) ∙ d))

dashed_is : (basic : BasicType) (digits : Word) (m n : ℕ) → number_up_to 18446744073709551615 digits ≡ Some m →
    number_of_value basic true m ≡ Some n → integer_of basic (45 ∷ digits) ≡ Some n
dashed_is basic digits m n e f = rw e f

plain_is : (basic : BasicType) (word : Word) (n : ℕ) → eqb (get_or word 0 0) 45 ≡ false →
    number_up_to 18446744073709551615 word ≡ Some n → number_of_value basic false n ≡ Some n →
    integer_of basic word ≡ Some n
plain_is basic word n t e f = rw (t, e) f

below_value : (basic : BasicType) (m n : ℕ) → has_sign basic ≡ true → m ≤ numbers_of basic / 2 →
    ((m ≡ 0) × (n ≡ 0)) ⊎ ((0 < m) × (n + m ≡ numbers_of basic)) → number_of_value basic true m ≡ Some n
unfolding number_of_value
below_value basic m n s le h = below_again (numbers_of basic) m n (has_sign basic) s le h

above_value : (basic : BasicType) (n : ℕ) → n < cond (has_sign basic) (numbers_of basic / 2) (numbers_of basic) →
    number_of_value basic false n ≡ Some n
unfolding number_of_value
above_value basic n lt =
    let t : ltb n (cond (has_sign basic) (numbers_of basic / 2) (numbers_of basic)) ≡ true = lt-ltb _ _ lt in rw t refl

bound_fits : (N : ℕ) (sign : Bool) → N ≤ 18446744073709551616 → cond sign (N / 2) N ≤ 18446744073709551616
bound_fits N true le = omega arith
bound_fits N false le = le

-- a type with a sign is no float's
signed_whole : (basic : BasicType) → has_sign basic ≡ true → is_float basic ≡ false
signed_whole Int8 h = refl
signed_whole Int16 h = refl
signed_whole Int32 h = refl
signed_whole Int64 h = refl
signed_whole Uint8 h = refl
signed_whole Uint16 h = refl
signed_whole Uint32 h = refl
signed_whole Uint64 h = refl
signed_whole Byte h = refl
signed_whole Float32 h = absurd cc
signed_whole Float64 h = absurd cc

whole_value : (basic : BasicType) (word : Word) (n : ℕ) → is_float basic ≡ false → integer_of basic word ≡ Some n →
    value_of basic word ≡ Some n
unfolding value_of
whole_value basic word n whole e = ap (λ (t : Bool). cond t (float_of basic word) (integer_of basic word)) whole ∙ e

float_again : (basic : BasicType) (word : Word) (n : ℕ) → IsFloat basic word n → float_of basic word ≡ Some n
float_again Float32 word n h =
    let p : position is_star word ≡ None = no_place 42 word h.plain in
    let s : parse_float binary32 word ≡ Some h.value = h.says in
    rw (p, s) (ap (λ (k : ℕ). Some k) h.number_is)
float_again Float64 word n h =
    let p : position is_star word ≡ None = no_place 42 word h.plain in
    let s : parse_float binary64 word ≡ Some h.value = h.says in
    rw (p, s) (ap (λ (k : ℕ). Some k) h.number_is)
float_again Int8 word n h = absurd (let z : false ≡ true = h.float in cc)
float_again Int16 word n h = absurd (let z : false ≡ true = h.float in cc)
float_again Int32 word n h = absurd (let z : false ≡ true = h.float in cc)
float_again Int64 word n h = absurd (let z : false ≡ true = h.float in cc)
float_again Uint8 word n h = absurd (let z : false ≡ true = h.float in cc)
float_again Uint16 word n h = absurd (let z : false ≡ true = h.float in cc)
float_again Uint32 word n h = absurd (let z : false ≡ true = h.float in cc)
float_again Uint64 word n h = absurd (let z : false ≡ true = h.float in cc)
float_again Byte word n h = absurd (let z : false ≡ true = h.float in cc)

float_value : (basic : BasicType) (word : Word) (n : ℕ) → IsFloat basic word n → value_of basic word ≡ Some n
unfolding value_of
float_value basic word n h =
    ap (λ (t : Bool). cond t (float_of basic word) (integer_of basic word)) h.float ∙ float_again basic word n h

value_again : (basic : BasicType) (word : Word) (n : ℕ) → IsValue basic word n → value_of basic word ≡ Some n
value_again basic word n (inl h) =
    let fits : h.magnitude ≤ 18446744073709551615 = omega (arith, h.range, numbers_fit basic) in
    ap (value_of basic) h.spelled
    ∙ whole_value basic (45 ∷ h.digits) n (signed_whole basic h.signed)
    (dashed_is basic h.digits h.magnitude n (bounded_again 18446744073709551615 h.digits h.magnitude h.numeral fits)
    (below_value basic h.magnitude n h.signed h.range h.number_is))
value_again basic word n (inr (inr h)) = float_value basic word n h
value_again basic word n (inr (inl h)) =
    let fits : n ≤ 18446744073709551615 = omega (arith, h.range, bound_fits (numbers_of basic) (has_sign basic) (numbers_fit basic)) in
    whole_value basic word n h.no_float
    (plain_is basic word n (digit_front word n h.numeral) (bounded_again 18446744073709551615 word n h.numeral fits)
    (above_value basic n h.range))

-- ---- copies are read again

value_plain : (basic : BasicType) (word : Word) (n : ℕ) → IsValue basic word n → HasNo 42 word
value_plain basic word n (inl h) =
    subst (HasNo 42) (sym h.spelled) (refl, digits_plain 42 h.digits refl h.numeral.digits)
value_plain basic word n (inr (inl h)) = digits_plain 42 word refl h.numeral.digits
value_plain basic word n (inr (inr h)) = h.plain

one_copy : (basic : BasicType) (word : Word) (n : ℕ) → position is_star word ≡ None → value_of basic word ≡ Some n →
    copies_of basic word ≡ Some (1, n)
unfolding copies_of
one_copy basic word n p e = rw (p, e) refl

more_copies : (basic : BasicType) (word front rest : Word) (i c n : ℕ) → position is_star word ≡ Some i →
    take i word ≡ front → drop 1 (drop i word) ≡ rest → count_of front ≡ Some c → value_of basic rest ≡ Some n →
    copies_of basic word ≡ Some (c, n)
unfolding copies_of
more_copies basic word front rest i c n p t d k v =
    let k0 : count_of (take i word) ≡ Some c = ap count_of t ∙ k in
    let v0 : value_of basic (drop 1 (drop i word)) ≡ Some n = ap (value_of basic) d ∙ v in
    rw (p, k0, v0) refl

copies_are : (basic : BasicType) (word : Word) (c n : ℕ) (ns : List ℕ) → copies_of basic word ≡ Some (c, n) →
    ns ≡ replicate c n → elements_of basic word ≡ Some ns
copies_are basic word c n ns e is = rw e (ap (λ (x : List ℕ). Some x) (sym is))

values_again : (basic : BasicType) (word : Word) (ns : List ℕ) → AreValues basic word ns →
    elements_of basic word ≡ Some ns
values_again basic word ns (inl h) =
    copies_are basic word 1 h.0 ns
    (one_copy basic word h.0 (no_place 42 word (value_plain basic word h.0 h.1)) (value_again basic word h.0 h.1)) h.2
values_again basic word ns (inr h) =
    let spelled : Word = h.count_word ++ 42 ∷ h.value_word in
    let plain = digits_plain 42 h.count_word refl h.counted.digits in
    let there : copies_of basic spelled ≡ Some (h.count, h.number) =
    more_copies basic spelled h.count_word h.value_word (length h.count_word) h.count h.number
    (a_place 42 h.count_word h.value_word plain) (take_front h.count_word (42 ∷ h.value_word))
    (ap (drop 1) (drop_front h.count_word (42 ∷ h.value_word)))
    (count_again h.count_word h.count h.counted) (value_again basic h.value_word h.number h.value) in
    copies_are basic word h.count h.number ns (ap (copies_of basic) h.spelled ∙ there) h.copies

pub elements_take : (basic : BasicType) (words : List Word) (ns : List ℕ) → each (elements_of basic) words ≡ Some ns →
    AreElements basic words ns
unfolding each
elements_take basic [] ns e = made (λ (x : List ℕ). x ≡ []) [] ns refl e
elements_take basic (w ∷ ws) ns e =
    let a = bind_ok (elements_of basic w) (λ front. each (elements_of basic) ws >>= λ rest. Some (front ++ rest)) ns e in
    let b = bind_ok (each (elements_of basic) ws) (λ rest. Some (a.0 ++ rest)) ns a.2 in (
      a.0,
      b.0,
      values_take basic w a.0 a.1,
      elements_take basic ws b.0 b.1,
      made (λ (x : List ℕ). x ≡ a.0 ++ b.0) (a.0 ++ b.0) ns refl b.2,
    )

pub elements_again : (basic : BasicType) (words : List Word) (ns : List ℕ) → AreElements basic words ns →
    each (elements_of basic) words ≡ Some ns
unfolding each
elements_again basic [] ns h = ap (λ (x : List ℕ). Some x) (sym h)
elements_again basic (w ∷ ws) ns h =
    let t0 : elements_of basic w ≡ Some h.0 = values_again basic w h.0 h.2 in
    let t1 : each (elements_of basic) ws ≡ Some h.1 = elements_again basic ws h.1 h.3 in
    rw (t0, t1) (ap (λ (x : List ℕ). Some x) (sym h.4))
