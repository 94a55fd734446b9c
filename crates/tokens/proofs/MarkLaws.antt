-- A word that is cut at a mark, which no digit is.
use Rattle.std.proofs.Common.{◌≡◌, ℕ, ◌+◌, Bool, true, false, eqb, ltb, [], ◌∷◌, ◌++◌, length, get_or, take, drop, Some}
use Rattle.std.proofs.Common.{None, refl, sym, ap, ◌∙◌, arith}
use Rattle.std.specs.Prelude.{◌&&◌}
use Rattle.std.specs.List.{position, position_or_len, AllByRecursion}
use Rattle.std.specs.Char.{is_ascii_digit}
use Rattle.std.specs.Str.{all_ascii_digits}
use Rattle.std.proofs.lemmas.Bool.{eqb-true, eq-eqb, lt-ltb, le-ltb, false≢true}
use Rattle.std.proofs.lemmas.List.{at_drop_more, drop-drop, take-append-drop, length-append}
use Rattle.std.proofs.lemmas.List.Quantifiers.{position-Some}
use Rattle.tokens.specs.Grammar.{Word}
use Rattle.tokens.proofs.WordLaws.{no_test}

abbrev pub is_mark : ℕ → ℕ → Bool
is_mark mark byte = eqb byte mark

-- the word in front of the mark, the mark, and the word behind it
pub mark_here : (mark : ℕ) (word : Word) (i : ℕ) → position (is_mark mark) word ≡ Some i →
    word ≡ take i word ++ mark ∷ drop 1 (drop i word)
mark_here mark word i e =
    let p = position-Some (is_mark mark) word i 0 e in
    let found : get_or word i 0 ≡ mark = eqb-true (get_or word i 0) mark p.1 in
    sym (take-append-drop i word) ∙ at_drop_more (λ (ws : Word). take i word ++ ws) word i 0 p.0
    ∙ ap (λ (b : ℕ). take i word ++ b ∷ drop (i + 1) word) found ∙
    ap (λ (ws : Word). take i word ++ mark ∷ ws) (sym (drop-drop 1 i word))

abbrev pub HasNo : ℕ → Word → Type 0
HasNo mark word = AllByRecursion (λ b. is_mark mark b ≡ false) word

both : (a b : Bool) → (a && b) ≡ true → (a ≡ true) × (b ≡ true)
both true b e = (refl, e)
both false b e = absurd cc

pub digits_plain : (mark : ℕ) (word : Word) → is_ascii_digit mark ≡ false → all_ascii_digits word ≡ true →
    HasNo mark word
digits_plain mark [] no_digit e = tt
digits_plain mark (b ∷ bs) no_digit e =
    let p = both (is_ascii_digit b) (all_ascii_digits bs) e in (
      no_test (eqb b mark) (λ f. false≢true (sym no_digit ∙ ap is_ascii_digit (sym (eqb-true b mark f)) ∙ p.0)),
      digits_plain mark bs no_digit p.1,
    )

plain_length : (mark : ℕ) (word : Word) → HasNo mark word → position_or_len (is_mark mark) word ≡ length word
plain_length mark [] h = refl
plain_length mark (b ∷ bs) h =
    let t : eqb b mark ≡ false = h.0 in let rest = plain_length mark bs h.1 in
    let e : 1 + position_or_len (is_mark mark) bs ≡ length (b ∷ bs) = omega (arith, rest) in rw t e

same_byte : (n : ℕ) → eqb n n ≡ true
same_byte n = eq-eqb n n refl

mark_length : (mark : ℕ) (front rest : Word) → HasNo mark front →
    position_or_len (is_mark mark) (front ++ mark ∷ rest) ≡ length front
mark_length mark [] rest h = rw (same_byte mark) refl
mark_length mark (b ∷ bs) rest h =
    let t : eqb b mark ≡ false = h.0 in let more = mark_length mark bs rest h.1 in
    let e : 1 + position_or_len (is_mark mark) (bs ++ mark ∷ rest) ≡ length (b ∷ bs) = omega (arith, more) in rw t e

pub no_place : (mark : ℕ) (word : Word) → HasNo mark word → position (is_mark mark) word ≡ None
no_place mark word h = let t : ltb (position_or_len (is_mark mark) word) (length word) ≡ false = le-ltb _ _ (omega (arith, plain_length mark word h)) in rw t refl

pub a_place : (mark : ℕ) (front rest : Word) → HasNo mark front → position (is_mark mark) (front ++ mark ∷ rest) ≡
    Some (length front)
a_place mark front rest h =
    let t : ltb (position_or_len (is_mark mark) (front ++ mark ∷ rest)) (length (front ++ mark ∷ rest)) ≡ true = lt-ltb _ _ (omega (arith, mark_length mark front rest h, length-append front (mark ∷ rest))) in
    rw t (ap (λ (n : ℕ). Some n) (mark_length mark front rest h))

pub take_front : (front rest : Word) → take (length front) (front ++ rest) ≡ front
take_front [] rest = refl
take_front (b ∷ bs) rest = ap (λ (w : Word). b ∷ w) (take_front bs rest)

pub drop_front : (front rest : Word) → drop (length front) (front ++ rest) ≡ rest
drop_front [] rest = refl
drop_front (b ∷ bs) rest = drop_front bs rest
