-- Packing and unpacking are inverse.
use Rattle.std.proofs.Common.{◌≡◌, ℕ, zero, suc, ◌+◌, ◌-◌, ◌≤◌, ◌<◌, ◌||◌, refl, ◌∙◌, ap, Bool}
use Rattle.std.proofs.Common.{true, false, cond, None, Some, List, [], ◌∷◌, length, take, arith, eq-eqb}
use Rattle.std.specs.Prelude.{nat_lt}
use Rattle.std.proofs.Math.IntN.{ℤ, pos, negsuc}
use Rattle.std.proofs.lemmas.Bool.{eqb-true}
use Rattle.type_maps.specs.Maps.{Element}
use Rattle.type_maps.specs.Summaries.{size_of}
use Rattle.type_maps.specs.Packing.{Memory, is_same, packed, put, unpacked, is_among, IsApart, PackingHolds, one_more}
use Rattle.type_maps.specs.Packing.{elements_in, HaveBytes, ElementsAreCounted}

same_self : (x : ℤ) → is_same x x ≡ true
same_self (pos a) = eq-eqb a a refl
same_self (negsuc a) = eq-eqb a a refl

same_is : (x y : ℤ) → is_same x y ≡ true → x ≡ y
same_is (pos a) (pos b) h = ap pos (eqb-true a b h)
same_is (pos a) (negsuc b) h = absurd cc
same_is (negsuc a) (pos b) h = absurd cc
same_is (negsuc a) (negsuc b) h = ap negsuc (eqb-true a b h)

either_false : (a b : Bool) → (a || b) ≡ false → (a ≡ false) × (b ≡ false)
either_false true b h = absurd cc
either_false false b h = (refl, h)

untouched : (memory : Memory) (at : List ℤ) (bytes : List ℕ) (x : ℤ) → is_among x (take (length bytes) at) ≡ false →
    unpacked memory at bytes x ≡ memory x
untouched memory at [] x h = refl
untouched memory [] (b ∷ bs) x h = refl
untouched memory (y ∷ at) (b ∷ bs) x h =
    let parts = either_false (is_same y x) (is_among x (take (length bs) at)) h in
    untouched (put memory y b) at bs x parts.1 ∙ ap (λ t. cond t b (memory x)) parts.0

-- none among all is none among the first
none_first : (x : ℤ) (at : List ℤ) (n : ℕ) → is_among x at ≡ false → is_among x (take n at) ≡ false
none_first x at zero h = refl
none_first x [] (suc n) h = refl
none_first x (y ∷ at) (suc n) h =
    let parts = either_false (is_same y x) (is_among x at) h in
    (λ t. parts.0 t || none_first x at n parts.1 t)

round_trip : (memory : Memory) (at : List ℤ) (bytes : List ℕ) → IsApart at → length bytes ≡ length at →
    packed (unpacked memory at bytes) at ≡ bytes
round_trip memory [] [] apart same = refl
round_trip memory [] (b ∷ bs) apart same = absurd (omega arith)
round_trip memory (x ∷ at) [] apart same = absurd (omega arith)
round_trip memory (x ∷ at) (b ∷ bs) apart same = λ t. here t ∷ round_trip (put memory x b) at bs apart.1 fewer t
  where
    fewer : length bs ≡ length at
    fewer = omega arith

    here : unpacked (put memory x b) at bs x ≡ b
    here = untouched (put memory x b) at bs x (none_first x at (length bs) apart.0) ∙ ap (λ t. cond t b (memory x))
        (same_self x)

-- memory that is the same everywhere is so after a message, too
put_same : (m n : Memory) (y : ℤ) (b : ℕ) → ((x : ℤ) → m x ≡ n x) → (x : ℤ) → put m y b x ≡ put n y b x
put_same m n y b same x = ap (λ v. cond (is_same y x) b v) (same x)

unpacked_same : (m n : Memory) (at : List ℤ) (bytes : List ℕ) → ((x : ℤ) → m x ≡ n x) → (x : ℤ) →
    unpacked m at bytes x ≡ unpacked n at bytes x
unpacked_same m n at [] same x = same x
unpacked_same m n [] (b ∷ bs) same x = same x
unpacked_same m n (y ∷ at) (b ∷ bs) same x = unpacked_same (put m y b) (put n y b) at bs (put_same m n y b same) x

put_own : (memory : Memory) (y x : ℤ) → put memory y (memory y) x ≡ memory x
put_own memory y x = go (is_same y x) refl
  where
    go : (t : Bool) → is_same y x ≡ t → cond t (memory y) (memory x) ≡ memory x
    go true h = ap memory (same_is y x h)
    go false h = refl

back_again : (memory : Memory) (at : List ℤ) (x : ℤ) → unpacked memory at (packed memory at) x ≡ memory x
back_again memory [] x = refl
back_again memory (y ∷ at) x =
    unpacked_same (put memory y (memory y)) memory at (packed memory at) (put_own memory y) x ∙ back_again memory at x

pub packing_holds : PackingHolds
packing_holds = record { round = round_trip; others = untouched; again = back_again }

counted_on : (s r k : ℕ) (es : List Element) → 0 < s → elements_in r es ≡ Some k → (n : ℕ) → n ≡ s + r →
    (e : Element) → e.basic.size ≡ s → elements_in n (e ∷ es) ≡ Some (suc k)
counted_on s r k es some rest zero is e size = absurd (omega arith)
counted_on s r k es some rest (suc n) is e size =
    ap (λ t. cond t None (one_more (elements_in (suc n - e.basic.size) es))) enough ∙
    ap (λ j. one_more (elements_in j es)) left ∙ ap one_more rest
  where
    enough : nat_lt (suc n) e.basic.size ≡ false
    enough = grind arith

    left : suc n - e.basic.size ≡ r
    left = omega arith

counted : (es : List Element) (k : ℕ) → k ≤ length es → HaveBytes es → elements_in (size_of (take k es)) es ≡ Some k
counted es zero most have = refl
counted [] (suc k) most have = absurd (omega arith)
counted (e ∷ es) (suc k) most have =
    counted_on e.basic.size (size_of (take k es)) k es have.0 (counted es k fewer have.1)
    (e.basic.size + size_of (take k es)) refl e refl
  where
    fewer : k ≤ length es
    fewer = omega arith

pub elements_are_counted : ElementsAreCounted
elements_are_counted = record { whole = counted }
