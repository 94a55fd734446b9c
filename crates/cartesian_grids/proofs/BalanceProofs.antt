-- The most balanced factors.
use Rattle.std.proofs.Common.{◌≡◌, ◌<◌, ◌≤◌, ℕ, zero, suc, ◌+◌, ◌-◌, ◌*◌, ◌%◌, ◌/◌, ◌^◌, List, [], ◌∷◌, length}
use Rattle.std.proofs.Common.{refl, sym, ap, ◌∙◌, subst, arith, ◌⊎◌, inl, inr, take, drop, get_or}
use Rattle.std.proofs.Common.{◌++◌, set, append-nil}
use borrow.Rule.Slice.PartMut.{put_mid}
use Rattle.std.proofs.lemmas.Slice.{put_mid-paste}
use Rattle.std.proofs.Math.Seq.{take-length, drop-length}
use Rattle.std.proofs.lemmas.Nat.{mul-le, div-add-mod', div-mul-add}
use Rattle.std.proofs.Math.Nat.{mul-mod_right, pow-succ', pow-le-pow_left, pow-zero}
use Rattle.std.proofs.lemmas.Bool.{cases_lt}
use Rattle.cartesian_grids.specs.Grids.{product}
use Rattle.cartesian_grids.specs.Balance.{Balanced, Factors, IsFalling, IsNotAfter, filled, given, wanted}
use Rattle.cartesian_grids.proofs.GridProofs.{first_and_rest, rest}

-- FACTORS AND THE FIRST OF THEM

falling_power : (m : ℕ) (fs : List ℕ) → IsFalling m fs → product fs ≤ m ^ length fs
falling_power m [] h = omega (arith, pow-zero m)
falling_power m (f ∷ fs) h =
    let a : product fs ≤ f ^ length fs = falling_power f fs h.1 in
    let b : f ^ length fs ≤ m ^ length fs = pow-le-pow_left h.0 (length fs) in
    let c : f * product fs ≤ m * m ^ length fs = mul-le f (product fs) m (m ^ length fs) h.0 (omega (arith, a, b)) in
    let d : m ^ suc (length fs) ≡ m * m ^ length fs = pow-succ' m (length fs) in
    omega (arith, c, d)

pub first_divides : (n m k f : ℕ) (fs : List ℕ) → Factors n m k (f ∷ fs) → n % f ≡ 0
first_divides n m k f fs h = ap (λ x. x % f) (sym h.1) ∙ mul-mod_right f (product fs)

pub first_reaches : (n m k f : ℕ) (fs : List ℕ) → Factors n m k (f ∷ fs) → n ≤ f ^ k
first_reaches n m k f fs h =
    let a : product (f ∷ fs) ≤ f ^ length (f ∷ fs) = falling_power f (f ∷ fs) (omega arith, h.2.1) in
    let b : f ^ length (f ∷ fs) ≡ f ^ k = ap (λ x. f ^ x) h.0 in
    omega (arith, a, b, h.1)

pub first_some : (n m k f : ℕ) (fs : List ℕ) → 0 < n → Factors n m k (f ∷ fs) → 0 < f
first_some n m k zero fs some h = absurd (omega (arith, some, h.1))
first_some n m k (suc f) fs some h = omega arith

pub rest_factors : (n m k f : ℕ) (fs : List ℕ) → 0 < n → Factors n m (suc k) (f ∷ fs) → Factors (n / f) f k fs
rest_factors n m k f fs some h =
    let s : 0 < f = first_some n m (suc k) f fs some h in
    let e : n ≡ product fs * f + 0 = omega (arith, h.1) in
    let q : n / f ≡ product fs = ap (λ x. x / f) e ∙ div-mul-add (product fs) f 0 s in
    (omega (arith, h.0), sym q, h.2.1)

-- factors with one before them
with_first : (n m k f : ℕ) (fs : List ℕ) → n % f ≡ 0 → f ≤ m → Factors (n / f) f k fs → Factors n m (suc k) (f ∷ fs)
with_first n m k f fs d l h =
    let a : n / f * f + n % f ≡ n = div-add-mod' n f in
    let b : f * product fs ≡ f * (n / f) = ap (λ x. f * x) h.1 in
    let c : f * (n / f) ≡ n / f * f = omega arith in
    (omega (arith, h.0), omega (arith, a, b, c, d), (l, h.2))

pub first_of_balanced :
    (n m k f : ℕ) (fs : List ℕ) → 0 < n → n % f ≡ 0 → f ≤ m → Balanced (n / f) f k fs →
    ((g : ℕ) (gs : List ℕ) → g < f → Factors n m (suc k) (g ∷ gs) → ⊥) → Balanced n m (suc k) (f ∷ fs)
first_of_balanced n m k f fs some d l h tried = record { factors = with_first n m k f fs d l h.factors; least = least }
  where
    least : (gs : List ℕ) → Factors n m (suc k) gs → IsNotAfter (f ∷ fs) gs
    least [] e = absurd (omega (arith, e.0))
    least (g ∷ gs) e = go (cases_lt g f)
      where
        go : (g < f) ⊎ (f ≤ g) → IsNotAfter (f ∷ fs) (g ∷ gs)
        go (inl s) = absurd (tried g gs s e)
        go (inr s) = same (cases_lt f g)
          where
            same : (f < g) ⊎ (g ≤ f) → IsNotAfter (f ∷ fs) (g ∷ gs)
            same (inl t) = inl t
            same (inr t) =
                let q : g ≡ f = omega (arith, s, t) in
                let P : ℕ → Type 0 = λ x. Factors n m (suc k) (x ∷ gs) in
                inr (sym q, h.least gs (rest_factors n m k f gs some (subst P q e)))

-- WHAT IS FILLED

pub given_some : (ns : List ℕ) → 0 < product (given ns)
given_some [] = omega arith
given_some (zero ∷ ns) = given_some ns
given_some (suc n ∷ ns) = mul-le 1 1 (suc n) (product (given ns)) (omega arith) (given_some ns)

pub filled_product : (ns fs : List ℕ) → length fs ≡ wanted ns → product (filled ns fs) ≡ product (given ns) * product fs
filled_product [] [] h = refl
filled_product [] (f ∷ fs) h = absurd (omega (arith, h))
filled_product (zero ∷ ns) [] h = absurd (omega (arith, h))
filled_product (zero ∷ ns) (f ∷ fs) h =
    let a : product (filled ns fs) ≡ product (given ns) * product fs = filled_product ns fs (omega (arith, h)) in
    let b : f * product (filled ns fs) ≡ f * (product (given ns) * product fs) = ap (λ x. f * x) a in
    grind arith
filled_product (suc n ∷ ns) fs h =
    let a : product (filled ns fs) ≡ product (given ns) * product fs = filled_product ns fs h in
    let b : suc n * product (filled ns fs) ≡ suc n * (product (given ns) * product fs) = ap (λ x. suc n * x) a in
    grind arith

-- factors can be sorted: with the same product and as many

-- A LIST OF SIZES AND WHAT FOLLOWS ITS FIRST ONE

-- what a write to all behind the first one leaves
put_behind : (n : ℕ) (ms ys : List ℕ) → length ys ≡ length ms → put_mid 1 (length (n ∷ ms) - 1) (n ∷ ms) ys ≡ n ∷ ys
put_behind n ms ys h =
    let e : 1 + length ms ≡ length (n ∷ ms) = omega arith in
    put_mid-paste 1 (length (n ∷ ms) - 1) (n ∷ ms) ys ys (length ms) refl (omega arith) (sym h) ∙
    ap (λ k. n ∷ (take k ys ++ drop (1 + length ms) (n ∷ ms))) (sym h) ∙
    ap (λ zs. n ∷ (zs ++ drop (1 + length ms) (n ∷ ms))) (take-length ys) ∙
    ap (λ zs. n ∷ (ys ++ zs)) (ap (λ k. drop k (n ∷ ms)) e ∙ drop-length (n ∷ ms)) ∙
    ap (λ zs. n ∷ zs) (append-nil ys)

pub put_rest :
    (ns : List ℕ) (n : ℕ) (ys : List ℕ) → ns ≡ n ∷ rest ns → length ys ≡ length (rest ns) →
    put_mid 1 (length ns - 1) ns ys ≡ n ∷ ys
put_rest ns n ys e h =
    ap (λ x. put_mid 1 (length x - 1) x ys) e ∙ put_behind n (rest ns) ys h

pub zero_first : (ns : List ℕ) → (length ns ≡ 0 → ⊥) → get_or ns 0 0 ≡ 0 → ns ≡ 0 ∷ rest ns
zero_first ns h e =
    first_and_rest ns 0 (omega (arith, h)) ∙ ap (λ x. x ∷ rest ns) e

pub found_here :
    (ns now : List ℕ) (n m first times : ℕ) (ys : List ℕ) → (length ns ≡ 0 → ⊥) → get_or ns 0 0 ≡ 0 → now ≡ ns →
    length ys ≡ length (rest now) → 0 < n → n % first ≡ 0 → first ≤ m → times ≡ wanted ns →
    ((f : ℕ) (fs : List ℕ) → f < first → Factors n m times (f ∷ fs) → ⊥) →
    ((fs : List ℕ) × ((ys ≡ filled (rest now) fs) × Balanced (n / first) first (wanted (rest now)) fs)) →
    (fs : List ℕ) × ((set (put_mid 1 (length now - 1) now ys) 0 first ≡ filled ns fs) × Balanced n m (wanted ns) fs)
found_here ns now n m first times ys h z same l some d le t tried found =
    let e : ns ≡ 0 ∷ rest ns = zero_first ns h z in
    let r : rest now ≡ rest ns = ap rest same in
    let w : wanted ns ≡ suc (wanted (rest ns)) = ap wanted e in
    let v : times ≡ suc (wanted (rest ns)) = t ∙ w in
    let P : ℕ → Type 0 = λ k. Balanced n m k (first ∷ found.0) in
    let Q : List ℕ → Type 0 = λ xs. Balanced (n / first) first (wanted xs) found.0 in
    let T : ℕ → Type 0 = λ k. (f : ℕ) (fs : List ℕ) → f < first → Factors n m k (f ∷ fs) → ⊥ in
    let b : Balanced n m (suc (wanted (rest ns))) (first ∷ found.0) =
    first_of_balanced n m (wanted (rest ns)) first found.0 some d le (subst Q r found.1.1) (subst T v tried) in
    let p : put_mid 1 (length now - 1) now ys ≡ 0 ∷ ys =
    ap (λ x. put_mid 1 (length x - 1) x ys) same ∙ put_rest ns 0 ys e (l ∙ ap length r) in (
      first ∷ found.0,
      (
        ap (λ x. set x 0 first) p ∙ ap (λ x. first ∷ x) (found.1.0 ∙ ap (λ x. filled x found.0) r) ∙
            ap (λ x. filled x (first ∷ found.0)) (sym e),
        subst P (sym w) b,
      ),
    )

-- after a first factor that leads to none, and up to the next one
pub tried_next :
    (ns now : List ℕ) (n m first next times : ℕ) → (length ns ≡ 0 → ⊥) → get_or ns 0 0 ≡ 0 → now ≡ ns → 0 < n →
    times ≡ wanted ns →
    ((f : ℕ) (fs : List ℕ) → f < first → Factors n m times (f ∷ fs) → ⊥) →
    ((fs : List ℕ) → Factors (n / first) first (wanted (rest now)) fs → ⊥) →
    ((f : ℕ) → first + 1 ≤ f → f < next → n % f ≡ 0 → n ≤ f ^ times → ⊥) →
    (f : ℕ) (fs : List ℕ) → f < next → Factors n m times (f ∷ fs) → ⊥
tried_next ns now n m first next times h z same some t tried none passed f fs l x = go (cases_lt f first)
  where
    go : (f < first) ⊎ (first ≤ f) → ⊥
    go (inl s) = tried f fs s x
    go (inr s) = further (cases_lt first f)
      where
        e : ns ≡ 0 ∷ rest ns
        e = zero_first ns h z

        w : times ≡ suc (wanted (rest now))
        w = t ∙ ap wanted e ∙ ap (λ y. suc (wanted y)) (ap rest (sym same))

        further : (first < f) ⊎ (f ≤ first) → ⊥
        further (inl u) =
            passed f (omega (arith, u)) l (first_divides n m times f fs x) (first_reaches n m times f fs x)
        further (inr u) =
            let q : f ≡ first = omega (arith, s, u) in
            let P : ℕ → Type 0 = λ y. Factors n m times (y ∷ fs) in
            let R : ℕ → Type 0 = λ k. Factors n m k (first ∷ fs) in
            none fs (rest_factors n m (wanted (rest now)) first fs some (subst R w (subst P q x)))

-- the first factor to be tried
pub tried_first :
    (n m next times : ℕ) → 0 < n → ((f : ℕ) → 1 ≤ f → f < next → n % f ≡ 0 → n ≤ f ^ times → ⊥) →
    (f : ℕ) (fs : List ℕ) → f < next → Factors n m times (f ∷ fs) → ⊥
tried_first n m next times some passed f fs l x =
    passed f (first_some n m times f fs some x) l (first_divides n m times f fs x) (first_reaches n m times f fs x)

-- none is left
pub all_tried :
    (ns : List ℕ) (n m first times : ℕ) → (length ns ≡ 0 → ⊥) → get_or ns 0 0 ≡ 0 → times ≡ wanted ns → m < first →
    ((f : ℕ) (fs : List ℕ) → f < first → Factors n m times (f ∷ fs) → ⊥) →
    (fs : List ℕ) → Factors n m (wanted ns) fs → ⊥
all_tried ns n m first times h z t l tried [] x =
    let w : wanted ns ≡ suc (wanted (rest ns)) = ap wanted (zero_first ns h z) in omega (arith, w, x.0)
all_tried ns n m first times h z t l tried (f ∷ fs) x =
    let R : ℕ → Type 0 = λ k. Factors n m k (f ∷ fs) in
    tried f fs (omega (arith, l, x.2.0)) (subst R (sym t) x)

pub put_back :
    (ns ys : List ℕ) → (length ns ≡ 0 → ⊥) → ys ≡ rest ns → put_mid 1 (length ns - 1) ns ys ≡ ns
put_back ns ys h e =
    let f = first_and_rest ns 0 (omega (arith, h)) in
    put_rest ns (get_or ns 0 0) ys f (ap length e) ∙ ap (λ x. get_or ns 0 0 ∷ x) e ∙ sym f

-- SIZES FOR A NUMBER OF NODES

ones : ℕ → List ℕ
ones zero = []
ones (suc k) = 1 ∷ ones k

unfold_ones : (k : ℕ) → (m : ℕ) → 1 ≤ m → Factors 1 m k (ones k)
unfolding ones
unfold_ones zero m h = (refl, refl, tt)
unfold_ones (suc k) m h =
    let r = unfold_ones k 1 (omega arith) in (ap suc r.0, omega (arith, r.1), (h, r.2))

-- a number is a factor of itself
some_factors : (n m k : ℕ) → 0 < n → n ≤ m → (fs : List ℕ) × Factors n m (suc k) fs
some_factors n m k some l =
    let r = unfold_ones k n some in
    let e : n * product (ones k) ≡ n * 1 = ap (λ x. n * x) r.1 in
    (n ∷ ones k, (ap suc r.0, omega (arith, e), (l, r.2)))

-- where some sizes do there are factors
sizes_to_factors :
    (n m k : ℕ) (fs : List ℕ) → 0 < n → n ≤ m → length fs ≡ k → product fs ≡ n → (gs : List ℕ) × Factors n m k gs
sizes_to_factors n m zero [] some l h e = ([], (refl, e, tt))
sizes_to_factors n m zero (f ∷ fs) some l h e = absurd (omega (arith, h))
sizes_to_factors n m (suc k) fs some l h e = some_factors n m k some l

quotient_is : (n g p : ℕ) → 0 < g → g * p ≡ n → n / g ≡ p
quotient_is n g p some e =
    let f : n ≡ p * g + 0 = omega (arith, e) in ap (λ x. x / g) f ∙ div-mul-add p g 0 some

pub refused_above :
    (ns fs : List ℕ) (n : ℕ) → 0 < n → n < product (given ns) → length fs ≡ wanted ns → product (filled ns fs) ≡ n → ⊥
refused_above ns fs n some l h e = go (product fs) refl
  where
    a : product (filled ns fs) ≡ product (given ns) * product fs
    a = filled_product ns fs h

    go : (p : ℕ) → product fs ≡ p → ⊥
    go zero q = let b : product (given ns) * product fs ≡ product (given ns) * 0 = ap (λ x. product (given ns) * x) q in
        omega (arith, a, b, e, some)
    go (suc p) q =
        let b : product (given ns) * product fs ≡ product (given ns) * suc p = ap (λ x. product (given ns) * x) q in
        let d : product (given ns) * 1 ≤ product (given ns) * suc p =
        mul-le (product (given ns)) 1 (product (given ns)) (suc p) (omega arith) (omega arith) in
        omega (arith, a, b, d, e, l)

pub refused_rest :
    (ns fs : List ℕ) (n g : ℕ) → g ≡ product (given ns) → (n % g ≡ 0 → ⊥) → length fs ≡ wanted ns →
    product (filled ns fs) ≡ n → ⊥
refused_rest ns fs n g q l h e =
    l (ap (λ x. x % g) (sym e ∙ filled_product ns fs h ∙ ap (λ x. x * product fs) (sym q)) ∙
    mul-mod_right g (product fs))

pub refused_factors :
    (ns fs : List ℕ) (n g : ℕ) → 0 < n → g ≡ product (given ns) → 0 < g →
    ((gs : List ℕ) → Factors (n / g) n (wanted ns) gs → ⊥) → length fs ≡ wanted ns → product (filled ns fs) ≡ n → ⊥
refused_factors ns fs n g some q s none h e =
    let a : g * product fs ≡ n = ap (λ x. x * product fs) q ∙ sym (filled_product ns fs h) ∙ e in
    let b : n / g ≡ product fs = quotient_is n g (product fs) s a in
    let p : 0 < product fs = positive (product fs) a in
    let d : product fs ≤ n =
    let m : 1 * product fs ≤ g * product fs = mul-le 1 (product fs) g (product fs) s (omega arith) in
    omega (arith, m, a) in
    let r = sizes_to_factors (n / g) n (wanted ns) fs (omega (arith, b, p)) (omega (arith, b, d)) h (sym b) in
    none r.0 r.1
  where
    positive : (p : ℕ) → g * p ≡ n → 0 < p
    positive zero a = absurd (omega (arith, a, some))
    positive (suc p) a = omega arith

-- the sizes' product is the number
pub balanced_product :
    (ns fs now : List ℕ) (n g : ℕ) → g ≡ product (given ns) → n % g ≡ 0 → now ≡ filled ns fs →
    Balanced (n / g) n (wanted ns) fs → product now ≡ n
balanced_product ns fs now n g q d e b =
    let a : product (filled ns fs) ≡ product (given ns) * product fs = filled_product ns fs b.factors.0 in
    let x : product (given ns) * product fs ≡ g * product fs = ap (λ y. y * product fs) (sym q) in
    let y : g * product fs ≡ g * (n / g) = ap (λ z. g * z) b.factors.1 in
    let z : n / g * g + n % g ≡ n = div-add-mod' n g in
    let w : g * (n / g) ≡ n / g * g = omega arith in
    ap product e ∙ omega (arith, a, x, y, z, w, d)
