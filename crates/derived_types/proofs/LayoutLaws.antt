-- How far the offsets of a layout reach.
use Rattle.std.proofs.Common.{◌≡◌, ℕ, zero, suc, ◌+◌, ◌-◌, ◌*◌, ◌<◌, ◌≤◌, Bool, true, false, cond, ltb, eqb, List, []}
use Rattle.std.proofs.Common.{◌∷◌, ◌++◌, length, get_or, refl, sym, ap, subst, ◌∙◌, arith, inl, inr, ◌⊎◌}
use Rattle.std.specs.Prelude.{min, max, nat_eq, ◌||◌, Option, Some, None, Result, Ok, Err}
use Rattle.std.proofs.Math.Nat.{mul-le-mul_right, suc-mul, zero-mul}
use Rattle.std.specs.Set.{distinct_count, is_member, unique_keys}
use Rattle.std.proofs.lemmas.Map.Made.{distinct_count-le}
use Rattle.std.proofs.lemmas.Bool.{cases_lt, lt-ltb, le-ltb, ltb-true, ltb-false}
use Rattle.std.specs.List.{flat_map, range_with_len}
use Rattle.std.proofs.lemmas.Bool.{ne_eqb}
use Rattle.std.proofs.lemmas.List.{length-append, length-map, append-nil, append_assoc}
use Rattle.std.proofs.lemmas.List.Concat.{flat_map-append}
use Rattle.std.proofs.lemmas.List.FromFn.{length-range_with_len, get_or-range_with_len}
use Rattle.derived_types.specs.declared.span.Span.{Span}
use Rattle.derived_types.specs.declared.refusal.LayoutRefusal.{LayoutRefusal}
use Rattle.derived_types.specs.declared.refusal.LayoutRefusal.TheVariants.{Limit}
use Rattle.derived_types.specs.declared.block.IndexedBlock.{IndexedBlock}
use Rattle.derived_types.specs.Spans.{span_of, copied_span, vector_span, joined_span, joined_near, is_far, unless_far}
use Rattle.derived_types.specs.Spans.{is_wide, judged_span, JudgesOffsets}
use Rattle.derived_types.specs.Layouts.{highest_of, lowest_of, extent_of, moved, copies_at, vector_offsets}
use Rattle.derived_types.specs.Layouts.{indexed_offsets, is_beyond, has_repeats, IsWithin}

-- no offset is above the highest
pub get_or-le-highest_of : (offsets : List ℕ) (i : ℕ) → get_or offsets i 0 ≤ highest_of offsets
get_or-le-highest_of [] i = omega arith
get_or-le-highest_of (o ∷ os) zero = omega arith
get_or-le-highest_of (o ∷ os) (suc i) = let h = get_or-le-highest_of os i in omega arith

pub lowest_of-le-highest_of : (offsets : List ℕ) → lowest_of offsets ≤ highest_of offsets
lowest_of-le-highest_of [] = omega arith
lowest_of-le-highest_of (o ∷ []) = omega arith
lowest_of-le-highest_of (o ∷ p ∷ os) = let h = lowest_of-le-highest_of (p ∷ os) in omega arith

-- an offset occurs twice where there are fewer kinds of offsets than offsets
pub has_repeats_is : (offsets : List ℕ) → has_repeats offsets ≡ ltb (distinct_count nat_eq offsets) (length offsets)
has_repeats_is [] = refl
has_repeats_is (o ∷ os) =
    let few = distinct_count-le nat_eq os in
    let ih = has_repeats_is os in
    elim (is_member nat_eq os o) as (λ b. (b || has_repeats os) ≡
    ltb (length (cond b (unique_keys nat_eq os) (o ∷ unique_keys nat_eq os))) (suc (length os))) [
      | true ↦ sym (lt-ltb (distinct_count nat_eq os) (suc (length os)) (omega arith))
      | false ↦ elim (cases_lt (distinct_count nat_eq os) (length os)) [
        | inl lt ↦ ih ∙ lt-ltb (distinct_count nat_eq os) (length os) lt ∙
            sym (lt-ltb (suc (distinct_count nat_eq os)) (suc (length os)) (omega arith))
        | inr le ↦ ih ∙ le-ltb (distinct_count nat_eq os) (length os) le ∙
            sym (le-ltb (suc (distinct_count nat_eq os)) (suc (length os)) (omega arith))
      ]
    ]

-- ---- joined and moved

pub highest_of-append : (xs ys : List ℕ) → highest_of (xs ++ ys) ≡ max (highest_of xs) (highest_of ys)
highest_of-append [] ys = omega arith
highest_of-append (x ∷ xs) ys = let h = highest_of-append xs ys in omega arith

lowest_of-cons : (x : ℕ) (xs : List ℕ) → 0 < length xs → lowest_of (x ∷ xs) ≡ min x (lowest_of xs)
lowest_of-cons x [] h = absurd (omega arith)
lowest_of-cons x (y ∷ ys) h = refl

pub lowest_of-append : (xs ys : List ℕ) → 0 < length xs → 0 < length ys →
    lowest_of (xs ++ ys) ≡ min (lowest_of xs) (lowest_of ys)
lowest_of-append [] ys hx hy = absurd (omega arith)
lowest_of-append (x ∷ []) ys hx hy = lowest_of-cons x ys hy
lowest_of-append (x ∷ y ∷ xs) ys hx hy = let h = lowest_of-append (y ∷ xs) ys (omega arith) hy in omega arith

pub length-moved : (by : ℕ) (xs : List ℕ) → length (moved by xs) ≡ length xs
length-moved by xs = length-map xs (λ o. by + o)

pub highest_of-moved : (by : ℕ) (xs : List ℕ) → 0 < length xs → highest_of (moved by xs) ≡ by + highest_of xs
highest_of-moved by [] h = absurd (omega arith)
highest_of-moved by (x ∷ []) h = omega arith
highest_of-moved by (x ∷ y ∷ xs) h = let r = highest_of-moved by (y ∷ xs) (omega arith) in omega arith

pub lowest_of-moved : (by : ℕ) (xs : List ℕ) → 0 < length xs → lowest_of (moved by xs) ≡ by + lowest_of xs
lowest_of-moved by [] h = absurd (omega arith)
lowest_of-moved by (x ∷ []) h = omega arith
lowest_of-moved by (x ∷ y ∷ xs) h = let r = lowest_of-moved by (y ∷ xs) (omega arith) in omega arith

pub extent_of-is : (xs : List ℕ) → 0 < length xs → extent_of xs ≡ highest_of xs + 1 - lowest_of xs
extent_of-is [] h = absurd (omega arith)
extent_of-is (x ∷ xs) h = refl

-- ---- copies

pub copies_at-none : (first : ℕ) (xs : List ℕ) → copies_at first 0 xs ≡ []
unfolding copies_at
copies_at-none first xs = refl

pub copies_at-suc : (first count : ℕ) (xs : List ℕ) → copies_at first (suc count) xs ≡
    moved (first * extent_of xs) xs ++ copies_at (first + 1) count xs
unfolding copies_at
copies_at-suc first count xs = refl

pub copies_at-nil : (first count : ℕ) → copies_at first count [] ≡ []
copies_at-nil first zero = copies_at-none first []
copies_at-nil first (suc count) = copies_at-suc first count [] ∙ copies_at-nil (first + 1) count

-- so many entries in all
pub length-copies_at : (first count : ℕ) (xs : List ℕ) → length (copies_at first count xs) ≡ count * length xs
length-copies_at first zero xs = ap length (copies_at-none first xs) ∙ sym (zero-mul (length xs))
length-copies_at first (suc count) xs =
    ap length (copies_at-suc first count xs)
    ∙ length-append (moved (first * extent_of xs) xs) (copies_at (first + 1) count xs)
    ∙ ap (λ (n : ℕ). n + length (copies_at (first + 1) count xs)) (length-moved (first * extent_of xs) xs)
    ∙ ap (λ (n : ℕ). length xs + n) (length-copies_at (first + 1) count xs)
    ∙ omega (arith, suc-mul count (length xs))

-- one copy more at the end
pub copies_at-more : (first count : ℕ) (xs : List ℕ) → copies_at first (count + 1) xs ≡ copies_at first count xs ++
    moved ((first + count) * extent_of xs) xs
copies_at-more first zero xs =
    copies_at-suc first 0 xs ∙ ap (λ (t : List ℕ). moved (first * extent_of xs) xs ++ t) (copies_at-none (first + 1) xs)
    ∙ append-nil (moved (first * extent_of xs) xs)
    ∙ ap (λ (n : ℕ). moved (n * extent_of xs) xs) (omega arith) ∙
    ap (λ (t : List ℕ). t ++ moved ((first + 0) * extent_of xs) xs) (sym (copies_at-none first xs))
copies_at-more first (suc count) xs =
    let here = moved (first * extent_of xs) xs in
    let n : suc count + 1 ≡ suc (count + 1) = omega arith in
    let place : first + 1 + count ≡ first + suc count = omega arith in
    ap (λ (k : ℕ). copies_at first k xs) n
    ∙ copies_at-suc first (count + 1) xs
    ∙ ap (λ (t : List ℕ). here ++ t) (copies_at-more (first + 1) count xs)
    ∙ sym (append_assoc here (copies_at (first + 1) count xs) (moved ((first + 1 + count) * extent_of xs) xs))
    ∙ ap (λ (t : List ℕ). t ++ moved ((first + 1 + count) * extent_of xs) xs) (sym (copies_at-suc first count xs))
    ∙ ap (λ (k : ℕ). copies_at first (suc count) xs ++ moved (k * extent_of xs) xs) place

-- how far a list reaches that isn't empty
pub record Reaches (xs : List ℕ) (entries lowest highest : ℕ) : Type 0 where
  pub some : 0 < entries
  pub entries_are : length xs ≡ entries
  pub lowest_is : lowest_of xs ≡ lowest
  pub highest_is : highest_of xs ≡ highest

pub Reaches-append : (xs ys : List ℕ) (m n l k g h : ℕ) → Reaches xs m l g → Reaches ys n k h →
    Reaches (xs ++ ys) (m + n) (min l k) (max g h)
Reaches-append xs ys m n l k g h a b =
    let sa = a.some in
    let sb = b.some in
    let ea = a.entries_are in
    let eb = b.entries_are in
    let la = a.lowest_is in
    let lb = b.lowest_is in
    let ha = a.highest_is in
    let hb = b.highest_is in
    let low = lowest_of-append xs ys (omega arith) (omega arith) in
    let high = highest_of-append xs ys in
    record {
      some = omega arith;
      entries_are = omega (arith, length-append xs ys);
      lowest_is = omega arith;
      highest_is =
          omega arith;
    }

pub Reaches-moved : (by : ℕ) (xs : List ℕ) → 0 < length xs →
    Reaches (moved by xs) (length xs) (by + lowest_of xs) (by + highest_of xs)
Reaches-moved by xs h =
    record {
      some = h;
      entries_are = length-moved by xs;
      lowest_is = lowest_of-moved by xs h;
      highest_is =
          highest_of-moved by xs h;
    }

reach_as : {xs : List ℕ} {m l g : ℕ} (n k h : ℕ) → m ≡ n → l ≡ k → g ≡ h → Reaches xs m l g → Reaches xs n k h
reach_as {xs} {m} {l} {g} n k h p q r a =
    subst (λ (z : ℕ). Reaches xs n k z) r
    (subst (λ (z : ℕ). Reaches xs n z g) q (subst (λ (z : ℕ). Reaches xs z l g) p a))

pub Reaches-copies : (first count : ℕ) (xs : List ℕ) → 0 < length xs
    → Reaches (copies_at first (suc count) xs) (suc count * length xs) (first * extent_of xs + lowest_of xs)
    ((first + count) * extent_of xs + highest_of xs)
Reaches-copies first zero xs h =
    let here : Reaches (moved (first * extent_of xs) xs) (length xs) (first * extent_of xs + lowest_of xs) (first * extent_of xs + highest_of xs) = Reaches-moved (first * extent_of xs) xs h in
    let same : copies_at first 1 xs ≡ moved (first * extent_of xs) xs =
    copies_at-suc first 0 xs ∙ ap (λ (t : List ℕ). moved (first * extent_of xs) xs ++ t) (copies_at-none (first + 1) xs)
    ∙ append-nil (moved (first * extent_of xs) xs)
    in
    subst (λ (t : List ℕ). Reaches t (1 * length xs) (first * extent_of xs + lowest_of xs) ((first + 0) * extent_of xs +
    highest_of xs)) (sym same)
    (reach_as (1 * length xs) (first * extent_of xs + lowest_of xs) ((first + 0) * extent_of xs + highest_of xs)
    (omega arith) refl (omega arith) here)
Reaches-copies first (suc count) xs h =
    let here = Reaches-moved (first * extent_of xs) xs h in
    let rest = Reaches-copies (first + 1) count xs h in
    let both = Reaches-append _ _ _ _ _ _ _ _ here rest in
    subst (λ (t : List ℕ). Reaches t (suc (suc count) * length xs) (first * extent_of xs + lowest_of xs)
    ((first + suc count) * extent_of xs + highest_of xs)) (sym (copies_at-suc first (suc count) xs))
    (reach_as (suc (suc count) * length xs) (first * extent_of xs + lowest_of xs) ((first + suc count) * extent_of xs +
    highest_of xs) (omega arith) (omega arith) (omega arith) both)

-- ---- spans

vector_place : (count b stride : ℕ) → count * stride + b ≡ (suc count - 1) * stride + (suc b - 1)
vector_place count b stride =
    let p : count ≡ suc count - 1 = omega arith in
    let q : b ≡ suc b - 1 = omega arith in
    ap (λ (k : ℕ). k * stride + b) p ∙ ap (λ (k : ℕ). (suc count - 1) * stride + k) q

pub span_as : (xs : List ℕ) (m l h : ℕ) → Reaches xs m l h →
    span_of xs ≡ record { entries = m; lowest = l; highest = h }
span_as xs m l h r =
    subst (λ (z : ℕ). span_of xs ≡ record { entries = m; lowest = l; highest = z }) r.highest_is
    (subst (λ (z : ℕ). span_of xs ≡ record { entries = m; lowest = z; highest = highest_of xs }) r.lowest_is
    (subst (λ (z : ℕ). span_of xs ≡ record { entries = z; lowest = lowest_of xs; highest = highest_of xs })
    r.entries_are refl))

-- an extent is at least 1 where there is an offset
pub span_of-copies : (first count : ℕ) (xs : List ℕ) → span_of (copies_at first count xs) ≡
    copied_span (span_of xs) first count
unfolding copied_span
span_of-copies first count [] = ap span_of (copies_at-nil first count)
span_of-copies first zero (x ∷ xs) =
    let some : eqb (suc (length xs)) 0 ≡ false = ne_eqb (suc (length xs)) 0 (λ e. omega arith) in
    rw some (ap span_of (copies_at-none first (x ∷ xs)))
span_of-copies first (suc count) (x ∷ xs) =
    let some : eqb (suc (length xs)) 0 ≡ false = ne_eqb (suc (length xs)) 0 (λ e. omega arith) in
    let more : eqb (suc count) 0 ≡ false = ne_eqb (suc count) 0 (λ e. omega arith) in
    let r = Reaches-copies first count (x ∷ xs) (omega arith) in
    rw (some, more) (span_as (copies_at first (suc count) (x ∷ xs)) _ _ _
    (reach_as (suc count * suc (length xs)) (first * extent_of (x ∷ xs) + lowest_of (x ∷ xs))
    ((first + (suc count - 1)) * extent_of (x ∷ xs) + highest_of (x ∷ xs))
    refl refl (ap (λ (k : ℕ). (first + k) * extent_of (x ∷ xs) + highest_of (x ∷ xs)) (omega arith)) r))

-- the blocks of a vector from the one with a number on
abbrev vector_from : ℕ → ℕ → ℕ → ℕ → List ℕ → List ℕ
vector_from first count blocklength stride xs =
    flat_map (λ i. copies_at (i * stride) blocklength xs) (range_with_len first count)

vector_nil : (first count blocklength stride : ℕ) (xs : List ℕ) →
    ((i : ℕ) → copies_at (i * stride) blocklength xs ≡ []) → vector_from first count blocklength stride xs ≡ []
vector_nil first zero blocklength stride xs h = refl
vector_nil first (suc count) blocklength stride xs h =
    ap (λ (t : List ℕ). t ++ vector_from (first + 1) count blocklength stride xs) (h first) ∙
    vector_nil (first + 1) count blocklength stride xs h

pub Reaches-vector : (first count b stride : ℕ) (xs : List ℕ) → 0 < length xs
    → Reaches (vector_from first (suc count) (suc b) stride xs) (suc count * suc b * length xs)
    (first * stride * extent_of xs + lowest_of xs) (((first + count) * stride + b) * extent_of xs + highest_of xs)
Reaches-vector first zero b stride xs h =
    let here = Reaches-copies (first * stride) b xs h in
    subst (λ (t : List ℕ). Reaches t (1 * suc b * length xs) (first * stride * extent_of xs + lowest_of xs)
    (((first + 0) * stride + b) * extent_of xs + highest_of xs))
    (sym (append-nil (copies_at (first * stride) (suc b) xs)))
    (reach_as (1 * suc b * length xs) (first * stride * extent_of xs + lowest_of xs)
    (((first + 0) * stride + b) * extent_of xs + highest_of xs) (omega arith) refl (omega arith) here)
Reaches-vector first (suc count) b stride xs h =
    let here = Reaches-copies (first * stride) b xs h in
    let rest = Reaches-vector (first + 1) count b stride xs h in
    reach_as (suc (suc count) * suc b * length xs) (first * stride * extent_of xs + lowest_of xs)
    (((first + suc count) * stride + b) * extent_of xs + highest_of xs)
    (omega arith) (omega arith) (omega arith) (Reaches-append _ _ _ _ _ _ _ _ here rest)

pub span_of-vector : (count blocklength stride : ℕ) (xs : List ℕ) →
    span_of (vector_offsets count blocklength stride xs) ≡ vector_span (span_of xs) count blocklength stride
unfolding vector_span vector_offsets
span_of-vector count blocklength stride [] =
    ap span_of (vector_nil 0 count blocklength stride [] (λ i. copies_at-nil (i * stride) blocklength))
span_of-vector zero blocklength stride (x ∷ xs) =
    let some : eqb (suc (length xs)) 0 ≡ false = ne_eqb (suc (length xs)) 0 (λ e. omega arith) in
    rw some refl
span_of-vector (suc count) zero stride (x ∷ xs) =
    let some : eqb (suc (length xs)) 0 ≡ false = ne_eqb (suc (length xs)) 0 (λ e. omega arith) in
    let more : eqb (suc count) 0 ≡ false = ne_eqb (suc count) 0 (λ e. omega arith) in
    rw (some, more)
    (ap span_of (vector_nil 0 (suc count) 0 stride (x ∷ xs) (λ i. copies_at-none (i * stride) (x ∷ xs))))
span_of-vector (suc count) (suc b) stride (x ∷ xs) =
    let some : eqb (suc (length xs)) 0 ≡ false = ne_eqb (suc (length xs)) 0 (λ e. omega arith) in
    let more : eqb (suc count) 0 ≡ false = ne_eqb (suc count) 0 (λ e. omega arith) in
    let long : eqb (suc b) 0 ≡ false = ne_eqb (suc b) 0 (λ e. omega arith) in
    let r = Reaches-vector 0 count b stride (x ∷ xs) (omega arith) in
    rw (some, more, long) (span_as (vector_from 0 (suc count) (suc b) stride (x ∷ xs)) _ _ _
    (reach_as (suc count * suc b * suc (length xs)) (lowest_of (x ∷ xs))
    (((suc count - 1) * stride + (suc b - 1)) * extent_of (x ∷ xs) + highest_of (x ∷ xs))
    refl (omega arith)
    (ap (λ (k : ℕ). k * extent_of (x ∷ xs) + highest_of (x ∷ xs)) (ap (λ (k : ℕ). k * stride + b) (omega arith) ∙
    vector_place count b stride)) r))

pub span_of-append : (xs ys : List ℕ) → span_of (xs ++ ys) ≡ joined_span (span_of xs) (span_of ys)
unfolding joined_span
span_of-append [] ys = refl
span_of-append (x ∷ xs) [] =
    let some : eqb (suc (length xs)) 0 ≡ false = ne_eqb (suc (length xs)) 0 (λ e. omega arith) in
    rw some (ap span_of (append-nil (x ∷ xs)))
span_of-append (x ∷ xs) (y ∷ ys) =
    let some : eqb (suc (length xs)) 0 ≡ false = ne_eqb (suc (length xs)) 0 (λ e. omega arith) in
    let more : eqb (suc (length ys)) 0 ≡ false = ne_eqb (suc (length ys)) 0 (λ e. omega arith) in
    let left : Reaches (x ∷ xs) (suc (length xs)) (lowest_of (x ∷ xs)) (highest_of (x ∷ xs)) = record { some = omega arith; entries_are = refl; lowest_is = refl; highest_is = refl } in
    let right : Reaches (y ∷ ys) (suc (length ys)) (lowest_of (y ∷ ys)) (highest_of (y ∷ ys)) = record { some = omega arith; entries_are = refl; lowest_is = refl; highest_is = refl } in
    rw (some, more) (span_as ((x ∷ xs) ++ (y ∷ ys)) _ _ _ (Reaches-append _ _ _ _ _ _ _ _ left right))

judged_as : (s : Span) (far wide : Bool) → is_wide s ≡ wide → judged_span (cond far None (Some s)) ≡
    cond (far || wide) (Err Limit) (Ok s)
unfolding judged_span
judged_as s true wide e = refl
judged_as s false wide e = ap (λ (b : Bool). cond b (Err Limit) (Ok s)) e

wide_is : (xs : List ℕ) → is_wide (span_of xs) ≡ ltb 2147483647 (extent_of xs)
wide_is [] = refl
wide_is (x ∷ xs) =
    let some : eqb (suc (length xs)) 0 ≡ false = ne_eqb (suc (length xs)) 0 (λ e. omega arith) in
    rw some refl

-- a span passes a limit where its offsets do
pub judged-span_of : (xs : List ℕ) → judged_span (unless_far (span_of xs)) ≡
    cond (is_beyond xs) (Err Limit) (Ok (span_of xs))
unfolding is_beyond
judged-span_of xs = judged_as (span_of xs) (is_far (span_of xs)) (ltb 2147483647 (extent_of xs)) (wide_is xs)

-- ---- limits

or_false : (a b : Bool) → (a || b) ≡ false → (a ≡ false) × (b ≡ false)
or_false true b e = absurd cc
or_false false b e = (refl, e)

pub within_of : (xs : List ℕ) → is_beyond xs ≡ false → IsWithin xs
unfolding is_beyond
within_of xs e =
    let outer = or_false (ltb 1048576 (length xs) || ltb 2147483647 (highest_of xs)) (ltb 2147483647 (extent_of xs)) e in
    let inner = or_false (ltb 1048576 (length xs)) (ltb 2147483647 (highest_of xs)) outer.0 in
    record {
      entries = ltb-false 1048576 (length xs) inner.0;
      highest = ltb-false 2147483647 (highest_of xs) inner.1;
      extent = ltb-false 2147483647 (extent_of xs) outer.1;
    }

-- ---- parts

pub highest_of-flat_map : {X : Type 0} (f : X → List ℕ) (xs : List X) (i : ℕ) (d : X) → i < length xs →
    highest_of (f (get_or xs i d)) ≤ highest_of (flat_map f xs)
highest_of-flat_map f [] i d h = absurd (omega arith)
highest_of-flat_map f (x ∷ xs) zero d h = let a = highest_of-append (f x) (flat_map f xs) in omega arith
highest_of-flat_map f (x ∷ xs) (suc i) d h =
    let a = highest_of-append (f x) (flat_map f xs) in
    let r = highest_of-flat_map f xs i d (omega arith) in
    omega arith

pub place-le : (first count i : ℕ) (xs : List ℕ) → 0 < length xs → i < count →
    (first + i) * extent_of xs + highest_of xs ≤ highest_of (copies_at first count xs)
place-le first zero i xs h lt = absurd (omega arith)
place-le first (suc count) i xs h lt =
    let r = Reaches-copies first count xs h in
    let top = r.highest_is in
    let m : (first + i) * extent_of xs ≤ (first + count) * extent_of xs = mul-le-mul_right (extent_of xs) (omega arith) in
    omega arith

pub extent-positive : (xs : List ℕ) → 0 < length xs → 0 < extent_of xs
extent-positive xs h = let e = extent_of-is xs h in let l = lowest_of-le-highest_of xs in omega arith

judges_as : (xs : List ℕ) (b : Bool) → is_beyond xs ≡ b → JudgesOffsets xs (cond b (Err Limit) (Ok (span_of xs)))
judges_as xs true e = e
judges_as xs false e = (e, refl)

-- what is judged of the span holds of the offsets
pub judges : (xs : List ℕ) (o : Option Span) (r : Result Span LayoutRefusal) → o ≡ unless_far (span_of xs) →
    r ≡ judged_span o → JudgesOffsets xs r
judges xs o r e f =
    subst (JudgesOffsets xs) (sym (f ∙ ap judged_span e ∙ judged-span_of xs)) (judges_as xs (is_beyond xs) refl)

-- where there is an entry there is an old one
pub some-copies : (first count : ℕ) (xs : List ℕ) → 0 < length (copies_at first count xs) → 0 < length xs
some-copies first count [] h = let e = ap length (copies_at-nil first count) in absurd (omega arith)
some-copies first count (x ∷ xs) h = omega arith

-- ---- steps

range_with_len-more : (a n : ℕ) → range_with_len a (n + 1) ≡ range_with_len a n ++ (a + n) ∷ []
range_with_len-more a zero = ap (λ (k : ℕ). k ∷ []) (omega arith)
range_with_len-more a (suc n) =
    let e : suc n + 1 ≡ suc (n + 1) = omega arith in
    let p : a + 1 + n ≡ a + suc n = omega arith in
    rw e (ap (λ (t : List ℕ). a ∷ t) (range_with_len-more (a + 1) n ∙
    ap (λ (k : ℕ). range_with_len (a + 1) n ++ k ∷ []) p))

pub vector_offsets-none : (blocklength stride : ℕ) (xs : List ℕ) → vector_offsets 0 blocklength stride xs ≡ []
unfolding vector_offsets
vector_offsets-none blocklength stride xs = refl

pub vector_offsets-more : (count blocklength stride : ℕ) (xs : List ℕ) →
    vector_offsets (count + 1) blocklength stride xs ≡ vector_offsets count blocklength stride xs ++
    copies_at (count * stride) blocklength xs
unfolding vector_offsets
vector_offsets-more count blocklength stride xs =
    let f : ℕ → List ℕ = λ i. copies_at (i * stride) blocklength xs in
    let e : 0 + count ≡ count = omega arith in
    ap (flat_map f) (range_with_len-more 0 count ∙ ap (λ (k : ℕ). range_with_len 0 count ++ k ∷ []) e)
    ∙ flat_map-append f (range_with_len 0 count) (count ∷ [])
    ∙ ap (λ (t : List ℕ). flat_map f (range_with_len 0 count) ++ t)
    (append-nil (copies_at (count * stride) blocklength xs))

pub block-le-vector : (count blocklength stride i : ℕ) (xs : List ℕ) → i < count →
    highest_of (copies_at (i * stride) blocklength xs) ≤ highest_of (vector_offsets count blocklength stride xs)
unfolding vector_offsets
block-le-vector count blocklength stride i xs lt =
    let f : ℕ → List ℕ = λ k. copies_at (k * stride) blocklength xs in
    let len = length-range_with_len 0 count in
    let here : get_or (range_with_len 0 count) i 0 ≡ i = get_or-range_with_len 0 count i 0 lt ∙ omega arith in
    let le = highest_of-flat_map f (range_with_len 0 count) i 0 (omega arith) in
    rw here at le

-- where a vector has an entry, the old layout has one and the blocks aren't empty
pub some-vector : (count blocklength stride : ℕ) (xs : List ℕ) →
    0 < length (vector_offsets count blocklength stride xs) → (0 < length xs) × (0 < blocklength)
unfolding vector_offsets
some-vector count blocklength stride [] h =
    let e = ap length (vector_nil 0 count blocklength stride [] (λ i. copies_at-nil (i * stride) blocklength)) in absurd
    (omega arith)
some-vector count zero stride (x ∷ xs) h =
    let e = ap length (vector_nil 0 count 0 stride (x ∷ xs) (λ i. copies_at-none (i * stride) (x ∷ xs))) in absurd
    (omega arith)
some-vector count (suc b) stride (x ∷ xs) h = (omega arith, omega arith)

pub indexed_offsets-none : (xs : List ℕ) → indexed_offsets [] xs ≡ []
unfolding indexed_offsets
indexed_offsets-none xs = refl

pub indexed_offsets-more : (blocks : List IndexedBlock) (b : IndexedBlock) (xs : List ℕ) →
    indexed_offsets (blocks ++ b ∷ []) xs ≡ indexed_offsets blocks xs ++ copies_at b.displacement b.length xs
unfolding indexed_offsets
indexed_offsets-more blocks b xs =
    let f : IndexedBlock → List ℕ = λ k. copies_at k.displacement k.length xs in
    flat_map-append f blocks (b ∷ []) ∙ ap (λ (t : List ℕ). flat_map f blocks ++ t) (append-nil (f b))

pub block-le-indexed : (blocks : List IndexedBlock) (i : ℕ) (d : IndexedBlock) (xs : List ℕ) → i < length blocks
    → highest_of (copies_at (get_or blocks i d).displacement (get_or blocks i d).length xs) ≤ highest_of
    (indexed_offsets blocks xs)
unfolding indexed_offsets
block-le-indexed blocks i d xs lt =
    highest_of-flat_map (λ (k : IndexedBlock). copies_at k.displacement k.length xs) blocks i d lt

indexed_nil : (blocks : List IndexedBlock) → indexed_offsets blocks [] ≡ []
unfolding indexed_offsets
indexed_nil [] = refl
indexed_nil (b ∷ bs) = ap (λ (t : List ℕ). t ++ indexed_offsets bs []) (copies_at-nil b.displacement b.length) ∙
    indexed_nil bs

pub some-indexed : (blocks : List IndexedBlock) (xs : List ℕ) → 0 < length (indexed_offsets blocks xs) → 0 < length xs
some-indexed blocks [] h = let e = ap length (indexed_nil blocks) in absurd (omega arith)
some-indexed blocks (x ∷ xs) h = omega arith

-- ---- joined spans that may be too far

or_true : (a b : Bool) → (a || b) ≡ true → (a ≡ true) ⊎ (b ≡ true)
or_true true b e = inl refl
or_true false b e = inr e

far_cases : (xs : List ℕ) → is_far (span_of xs) ≡ true → (1048576 < length xs) ⊎ (2147483647 < highest_of xs)
far_cases xs e =
    elim (or_true (ltb 1048576 (length xs)) (ltb 2147483647 (highest_of xs)) e) [
      | inl a ↦ inl (ltb-true 1048576 (length xs) a)
      | inr b ↦ inr (ltb-true 2147483647 (highest_of xs) b)
    ]

or_left : (a b : Bool) → a ≡ true → (a || b) ≡ true
or_left true b e = refl
or_left false b e = absurd cc

or_right : (a b : Bool) → b ≡ true → (a || b) ≡ true
or_right true b e = refl
or_right false b e = e

is_far-from : (xs : List ℕ) → (1048576 < length xs) ⊎ (2147483647 < highest_of xs) → is_far (span_of xs) ≡ true
is_far-from xs (inl a) =
    or_left (ltb 1048576 (length xs)) (ltb 2147483647 (highest_of xs)) (lt-ltb 1048576 (length xs) a)
is_far-from xs (inr b) =
    or_right (ltb 1048576 (length xs)) (ltb 2147483647 (highest_of xs)) (lt-ltb 2147483647 (highest_of xs) b)

far-left : (xs ys : List ℕ) → is_far (span_of xs) ≡ true → is_far (span_of (xs ++ ys)) ≡ true
far-left xs ys e =
    let l = length-append xs ys in
    let h = highest_of-append xs ys in
    elim (far_cases xs e)
    [ inl a ↦ is_far-from (xs ++ ys) (inl (omega arith)) | inr b ↦ is_far-from (xs ++ ys) (inr (omega arith)) ]

far-right : (xs ys : List ℕ) → is_far (span_of ys) ≡ true → is_far (span_of (xs ++ ys)) ≡ true
far-right xs ys e =
    let l = length-append xs ys in
    let h = highest_of-append xs ys in
    elim (far_cases ys e)
    [ inl a ↦ is_far-from (xs ++ ys) (inl (omega arith)) | inr b ↦ is_far-from (xs ++ ys) (inr (omega arith)) ]

near_as : (xs ys : List ℕ) (a b : Bool) → is_far (span_of xs) ≡ a → is_far (span_of ys) ≡ b
    → joined_near (cond a None (Some (span_of xs))) (cond b None (Some (span_of ys))) ≡ unless_far (span_of (xs ++ ys))
near_as xs ys true b ea eb = sym (ap (λ (f : Bool). cond f None (Some (span_of (xs ++ ys)))) (far-left xs ys ea))
near_as xs ys false true ea eb = sym (ap (λ (f : Bool). cond f None (Some (span_of (xs ++ ys)))) (far-right xs ys eb))
near_as xs ys false false ea eb = ap unless_far (sym (span_of-append xs ys))

pub joined_near-span_of : (xs ys : List ℕ) → joined_near (unless_far (span_of xs)) (unless_far (span_of ys)) ≡
    unless_far (span_of (xs ++ ys))
joined_near-span_of xs ys = near_as xs ys (is_far (span_of xs)) (is_far (span_of ys)) refl refl
