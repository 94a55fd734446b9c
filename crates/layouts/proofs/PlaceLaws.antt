-- Where the copies of a layout stand.
use Rattle.std.proofs.Common.{◌≡◌, ℕ, zero, suc, ◌+◌, ◌*◌, ◌<◌, List, [], ◌∷◌, ◌++◌, length, map, Some, slice_get, refl}
use Rattle.std.proofs.Common.{sym, ap, ◌∙◌, arith}
use Rattle.std.proofs.Math.Nat.{suc-mul, zero-mul}
use Rattle.std.proofs.lemmas.List.{length-append, length-map}
use Rattle.layouts.specs.Laws.{ElementsStandInOrder}
use Rattle.layouts.specs.Layouts.{copies_at, extent_of, moved}

pub copies_at-none : (first : ℕ) (xs : List ℕ) → copies_at first 0 xs ≡ []
unfolding copies_at
copies_at-none first xs = refl

pub copies_at-suc : (first count : ℕ) (xs : List ℕ) → copies_at first (suc count) xs ≡
    moved (first * extent_of xs) xs ++ copies_at (first + 1) count xs
unfolding copies_at
copies_at-suc first count xs = refl

pub length-copies_at : (first count : ℕ) (xs : List ℕ) → length (copies_at first count xs) ≡ count * length xs
length-copies_at first zero xs = ap length (copies_at-none first xs) ∙ sym (zero-mul (length xs))
length-copies_at first (suc count) xs =
    ap length (copies_at-suc first count xs)
    ∙ length-append (moved (first * extent_of xs) xs) (copies_at (first + 1) count xs)
    ∙ ap (λ (n : ℕ). n + length (copies_at (first + 1) count xs)) (length-map xs (λ o. first * extent_of xs + o))
    ∙ ap (λ (n : ℕ). length xs + n) (length-copies_at (first + 1) count xs)
    ∙ omega (arith, suc-mul count (length xs))

get_map : (f : ℕ → ℕ) (xs : List ℕ) (k o : ℕ) → slice_get xs k ≡ Some o → slice_get (map f xs) k ≡ Some (f o)
get_map f [] k o h = absurd (grind arith)
get_map f (x ∷ xs) zero o h = let e : x ≡ o = grind arith in ap (λ (n : ℕ). Some (f n)) e
get_map f (x ∷ xs) (suc k) o h = get_map f xs k o h

get_append_left : (xs ys : List ℕ) (k o : ℕ) → slice_get xs k ≡ Some o → slice_get (xs ++ ys) k ≡ Some o
get_append_left [] ys k o h = absurd (grind arith)
get_append_left (x ∷ xs) ys zero o h = h
get_append_left (x ∷ xs) ys (suc k) o h = get_append_left xs ys k o h

get_append_right : (xs ys : List ℕ) (k : ℕ) → slice_get (xs ++ ys) (length xs + k) ≡ slice_get ys k
get_append_right [] ys k = ap (slice_get ys) (omega arith)
get_append_right (x ∷ xs) ys k =
    let e : length (x ∷ xs) + k ≡ suc (length xs + k) = omega arith in
    ap (slice_get (x ∷ (xs ++ ys))) e ∙ get_append_right xs ys k

element_of_copies : (first count : ℕ) (xs : List ℕ) (i k o : ℕ) → i < count → slice_get xs k ≡ Some o →
    slice_get (copies_at first count xs) (i * length xs + k) ≡ Some ((first + i) * extent_of xs + o)
element_of_copies first zero xs i k o lt h = absurd (omega arith)
element_of_copies first (suc count) xs zero k o lt h =
    let at : 0 * length xs + k ≡ k = omega (arith, zero-mul (length xs)) in
    let same : first ≡ first + 0 = omega arith in
    ap (slice_get (copies_at first (suc count) xs)) at
    ∙ ap (λ (ps : List ℕ). slice_get ps k) (copies_at-suc first count xs)
    ∙ get_append_left (moved (first * extent_of xs) xs) (copies_at (first + 1) count xs) k (first * extent_of xs + o)
    (get_map (λ x. first * extent_of xs + x) xs k o h)
    ∙ ap (λ (n : ℕ). Some (n * extent_of xs + o)) same
element_of_copies first (suc count) xs (suc i) k o lt h =
    let here : List ℕ = moved (first * extent_of xs) xs in
    let rest : List ℕ = copies_at (first + 1) count xs in
    let long : length (moved (first * extent_of xs) xs) ≡ length xs = length-map xs (λ x. first * extent_of xs + x) in
    let at : suc i * length xs + k ≡ length (moved (first * extent_of xs) xs) + (i * length xs + k) = omega (arith, suc-mul i (length xs), long) in
    let same : first + 1 + i ≡ first + suc i = omega arith in
    ap (λ (ps : List ℕ). slice_get ps (suc i * length xs + k)) (copies_at-suc first count xs)
    ∙ ap (slice_get (here ++ rest)) at
    ∙ get_append_right here rest (i * length xs + k)
    ∙ element_of_copies (first + 1) count xs i k o (omega arith) h
    ∙ ap (λ (n : ℕ). Some (n * extent_of xs + o)) same

pub stand_in_order : ElementsStandInOrder
stand_in_order copies offsets =
    record {
      size_is = length-copies_at 0 copies offsets;
      element = λ i k o lt h.
          let same : 0 + i ≡ i = omega arith in
          element_of_copies 0 copies offsets i k o lt h ∙ ap (λ (n : ℕ). Some (n * extent_of offsets + o)) same;
    }
