-- Layouts whose offsets follow one another: all their copies are one run of places.
use Rattle.std.proofs.Common.{◌≡◌, ℕ, zero, suc, ◌+◌, ◌*◌, ◌<◌, ◌≤◌, List, [], ◌∷◌, ◌++◌, length, get_or, set, take}
use Rattle.std.proofs.Common.{drop, refl, sym, ap, subst, ◌∙◌, arith, inl, inr, Result, Ok, Err}
use Rattle.std.specs.Prelude.{IfOk}
use Rattle.std.specs.List.{range_with_len}
use Rattle.std.proofs.Math.Nat.{suc-mul, zero-mul, mul-le-mul_left, mul-le-mul_right}
use Rattle.std.proofs.Math.Seq.{take-add}
use Rattle.std.proofs.lemmas.Bool.{cases_lt}
use Rattle.std.proofs.lemmas.List.{length-take, length-set, drop-drop, drop-set-lt, append_assoc, append-nil}
use Rattle.std.proofs.lemmas.List.{take-append-drop}
use Rattle.std.proofs.lemmas.Grind.{take-set_at}
use Rattle.std.proofs.lemmas.List.FromFn.{length-range_with_len, get_or-range_with_len}
use Rattle.datatypes.specs.Contents.{values_of, AreWhole}
use Rattle.datatypes.specs.ContentLaws.{IsBytes-take, no_rest, whole, length-values_of, values_of-append}
use Rattle.datatypes.specs.ContentLaws.{values_of-take, values_of-drop, values_of-nil}
use Rattle.derived_types.specs.Layouts.{highest_of, lowest_of, extent_of, moved, places, copies_at}
use Rattle.datatypes.specs.Pieces.{pieces_of}
use Rattle.datatypes.specs.Transfers.{room_for, elements_at, put_at, first_places, AreNear}
use Rattle.datatypes.proofs.BufferSteps.{AreWhole-append, AreWhole-drop}
use Rattle.derived_types.proofs.LayoutLaws.{copies_at-none, copies_at-nil, copies_at-suc, length-copies_at}
use Rattle.derived_types.proofs.LayoutLaws.{extent_of-is}
use Rattle.datatypes.proofs.PieceLaws.{near_copy, near_from_room, pieces_are}
use Rattle.datatypes.proofs.PlaceLaws.{first_places-is}

-- the offsets follow one another
abbrev pub AreRun : List ℕ → Type 0
AreRun xs = xs ≡ range_with_len (get_or xs 0 0) (length xs)

pub range-append : (a m n : ℕ) → range_with_len a (m + n) ≡ range_with_len a m ++ range_with_len (a + m) n
range-append a zero n =
    let z : 0 + n ≡ n = omega arith in
    let e : a ≡ a + 0 = omega arith in
    ap (range_with_len a) z ∙ ap (λ (k : ℕ). range_with_len k n) e
range-append a (suc m) n =
    let e : a + 1 + m ≡ a + suc m = omega arith in
    let s : suc m + n ≡ suc (m + n) = omega arith in
    ap (range_with_len a) s
    ∙ ap (λ (t : List ℕ). a ∷ t) (range-append (a + 1) m n ∙
    ap (λ (k : ℕ). range_with_len (a + 1) m ++ range_with_len k n) e)

pub moved_run : (by a n : ℕ) → moved by (range_with_len a n) ≡ range_with_len (by + a) n
moved_run by a zero = refl
moved_run by a (suc n) =
    let e : by + (a + 1) ≡ by + a + 1 = omega arith in
    ap (λ (t : List ℕ). (by + a) ∷ t) (moved_run by (a + 1) n ∙ ap (λ (k : ℕ). range_with_len k n) e)

highest_run : (a n : ℕ) → highest_of (range_with_len a (suc n)) ≡ a + n
highest_run a zero = omega arith
highest_run a (suc n) = let h = highest_run (a + 1) n in omega arith

lowest_run : (a n : ℕ) → lowest_of (range_with_len a (suc n)) ≡ a
lowest_run a zero = refl
lowest_run a (suc n) = let h = lowest_run (a + 1) n in omega arith

extent_run : (a n : ℕ) → 0 < n → extent_of (range_with_len a n) ≡ n
extent_run a zero p = absurd (omega arith)
extent_run a (suc n) p =
    let h = highest_run a n in
    let l = lowest_run a n in
    let len = length-range_with_len a (suc n) in
    let e = extent_of-is (range_with_len a (suc n)) (omega arith) in
    omega arith

copies_run : (first copies a n : ℕ) → 0 < n → copies_at first copies (range_with_len a n) ≡
    range_with_len (first * n + a) (copies * n)
copies_run first zero a n p = copies_at-none first (range_with_len a n) ∙
    ap (range_with_len (first * n + a)) (sym (zero-mul n))
copies_run first (suc k) a n p =
    let next : (first + 1) * n + a ≡ first * n + a + n = omega arith in
    let more : n + k * n ≡ suc k * n = sym (suc-mul k n ∙ omega arith) in
    copies_at-suc first k (range_with_len a n)
    ∙ ap (λ (e : ℕ). moved (first * e) (range_with_len a n) ++ copies_at (first + 1) k (range_with_len a n))
    (extent_run a n p)
    ∙ ap (λ (t : List ℕ). t ++ copies_at (first + 1) k (range_with_len a n)) (moved_run (first * n) a n)
    ∙ ap (λ (t : List ℕ). range_with_len (first * n + a) n ++ t) (copies_run (first + 1) k a n p)
    ∙ ap (λ (f : ℕ). range_with_len (first * n + a) n ++ range_with_len f (k * n)) next
    ∙ sym (range-append (first * n + a) n (k * n))
    ∙ ap (range_with_len (first * n + a)) more

-- the places of all copies are one run
pub places_run : (copies : ℕ) (xs : List ℕ) → 0 < length xs → AreRun xs →
    places copies xs ≡ range_with_len (get_or xs 0 0) (copies * length xs)
places_run copies xs p run =
    let e : 0 * length xs + get_or xs 0 0 ≡ get_or xs 0 0 = omega (arith, zero-mul (length xs)) in
    ap (λ (t : List ℕ). places copies t) run
    ∙ copies_run 0 copies (get_or xs 0 0) (length xs) p
    ∙ ap (λ (k : ℕ). range_with_len k (copies * length xs)) e

pub pieces_range : (size : ℕ) (bytes : List ℕ) (a n : ℕ) → pieces_of size bytes (range_with_len a n) ≡
    take (n * size) (drop (a * size) bytes)
pieces_range size bytes a zero = rw (zero-mul size) refl
pieces_range size bytes a (suc n) =
    let rest = drop (a * size) bytes in
    let next : (a + 1) * size ≡ a * size + size = omega arith in
    let more : suc n * size ≡ size + n * size = suc-mul n size ∙ omega arith in
    ap (λ (t : List ℕ). take size rest ++ t) (pieces_range size bytes (a + 1) n ∙
    ap (λ (k : ℕ). take (n * size) (drop k bytes)) next ∙
    ap (take (n * size)) (sym (drop-drop size (a * size) bytes)))
    ∙ sym (take-add size (n * size) rest)
    ∙ ap (λ (k : ℕ). take k rest) (sym more)

-- what is packed is one piece
pub pieces_run : (size copies : ℕ) (bytes xs : List ℕ) → 0 < length xs → AreRun xs
    → pieces_of size bytes (places copies xs) ≡ take (copies * length xs * size) (drop (get_or xs 0 0 * size) bytes)
pieces_run size copies bytes xs p run =
    ap (pieces_of size bytes) (places_run copies xs p run) ∙
    pieces_range size bytes (get_or xs 0 0) (copies * length xs)

pub run_fits : (size copies : ℕ) (xs : List ℕ) (len : ℕ) → 0 < copies → 0 < length xs → AreRun xs →
    room_for (places copies xs) * size ≤ len
    → (get_or xs 0 0 + copies * length xs) * size ≤ len
run_fits size copies [] len c p run near = absurd (omega arith)
run_fits size zero (x ∷ xs) len c p run near = absurd (omega arith)
run_fits size (suc k) (x ∷ xs) len c p run near =
    let n = length (x ∷ xs) in
    let h : highest_of (x ∷ xs) ≡ x + length xs = ap highest_of run ∙ highest_run x (length xs) in
    let e : extent_of (x ∷ xs) ≡ n = ap extent_of run ∙ extent_run x n p in
    let f = near_copy (suc k) k size (x ∷ xs) len p (omega arith) near in
    let m : k * extent_of (x ∷ xs) ≡ k * n = ap (λ (j : ℕ). k * j) e in
    let s = suc-mul k n in
    let same : k * extent_of (x ∷ xs) + highest_of (x ∷ xs) + 1 ≡ x + suc k * n = omega arith in
    subst (λ (j : ℕ). j * size ≤ len) same f

-- a fact of what a call gave, by another one
pub if_ok : {A E : Type 0} {P Q : A → Type 0} (r : Result A E) → ((x : A) → P x → Q x) → IfOk r P → IfOk r Q
if_ok (Ok x) f h = f x h
if_ok (Err e) f h = tt

-- ---- what is gathered of a run

-- the room that the places need, in bytes
pub room_in_bytes : (size : ℕ) (bytes at : List ℕ) → AreWhole size bytes → room_for at ≤ length (values_of size bytes) →
    room_for at * size ≤ length bytes
room_in_bytes size bytes at w room =
    let all = whole size bytes w.no_rest in
    let counted = ap (λ (k : ℕ). k * size) (length-values_of size bytes) in
    let m : room_for at * size ≤ length (values_of size bytes) * size = mul-le-mul_right size room in
    omega arith

pub run_gathered : (size copies : ℕ) (bytes xs : List ℕ) → 0 < size → AreWhole size bytes → 0 < length xs → AreRun xs →
    room_for (places copies xs) ≤ length (values_of size bytes)
    → AreWhole size (take (copies * length xs * size) (drop (get_or xs 0 0 * size) bytes))
    × (values_of size (take (copies * length xs * size) (drop (get_or xs 0 0 * size) bytes)) ≡
    elements_at (values_of size bytes) (places copies xs))
run_gathered size copies bytes xs h w p run room =
    let at = places copies xs in
    let are = pieces_are size bytes at h w (near_from_room at (length (values_of size bytes)) room) in
    let same = pieces_run size copies bytes xs p run in (
      subst (AreWhole size) same are.0,
      (ap (values_of size) (sym same) ∙ are.1),
    )

pub none_gathered : (size : ℕ) (values xs : List ℕ) → 0 < size → values_of size [] ≡ elements_at values (places 0 xs)
none_gathered size values xs h = values_of-nil size h ∙ sym (ap (elements_at values) (copies_at-none 0 xs))

pub nil_gathered : (size copies : ℕ) (values xs : List ℕ) → 0 < size → length xs ≡ 0 →
    values_of size [] ≡ elements_at values (places copies xs)
nil_gathered size copies values [] h e = values_of-nil size h ∙ sym (ap (elements_at values) (copies_at-nil 0 copies))
nil_gathered size copies values (x ∷ xs) h e = absurd (omega arith)

-- ---- a message put into a run of places

take_run : (a n r : ℕ) → n ≤ r → take n (range_with_len a r) ≡ range_with_len a n
take_run a zero r h = refl
take_run a (suc n) zero h = absurd (omega arith)
take_run a (suc n) (suc r) h = ap (λ (t : List ℕ). a ∷ t) (take_run (a + 1) n r (omega arith))

pub first_run : (count : ℕ) (xs : List ℕ) → 0 < length xs → AreRun xs →
    first_places count xs ≡ range_with_len (get_or xs 0 0) count
first_run count xs p run =
    let wide : count * 1 ≤ count * length xs = mul-le-mul_left count p in
    let len = length-copies_at 0 count xs in
    first_places-is count count xs (omega arith)
    ∙ ap (take count) (places_run count xs p run)
    ∙ take_run (get_or xs 0 0) count (count * length xs) (omega arith)

pub run_near : (count elements : ℕ) (xs : List ℕ) → 0 < count → 0 < length xs → AreRun xs →
    AreNear (first_places count xs) elements → get_or xs 0 0 + count ≤ elements
run_near zero elements xs c p run near = absurd (omega arith)
run_near (suc k) elements xs c p run near =
    let first = get_or xs 0 0 in
    let there : AreNear (range_with_len first (suc k)) elements = subst (λ (t : List ℕ). AreNear t elements) (first_run (suc k) xs p run) near in
    let last = there k (omega (arith, length-range_with_len first (suc k))) in
    let is = get_or-range_with_len first (suc k) k 0 (omega arith) in
    omega arith

put_range : (values ms : List ℕ) (a : ℕ) → a + length ms ≤ length values
    → put_at values (range_with_len a (length ms)) ms ≡ take a values ++ ms ++ drop (a + length ms) values
put_range values [] a h =
    let e : a + 0 ≡ a = omega arith in
    sym (ap (λ (t : List ℕ). t ++ drop (a + 0) values) (append-nil (take a values)) ∙
    ap (λ (k : ℕ). take a values ++ drop k values) e ∙ take-append-drop a values)
put_range values (m ∷ ms) a h =
    let e : a + 1 + length ms ≡ a + suc (length ms) = omega arith in
    let one : a + 1 ≡ a + 1 = refl in
    put_range (set values a m) ms (a + 1) (omega (arith, length-set values a m))
    ∙ ap (λ (t : List ℕ). t ++ ms ++ drop (a + 1 + length ms) (set values a m))
    (take-set_at values a (a + 1) m one (omega arith))
    ∙ ap (λ (t : List ℕ). (take a values ++ m ∷ []) ++ ms ++ t)
    (drop-set-lt (a + 1 + length ms) values a m (omega arith))
    ∙ ap (λ (k : ℕ). (take a values ++ m ∷ []) ++ ms ++ drop k values) e
    ∙ ap (λ (t : List ℕ). t ++ drop (a + suc (length ms)) values) (append_assoc (take a values) (m ∷ []) ms)

le_of_mul : (size m n : ℕ) → 0 < size → m * size ≤ n * size → m ≤ n
le_of_mul size m n h le =
    elim (cases_lt n m) [
      | inl lt ↦ let up : suc n * size ≤ m * size = mul-le-mul_right size lt in absurd (omega (arith, suc-mul n size))
      | inr ge ↦ ge
    ]

-- the bytes with a message over those from a place on
abbrev pub with_run : ℕ → List ℕ → ℕ → List ℕ → List ℕ
with_run at bytes count message = take at bytes ++ message ++ drop (at + count) bytes

pub with_run-is : (size : ℕ) (bytes message : List ℕ) (a : ℕ) → 0 < size → AreWhole size bytes → AreWhole size message
    → a * size + length message ≤ length bytes
    → AreWhole size (with_run (a * size) bytes (length message) message)
    × (values_of size (with_run (a * size) bytes (length message) message) ≡
    put_at (values_of size bytes) (range_with_len a (length (values_of size message))) (values_of size message))
with_run-is size bytes message a h w wm le =
    let n = length (values_of size message) in
    let lm : length message ≡ n * size = whole size message wm.no_rest ∙ ap (λ (k : ℕ). k * size) (sym (length-values_of size message)) in
    let at : a * size + length message ≡ (a + n) * size = omega arith in
    let vs = values_of size bytes in
    let ms = values_of size message in
    let front = take (a * size) bytes in
    let back = drop (a * size + length message) bytes in
    let wf : AreWhole size front = record {
      no_rest = no_rest size a front h (omega (arith, length-take (a * size) bytes));
      are_bytes = IsBytes-take (a * size) bytes w.are_bytes;
    }
    in
    let wb : AreWhole size back = subst (λ (k : ℕ). AreWhole size (drop k bytes)) (sym at) (AreWhole-drop size bytes (a + n) h w (omega arith)) in
    let wfm : AreWhole size (front ++ message) = AreWhole-append size front message h wf wm in
    let vb : values_of size back ≡ drop (a + n) vs = ap (λ (k : ℕ). values_of size (drop k bytes)) at ∙ values_of-drop size bytes (a + n) h (omega arith) in
    let room : (a + n) * size ≤ length vs * size = omega (arith, whole size bytes w.no_rest, ap (λ (k : ℕ). k * size) (length-values_of size bytes)) in
    let fits : a + n ≤ length vs = le_of_mul size (a + n) (length vs) h room in (
      AreWhole-append size (front ++ message) back h wfm wb,
      (values_of-append size (front ++ message) back h wfm.no_rest
          ∙ ap (λ (t : List ℕ). t ++ values_of size back) (values_of-append size front message h wf.no_rest)
          ∙ ap (λ (t : List ℕ). t ++ ms ++ values_of size back) (values_of-take size bytes a h (omega arith))
          ∙ ap (λ (t : List ℕ). take a vs ++ ms ++ t) vb
          ∙ sym (put_range vs ms a fits)),
    )
