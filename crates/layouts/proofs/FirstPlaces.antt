-- Elements of a basic type take the first places of a buffer.
use Rattle.std.proofs.Common.{◌≡◌, ℕ, zero, suc, ◌+◌, ◌*◌, ◌≤◌, max, List, [], ◌∷◌, ◌++◌, length, take, drop, nat_lt}
use Rattle.std.proofs.Common.{slice_set, refl, sym, ap, ◌∙◌, arith, append_assoc}
use Rattle.std.specs.List.{range_with_len}
use Rattle.std.proofs.Math.Seq.{get_or-append_seam}
use Rattle.std.proofs.lemmas.List.{set_at, length-append, take_all}
use Rattle.std.proofs.lemmas.List.FromFn.{length-range_with_len}
use Rattle.layouts.specs.Buffers.{elements_at, put_at, room_for}
use Rattle.layouts.specs.Laws.{BasicTypeTakesFirstPlaces}
use Rattle.layouts.specs.Layouts.{copies_at, highest_of, places}
use Rattle.layouts.proofs.PlaceLaws.{copies_at-none, copies_at-suc}

copies_up : (i n : ℕ) → copies_at i n (0 ∷ []) ≡ range_with_len i n
copies_up i zero = copies_at-none i (0 ∷ [])
copies_up i (suc n) =
    let e : i * 1 + 0 ≡ i = omega arith in
    copies_at-suc i n (0 ∷ [])
    ∙ ap (λ (ps : List ℕ). (i * 1 + 0) ∷ ps) (copies_up (i + 1) n)
    ∙ ap (λ (x : ℕ). x ∷ range_with_len (i + 1) n) e

-- the places are the numbers from 0 on
pub places_up : (n : ℕ) → places n (0 ∷ []) ≡ range_with_len 0 n
places_up n = copies_up 0 n

highest_up : (i n : ℕ) → highest_of (range_with_len i (suc n)) ≡ i + n
highest_up i zero = omega arith
highest_up i (suc n) = ap (λ (h : ℕ). max i h) (highest_up (i + 1) n) ∙ omega arith

room_up : (n : ℕ) → room_for (range_with_len 0 n) ≡ n
room_up zero = refl
room_up (suc n) = ap (λ (h : ℕ). h + 1) (highest_up 0 n) ∙ omega arith

-- the elements behind a beginning
elements_up : (front rest : List ℕ) (n : ℕ) → n ≤ length rest →
    elements_at (front ++ rest) (range_with_len (length front) n) ≡ take n rest
elements_up front [] zero h = refl
elements_up front (y ∷ ys) zero h = refl
elements_up front [] (suc n) h = absurd (omega arith)
elements_up front (y ∷ ys) (suc n) h =
    let longer : length front + 1 ≡ length (front ++ y ∷ []) = omega (arith, length-append front (y ∷ [])) in
    ap (λ (x : ℕ). x ∷ elements_at (front ++ y ∷ ys) (range_with_len (length front + 1) n))
    (get_or-append_seam front y ys 0)
    ∙ ap (λ (i : ℕ). y ∷ elements_at (front ++ y ∷ ys) (range_with_len i n)) longer
    ∙ ap (λ (b : List ℕ). y ∷ elements_at b (range_with_len (length (front ++ y ∷ [])) n))
    (sym (append_assoc front (y ∷ []) ys))
    ∙ ap (λ (xs : List ℕ). y ∷ xs) (elements_up (front ++ y ∷ []) ys n (omega arith))

drop_none : (xs : List ℕ) → drop 0 xs ≡ xs
drop_none [] = refl
drop_none (x ∷ xs) = refl

put_up : (front rest values : List ℕ) (n : ℕ) → length values ≤ n → length values ≤ length rest →
    put_at (front ++ rest) (range_with_len (length front) n) values ≡ front ++ (values ++ drop (length values) rest)
put_up front rest [] n l r = ap (λ (xs : List ℕ). front ++ xs) (sym (drop_none rest))
put_up front rest (x ∷ xs) zero l r = absurd (omega arith)
put_up front [] (x ∷ xs) (suc n) l r = absurd (omega arith)
put_up front (y ∷ ys) (x ∷ xs) (suc n) l r =
    let put : slice_set (front ++ y ∷ ys) (length front) x ≡ (front ++ x ∷ []) ++ ys = set_at front y ys x (length front) refl ∙ sym (append_assoc front (x ∷ []) ys) in
    let longer : length front + 1 ≡ length (front ++ x ∷ []) = omega (arith, length-append front (x ∷ [])) in
    ap (λ (b : List ℕ). put_at b (range_with_len (length front + 1) n) xs) put
    ∙ ap (λ (i : ℕ). put_at ((front ++ x ∷ []) ++ ys) (range_with_len i n) xs) longer
    ∙ put_up (front ++ x ∷ []) ys xs n (omega arith) (omega arith)
    ∙ append_assoc front (x ∷ []) (xs ++ drop (length xs) ys)

pub first_places : BasicTypeTakesFirstPlaces
first_places n buffer values =
    record {
      room = ap length (places_up n) ∙ length-range_with_len 0 n;
      too_short = ap (λ (ps : List ℕ). nat_lt (length buffer) (room_for ps)) (places_up n) ∙
          ap (λ (r : ℕ). nat_lt (length buffer) r) (room_up n);
      sent = λ long. ap (elements_at buffer) (places_up n) ∙ elements_up [] buffer n long;
      buffer_is = λ few long. ap (λ (ps : List ℕ). put_at buffer ps values) (places_up n) ∙
          put_up [] buffer values n few (omega arith);
    }

-- a buffer that is sent whole
pub whole_sent : (buffer : List ℕ) → elements_at buffer (places (length buffer) (0 ∷ [])) ≡ buffer
whole_sent buffer = (first_places (length buffer) buffer []).sent (omega arith) ∙
    take_all (length buffer) buffer (omega arith)
