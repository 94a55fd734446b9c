-- Elements that are gathered one after the other, over others.
use Rattle.std.proofs.Common.{◌≡◌, ℕ, zero, suc, ◌+◌, ◌/◌, ◌<◌, ◌≤◌, List, [], ◌∷◌, ◌++◌, length, get_or, set, take}
use Rattle.std.proofs.Common.{drop, ◌*◌, refl, sym, ap, ◌∙◌, arith}
use Rattle.std.specs.Prelude.{replicate}
use Rattle.std.proofs.Math.Nat.{zero-mul, mul-div_cancel}
use Rattle.std.proofs.lemmas.List.{length-append, length-take, length-drop, length-map, length-replicate, set_split}
use Rattle.std.proofs.lemmas.List.{take_at, take_more, map_push, append_assoc, append-nil, map-append, get_or-map}
use Rattle.std.proofs.lemmas.Slice.{drop-append-drop}
use Rattle.datatypes.specs.Contents.{values_of, AreWhole}
use Rattle.datatypes.specs.ContentLaws.{no_rest, length-values_of}
use Rattle.derived_types.specs.Layouts.{moved, places, extent_of}
use Rattle.datatypes.specs.Transfers.{elements_at, room_for, AreNear}
use Rattle.derived_types.proofs.LayoutLaws.{copies_at-none, length-moved, length-copies_at, get_or-le-highest_of}
use Rattle.datatypes.proofs.PieceLaws.{room_for-places}
use Rattle.datatypes.proofs.PlaceLaws.{places_suc}

-- one element more, over the next one of the rest
pub over_more : (front old : List ℕ) (n v : ℕ) → length front ≡ n → n < length old → set (front ++ drop n old) n v ≡
    (front ++ v ∷ []) ++ drop (n + 1) old
over_more front old n v e lt =
    let all = front ++ drop n old in
    let one : suc n ≡ n + 1 = omega arith in
    let long : n < length all = omega (arith, length-append front (drop n old), length-drop n old) in
    set_split all n v long
    ∙ ap (λ (t : List ℕ). t ++ v ∷ drop (suc n) all) (take_at front (drop n old) n e)
    ∙ ap (λ (t : List ℕ). front ++ v ∷ t) (ap (λ (k : ℕ). drop k all) one ∙
    drop-append-drop n old front (n + 1) (omega arith) e)
    ∙ sym (append_assoc front (v ∷ []) (drop (n + 1) old))

pub elements_more : (values xs : List ℕ) (from i : ℕ) → i < length xs →
    elements_at values (moved from (take (i + 1) xs)) ≡ elements_at values (moved from (take i xs)) ++
    get_or values (from + get_or xs i 0) 0 ∷ []
elements_more values xs from i lt =
    ap (λ (t : List ℕ). elements_at values (moved from t)) (take_more xs i 0 lt)
    ∙ ap (elements_at values) (map_push (λ (o : ℕ). from + o) (take i xs) (get_or xs i 0))
    ∙ map_push (λ (p : ℕ). get_or values p 0) (moved from (take i xs)) (from + get_or xs i 0)

pub fill_more : (old values xs : List ℕ) (at from i : ℕ) → i < length xs → at + i < length old
    → set ((take at old ++ elements_at values (moved from (take i xs))) ++ drop (at + i) old) (at + i)
    (get_or values (from + get_or xs i 0) 0)
    ≡ (take at old ++ elements_at values (moved from (take (i + 1) xs))) ++ drop (at + (i + 1)) old
fill_more old values xs at from i lt room =
    let here = elements_at values (moved from (take i xs)) in
    let v = get_or values (from + get_or xs i 0) 0 in
    let len : length (take at old ++ here) ≡ at + i =
    length-append (take at old) here ∙
    omega (
      arith,
      length-take at old,
      length-map (moved from (take i xs)) (λ (p : ℕ). get_or values p 0),
      length-moved from (take i xs),
      length-take i xs,
    )
    in
    let next : at + i + 1 ≡ at + (i + 1) = omega arith in
    over_more (take at old ++ here) old (at + i) v len room
    ∙ ap (λ (t : List ℕ). t ++ drop (at + i + 1) old) (append_assoc (take at old) here (v ∷ []) ∙
    ap (λ (t : List ℕ). take at old ++ t) (sym (elements_more values xs from i lt)))
    ∙ ap (λ (k : ℕ). (take at old ++ elements_at values (moved from (take (i + 1) xs))) ++ drop k old) next

-- a copy is near where there is room for all
pub near_copy_of : (copies i elements : ℕ) (xs : List ℕ) → 0 < length xs → i < copies →
    room_for (places copies xs) ≤ elements → AreNear (moved (i * extent_of xs) xs) elements
near_copy_of copies i elements xs h lt room k below =
    let by = i * extent_of xs in
    let r = room_for-places copies i xs h lt in
    let inside : k < length xs = omega (arith, length-moved by xs) in
    let high = get_or-le-highest_of xs k in
    let is = get_or-map (λ (o : ℕ). by + o) xs k 0 0 inside in
    omega arith

pub copy_filled : (old values xs : List ℕ) (k : ℕ)
    → take (k * length xs) (elements_at values (places k xs) ++ drop (k * length xs) old) ++
    elements_at values (moved (k * extent_of xs) xs) ++
    drop (k * length xs + length xs) (elements_at values (places k xs) ++ drop (k * length xs) old)
    ≡ elements_at values (places (k + 1) xs) ++ drop ((k + 1) * length xs) old
copy_filled old values xs k =
    let n = k * length xs in
    let front = elements_at values (places k xs) in
    let part = elements_at values (moved (k * extent_of xs) xs) in
    let all = front ++ drop n old in
    let len : length front ≡ n = length-map (places k xs) (λ (p : ℕ). get_or values p 0) ∙ length-copies_at 0 k xs in
    let next : n + length xs ≡ (k + 1) * length xs = omega arith in
    ap (λ (t : List ℕ). t ++ part ++ drop (n + length xs) all) (take_at front (drop n old) n len)
    ∙ ap (λ (t : List ℕ). front ++ part ++ t) (drop-append-drop n old front (n + length xs) (omega arith) len)
    ∙ ap (λ (t : List ℕ). t ++ drop (n + length xs) old)
    (sym (map-append (λ (p : ℕ). get_or values p 0) (places k xs) (moved (k * extent_of xs) xs)))
    ∙ ap (λ (t : List ℕ). elements_at values t ++ drop (n + length xs) old) (sym (places_suc k xs))
    ∙ ap (λ (m : ℕ). elements_at values (places (k + 1) xs) ++ drop m old) next

drop_length : (xs : List ℕ) → drop (length xs) xs ≡ []
drop_length [] = refl
drop_length (x ∷ xs) = drop_length xs

pub all_filled : (old front : List ℕ) (n : ℕ) → length old ≡ n → front ++ drop n old ≡ front
all_filled old front n e = ap (λ (t : List ℕ). front ++ t) (ap (λ (k : ℕ). drop k old) (sym e) ∙ drop_length old) ∙
    append-nil front

pub none_filled : (old values xs : List ℕ) → old ≡ elements_at values (places 0 xs) ++ drop (0 * length xs) old
none_filled old values xs =
    sym (ap (λ (t : List ℕ). elements_at values t ++ drop (0 * length xs) old) (copies_at-none 0 xs) ∙
    ap (λ (n : ℕ). drop n old) (zero-mul (length xs)))

-- ---- what is filled: so many bytes that are all 0

no_number : (n i : ℕ) → get_or (replicate n 0) i 0 < 256
no_number zero i = omega arith
no_number (suc n) zero = omega arith
no_number (suc n) (suc i) = no_number n i

pub zeros_whole : (size count : ℕ) → 0 < size → AreWhole size (replicate (count * size) 0) ×
    (length (values_of size (replicate (count * size) 0)) ≡ count)
zeros_whole size count h =
    let zeros = replicate (count * size) 0 in
    let len : length zeros ≡ count * size = length-replicate (count * size) 0 in (
      (record { no_rest = no_rest size count zeros h len; are_bytes = no_number (count * size) }),
      (length-values_of size zeros ∙ ap (λ (n : ℕ). n / size) len ∙ mul-div_cancel count h),
    )
