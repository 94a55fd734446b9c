-- The places of a message's elements, and what is put there.
use Rattle.std.proofs.Common.{◌≡◌, ℕ, zero, suc, ◌+◌, ◌-◌, ◌*◌, ◌/◌, ◌%◌, ◌^◌, ◌<◌, ◌≤◌, Bool, true, false, cond, ltb}
use Rattle.std.proofs.Common.{List, [], ◌∷◌, ◌++◌, length, get_or, set, take, drop, Some, None, refl, sym, ap, subst}
use Rattle.std.proofs.Common.{◌∙◌, arith, inl, inr}
use Rattle.byteorder.specs.Endian.{big_bytes}
use Rattle.byteorder.specs.Numbers.{length-bytes_high_first}
use Rattle.std.proofs.Math.Nat.{div-eq_of_lt, mod-eq_of_lt, add-mul-div_right, mul-add-mod_self_right, suc-mul}
use Rattle.std.proofs.Math.Nat.{zero-mul}
use Rattle.std.proofs.Math.Seq.{take-add, take-append-add}
use Rattle.std.proofs.lemmas.Bool.{cases_lt, ltb-false, eq-eqb}
use Rattle.std.proofs.lemmas.List.{length-take, length-drop, get_or-drop, get_or-take, map_push, take-map, get_or-map}
use Rattle.std.proofs.lemmas.List.{get_or_append_left, get_or-append_right, append_assoc, set_split, take_more}
use Rattle.std.proofs.lemmas.List.{take_all, ext_get_or}
use Rattle.std.proofs.lemmas.List.FromFn.{length-map-range_with_len, get_or-map-range_with_len}
use Rattle.datatypes.specs.Contents.{Contents, values_of, AreWhole}
use Rattle.datatypes.specs.ContentLaws.{IsBytes-take, no_rest, values_of-append, values_of-take, values_of-drop}
use Rattle.datatypes.proofs.BufferSteps.{AreWhole-append, AreWhole-drop, AreWhole-single, single_is, element_fits}
use Rattle.vocabulary.specs.BasicTypes.{code_of}
use Rattle.derived_types.specs.declared.refusal.LayoutRefusal.TheVariants.{WrongType, TooShort}
use Rattle.derived_types.specs.Layouts.{Shape, extent_of, moved, places, copies_at, has_repeats}
use Rattle.datatypes.specs.Pieces.{piece_at}
use Rattle.datatypes.specs.Transfers.{room_for, put_at, is_same_type, send_fault, receive_fault, unpack_fault, place_of}
use Rattle.datatypes.specs.Transfers.{first_places, AreNear}
use Rattle.derived_types.proofs.LayoutLaws.{copies_at-suc, copies_at-more, length-moved, length-copies_at}
use Rattle.datatypes.proofs.PieceLaws.{AreWhole-piece, near_from_room}

-- ---- refusals

send_cases : (same short : Bool) → cond same (cond short (Some TooShort) None) (Some WrongType) ≡ None → short ≡ false
send_cases true true e = absurd cc
send_cases true false e = refl
send_cases false short e = absurd cc

receive_cases : (same twice short : Bool) →
    cond same (cond twice (Some WrongType) (cond short (Some TooShort) None)) (Some WrongType) ≡ None → short ≡ false
receive_cases true true short e = absurd cc
receive_cases true false true e = absurd cc
receive_cases true false false e = refl
receive_cases false twice short e = absurd cc

pub send_room : (buffer : Contents) (layout : Shape) (copies : ℕ) → send_fault buffer layout copies ≡ None →
    room_for (places copies layout.offsets) ≤ length buffer.values
unfolding send_fault
send_room buffer layout copies e =
    ltb-false (length buffer.values) (room_for (places copies layout.offsets))
    (send_cases (is_same_type buffer.basic layout.basic)
    (ltb (length buffer.values) (room_for (places copies layout.offsets))) e)

pub receive_room : (buffer : Contents) (layout : Shape) (copies : ℕ) → receive_fault buffer layout copies ≡ None →
    room_for (places copies layout.offsets) ≤ length buffer.values
unfolding receive_fault
receive_room buffer layout copies e =
    ltb-false (length buffer.values) (room_for (places copies layout.offsets))
    (receive_cases (is_same_type buffer.basic layout.basic) (has_repeats layout.offsets)
    (ltb (length buffer.values) (room_for (places copies layout.offsets))) e)

-- ---- places by number

later : (k l : ℕ) → 0 < l → l ≤ k → (k / l ≡ (k - l) / l + 1) × (k % l ≡ (k - l) % l)
later k l p le =
    let e : k ≡ (k - l) + 1 * l = omega arith in
    let f : k ≡ 1 * l + (k - l) = omega arith in (
      (ap (λ (n : ℕ). n / l) e ∙ add-mul-div_right (k - l) 1 p),
      (ap (λ (n : ℕ). n % l) f ∙ mul-add-mod_self_right 1 l (k - l)),
    )

pub get_or-copies_at : (first count k : ℕ) (xs : List ℕ) → 0 < length xs → k < count * length xs
    → get_or (copies_at first count xs) k 0 ≡ (first + k / length xs) * extent_of xs + get_or xs (k % length xs) 0
get_or-copies_at first zero k xs h lt = absurd (omega (arith, zero-mul (length xs)))
get_or-copies_at first (suc count) k xs h lt =
    let here = moved (first * extent_of xs) xs in
    let rest = copies_at (first + 1) count xs in
    let len = length-moved (first * extent_of xs) xs in
    let more = suc-mul count (length xs) in
    ap (λ (t : List ℕ). get_or t k 0) (copies_at-suc first count xs)
    ∙ elim (cases_lt k (length xs)) [
      | inl low ↦
          let q : k / length xs ≡ 0 = div-eq_of_lt low in
          let r : k % length xs ≡ k = mod-eq_of_lt low in
          get_or_append_left here rest 0 k (omega arith)
          ∙ get_or-map (λ (o : ℕ). first * extent_of xs + o) xs k 0 0 low
          ∙ ap (λ (n : ℕ). first * extent_of xs + get_or xs n 0) (sym r)
          ∙ ap (λ (n : ℕ). n * extent_of xs + get_or xs (k % length xs) 0) (omega arith)
      | inr high ↦
          let l = later k (length xs) h high in
          let q = l.0 in
          let ih = get_or-copies_at (first + 1) count (k - length xs) xs h (omega arith) in
          get_or-append_right here rest (length xs) k 0 len high
          ∙ ih
          ∙ ap (λ (n : ℕ). (first + 1 + (k - length xs) / length xs) * extent_of xs + get_or xs n 0) (sym l.1)
          ∙ ap (λ (n : ℕ). n * extent_of xs + get_or xs (k % length xs) 0) (omega arith)
    ]

pub some_offset : (copies count : ℕ) (xs : List ℕ) → count ≤ length (places copies xs) → 0 < count → 0 < length xs
some_offset copies count [] le p = let e = length-copies_at 0 copies [] in absurd (omega arith)
some_offset copies count (x ∷ xs) le p = omega arith

-- the places of the first elements are the first places
pub first_places-is : (copies count : ℕ) (xs : List ℕ) → count ≤ length (places copies xs) →
    first_places count xs ≡ take count (places copies xs)
first_places-is copies count xs le =
    let left = length-map-range_with_len (place_of xs) 0 count in
    let right = length-take count (places copies xs) in
    let all = length-copies_at 0 copies xs in
    ext_get_or 0 (first_places count xs) (take count (places copies xs)) (omega arith) (λ k lt.
    let below : k < count = omega arith in
    let some = some_offset copies count xs le (omega arith) in
    get_or-map-range_with_len (place_of xs) 0 count k k 0 below (omega arith)
    ∙ ap (λ (n : ℕ). n * extent_of xs + get_or xs (k % length xs) 0) (omega arith)
    ∙ sym (get_or-copies_at 0 copies k xs some (omega arith))
    ∙ sym (get_or-take count (places copies xs) k 0 below))

pub near_first : (copies count elements : ℕ) (xs : List ℕ) → count ≤ length (places copies xs) →
    room_for (places copies xs) ≤ elements → AreNear (first_places count xs) elements
near_first copies count elements xs le room k lt =
    let same = first_places-is copies count xs le in
    let left = length-map-range_with_len (place_of xs) 0 count in
    let below : k < count = omega arith in
    let near = near_from_room (places copies xs) elements room k (omega arith) in
    let here : get_or (first_places count xs) k 0 ≡ get_or (places copies xs) k 0 = ap (λ (t : List ℕ). get_or t k 0) same ∙ get_or-take count (places copies xs) k 0 below in
    omega arith

pub near_place : (count k elements : ℕ) (xs : List ℕ) → k < count → AreNear (first_places count xs) elements →
    place_of xs k < elements
near_place count k elements xs lt near =
    let left = length-map-range_with_len (place_of xs) 0 count in
    let here = get_or-map-range_with_len (place_of xs) 0 count k k 0 lt (omega arith) in
    let n = near k (omega arith) in
    omega arith

-- ---- elements put at their places

pub put_at-push : (values at ms : List ℕ) (place m : ℕ) → length at ≡ length ms →
    put_at values (at ++ place ∷ []) (ms ++ m ∷ []) ≡ set (put_at values at ms) place m
put_at-push values [] [] place m e = refl
put_at-push values [] (n ∷ ms) place m e = absurd (omega arith)
put_at-push values (p ∷ at) [] place m e = absurd (omega arith)
put_at-push values (p ∷ at) (n ∷ ms) place m e = put_at-push (set values p n) at ms place m (omega arith)

pub put_at-take : (values at ms : List ℕ) → put_at values (take (length ms) at) ms ≡ put_at values at ms
put_at-take values [] [] = refl
put_at-take values [] (m ∷ ms) = refl
put_at-take values (p ∷ at) [] = refl
put_at-take values (p ∷ at) (m ∷ ms) = put_at-take (set values p m) at ms

-- the bytes with those of another element at a place
abbrev pub with_piece : ℕ → List ℕ → ℕ → List ℕ → List ℕ
with_piece size bytes place piece = take (place * size) bytes ++ piece ++ drop (place * size + size) bytes

pub AreWhole-take : (size : ℕ) (bytes : List ℕ) (k : ℕ) → 0 < size → AreWhole size bytes → k * size ≤ length bytes →
    AreWhole size (take (k * size) bytes)
AreWhole-take size bytes k h w le = record {
  no_rest = no_rest size k (take (k * size) bytes) h (omega (arith, length-take (k * size) bytes));
  are_bytes = IsBytes-take (k * size) bytes w.are_bytes;
}

pub with_piece-is : (size : ℕ) (bytes message : List ℕ) (place k : ℕ) → 0 < size → AreWhole size bytes →
    AreWhole size message
    → place < length (values_of size bytes) → k < length (values_of size message)
    → AreWhole size (with_piece size bytes place (piece_at size message k))
    × (values_of size (with_piece size bytes place (piece_at size message k)) ≡
    set (values_of size bytes) place (get_or (values_of size message) k 0))
with_piece-is size bytes message place k h w wm lt lk =
    let vs = values_of size bytes in
    let m = get_or (values_of size message) k 0 in
    let piece = piece_at size message k in
    let front = take (place * size) bytes in
    let fits = element_fits size bytes place w lt in
    let next : place * size + size ≡ (place + 1) * size = omega arith in
    let one : place + 1 ≡ suc place = omega arith in
    let back = drop (place * size + size) bytes in
    let wf : AreWhole size front = AreWhole-take size bytes place h w (omega arith) in
    let wp = AreWhole-piece size message k h wm lk in
    let wb : AreWhole size back = subst (λ (n : ℕ). AreWhole size (drop n bytes)) (sym next) (AreWhole-drop size bytes (place + 1) h w (omega arith)) in
    let wfp : AreWhole size (front ++ piece) = AreWhole-append size front piece h wf wp.0 in
    let vb : values_of size back ≡ drop (place + 1) vs = ap (λ (n : ℕ). values_of size (drop n bytes)) next ∙ values_of-drop size bytes (place + 1) h (omega arith) in (
      AreWhole-append size (front ++ piece) back h wfp wb,
      (values_of-append size (front ++ piece) back h wfp.no_rest
          ∙ ap (λ (t : List ℕ). t ++ values_of size back) (values_of-append size front piece h wf.no_rest)
          ∙ ap (λ (t : List ℕ). t ++ values_of size piece ++ values_of size back)
          (values_of-take size bytes place h (omega arith))
          ∙ ap (λ (t : List ℕ). take place vs ++ t ++ values_of size back) wp.1
          ∙ ap (λ (t : List ℕ). take place vs ++ m ∷ [] ++ t) vb
          ∙ append_assoc (take place vs) (m ∷ []) (drop (place + 1) vs)
          ∙ ap (λ (n : ℕ). take place vs ++ m ∷ drop n vs) one
          ∙ sym (set_split vs place m lt)),
    )

-- what is put at the first places is put at the places
pub put_first : (copies : ℕ) (values offsets ms : List ℕ) → length ms ≤ length (places copies offsets) →
    put_at values (first_places (length ms) offsets) ms ≡ put_at values (places copies offsets) ms
put_first copies values offsets ms le =
    ap (λ (at : List ℕ). put_at values at ms) (first_places-is copies (length ms) offsets le) ∙
    put_at-take values (places copies offsets) ms

pub unpack_none : (message buffer : Contents) (layout : Shape) (copies : ℕ) → message.basic ≡ buffer.basic →
    receive_fault buffer layout copies ≡ None → unpack_fault message buffer layout copies ≡ None
unfolding unpack_fault
unpack_none message buffer layout copies e h =
    let t : is_same_type message.basic buffer.basic ≡ true = eq-eqb (code_of message.basic) (code_of buffer.basic) (ap code_of e) in
    ap (λ (b : Bool). cond b (receive_fault buffer layout copies) (Some WrongType)) t ∙ h

-- the bytes with those of a number at a place
pub with_number-is : (size : ℕ) (bytes : List ℕ) (place m : ℕ) → 0 < size → m < 256 ^ size → AreWhole size bytes →
    place < length (values_of size bytes)
    → AreWhole size (with_piece size bytes place (big_bytes size m)) ×
    (values_of size (with_piece size bytes place (big_bytes size m)) ≡ set (values_of size bytes) place m)
with_number-is size bytes place m h small w lt =
    let one = AreWhole-single size m h in
    let is : values_of size (big_bytes size m) ≡ m ∷ [] = single_is size m h small in
    let len : length (big_bytes size m) ≡ size = length-bytes_high_first size m in
    let within : 0 < length (values_of size (big_bytes size m)) = omega (arith, ap length is) in
    let all : piece_at size (big_bytes size m) 0 ≡ big_bytes size m =
    ap (λ (n : ℕ). take size (drop n (big_bytes size m))) (zero-mul size) ∙
    take_all size (big_bytes size m) (omega arith)
    in
    let put = with_piece-is size bytes (big_bytes size m) place 0 h w one lt within in
    let same : get_or (values_of size (big_bytes size m)) 0 0 ≡ m = ap (λ (t : List ℕ). get_or t 0 0) is in
    subst (λ (t : List ℕ). AreWhole size (with_piece size bytes place t) ×
    (values_of size (with_piece size bytes place t) ≡ set (values_of size bytes) place m)) all
    (subst (λ (n : ℕ). AreWhole size (with_piece size bytes place (piece_at size (big_bytes size m) 0)) ×
    (values_of size (with_piece size bytes place (piece_at size (big_bytes size m) 0)) ≡
    set (values_of size bytes) place n)) same put)

-- ---- elements put at offsets from a place on

pub near_moved : (from i elements : ℕ) (xs : List ℕ) → i < length xs → AreNear (moved from xs) elements →
    from + get_or xs i 0 < elements
near_moved from i elements xs lt near =
    let here = get_or-map (λ (o : ℕ). from + o) xs i 0 0 lt in
    let n = near i (omega (arith, length-moved from xs)) in
    omega arith

pub moved_more : (values xs ms : List ℕ) (from start i : ℕ) → i < length xs → start + i < length ms
    → put_at values (moved from (take (i + 1) xs)) (take (i + 1) (drop start ms)) ≡
    set (put_at values (moved from (take i xs)) (take i (drop start ms))) (from + get_or xs i 0)
    (get_or ms (start + i) 0)
moved_more values xs ms from start i lt lm =
    let ns = drop start ms in
    let ln : i < length ns = omega (arith, length-drop start ms) in
    let a = moved from (take i xs) in
    ap (λ (t : List ℕ). put_at values (moved from t) (take (i + 1) ns)) (take_more xs i 0 lt)
    ∙ ap (λ (t : List ℕ). put_at values t (take (i + 1) ns))
    (map_push (λ (o : ℕ). from + o) (take i xs) (get_or xs i 0))
    ∙ ap (put_at values (a ++ (from + get_or xs i 0) ∷ [])) (take_more ns i 0 ln)
    ∙ put_at-push values a (take i ns) (from + get_or xs i 0) (get_or ns i 0)
    (omega (arith, length-moved from (take i xs), length-take i xs, length-take i ns))
    ∙ ap (set (put_at values a (take i ns)) (from + get_or xs i 0)) (get_or-drop start ms i 0)

pub put_at-append : (values a b ms ns : List ℕ) → length a ≡ length ms → put_at values (a ++ b) (ms ++ ns) ≡
    put_at (put_at values a ms) b ns
put_at-append values [] b [] ns e = refl
put_at-append values [] b (m ∷ ms) ns e = absurd (omega arith)
put_at-append values (p ∷ a) b [] ns e = absurd (omega arith)
put_at-append values (p ∷ a) b (m ∷ ms) ns e = put_at-append (set values p m) a b ms ns (omega arith)

-- the elements put at places, and those of more places
pub part_more : (values front part ms : List ℕ) (n r : ℕ) → length front ≡ n → n ≤ length ms
    → put_at values (front ++ part) (take (n + r) ms) ≡
    put_at (put_at values front (take n ms)) part (take r (drop n ms))
part_more values front part ms n r e le =
    ap (put_at values (front ++ part)) (take-add n r ms)
    ∙ put_at-append values front part (take n ms) (take r (drop n ms)) (omega (arith, length-take n ms))

pub places_suc : (copies : ℕ) (xs : List ℕ) → places (copies + 1) xs ≡ places copies xs ++
    moved (copies * extent_of xs) xs
places_suc copies xs =
    let e : 0 + copies ≡ copies = omega arith in
    copies_at-more 0 copies xs ∙ ap (λ (k : ℕ). places copies xs ++ moved (k * extent_of xs) xs) e

pub whole_more : (values xs ms : List ℕ) (copies : ℕ) → copies * length xs ≤ length ms
    → put_at values (places (copies + 1) xs) (take ((copies + 1) * length xs) ms)
    ≡ put_at (put_at values (places copies xs) (take (copies * length xs) ms)) (moved (copies * extent_of xs) xs)
    (take (length xs) (drop (copies * length xs) ms))
whole_more values xs ms copies le =
    let more : (copies + 1) * length xs ≡ copies * length xs + length xs = omega arith in
    let l = length-copies_at 0 copies xs in
    ap (λ (t : List ℕ). put_at values t (take ((copies + 1) * length xs) ms)) (places_suc copies xs)
    ∙ ap (λ (k : ℕ). put_at values (places copies xs ++ moved (copies * extent_of xs) xs) (take k ms)) more
    ∙ part_more values (places copies xs) (moved (copies * extent_of xs) xs) ms (copies * length xs) (length xs) l le

-- the first places are those of whole copies and of a part of one
pub first_split : (copies r : ℕ) (xs : List ℕ) → r ≤ length xs → first_places (copies * length xs + r) xs ≡
    places copies xs ++ moved (copies * extent_of xs) (take r xs)
first_split copies r xs le =
    let n = copies * length xs in
    let by = copies * extent_of xs in
    let l = length-copies_at 0 copies xs in
    let m = length-copies_at 0 (copies + 1) xs in
    let more : (copies + 1) * length xs ≡ n + length xs = omega arith in
    first_places-is (copies + 1) (n + r) xs (omega arith)
    ∙ ap (take (n + r)) (places_suc copies xs)
    ∙ ap (λ (k : ℕ). take (k + r) (places copies xs ++ moved by xs)) (sym l)
    ∙ take-append-add (places copies xs) (moved by xs) r
    ∙ ap (λ (t : List ℕ). places copies xs ++ t) (take-map (λ (o : ℕ). by + o) r xs)

-- the places of a copy, or of a part of one, are near where the first places are
pub near_part : (count copies r elements : ℕ) (xs : List ℕ) → r ≤ length xs → copies * length xs + r ≤ count →
    AreNear (first_places count xs) elements → AreNear (moved (copies * extent_of xs) (take r xs)) elements
near_part count copies r elements xs le room near i lt =
    let len = length-moved (copies * extent_of xs) (take r xs) in
    let lr = length-take r xs in
    let below : i < r = omega arith in
    let inside : i < length xs = omega arith in
    let p : 0 < length xs = omega arith in
    let k = copies * length xs + i in
    let e : k ≡ i + copies * length xs = omega arith in
    let q : k / length xs ≡ copies = ap (λ (n : ℕ). n / length xs) e ∙ add-mul-div_right i copies p ∙ ap (λ (n : ℕ). n + copies) (div-eq_of_lt inside) ∙ omega arith in
    let m : k % length xs ≡ i = mul-add-mod_self_right copies (length xs) i ∙ mod-eq_of_lt inside in
    let n = near_place count k elements xs (omega arith) near in
    let is : place_of xs k ≡ copies * extent_of xs + get_or xs i 0 = ap (λ (c : ℕ). c * extent_of xs + get_or xs (k % length xs) 0) q ∙ ap (λ (j : ℕ). copies * extent_of xs + get_or xs j 0) m in
    let here : get_or (moved (copies * extent_of xs) (take r xs)) i 0 ≡ copies * extent_of xs + get_or xs i 0 =
    get_or-map (λ (o : ℕ). copies * extent_of xs + o) (take r xs) i 0 0 (omega arith) ∙
    ap (λ (o : ℕ). copies * extent_of xs + o) (get_or-take r xs i 0 below)
    in
    omega arith

pub near_copy_whole : (count copies elements : ℕ) (xs : List ℕ) → copies * length xs + length xs ≤ count →
    AreNear (first_places count xs) elements → AreNear (moved (copies * extent_of xs) xs) elements
near_copy_whole count copies elements xs room near =
    subst (λ (t : List ℕ). AreNear (moved (copies * extent_of xs) t) elements) (take_all (length xs) xs (omega arith))
    (near_part count copies (length xs) elements xs (omega arith) room near)
