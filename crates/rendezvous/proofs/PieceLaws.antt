-- Pieces put together are the data, and a collection that takes them is whole with the last one.
use Rattle.std.proofs.Common.{◌≡◌, ℕ, zero, suc, ◌+◌, ◌-◌, ◌*◌, ◌/◌, ◌%◌, ◌<◌, ◌≤◌, min, true, List, [], ◌∷◌, ◌++◌}
use Rattle.std.proofs.Common.{length, drop, map, refl, sym, ap, ◌∙◌, arith, subst}
use Rattle.std.specs.List.{range_with_len}
use Rattle.std.proofs.lemmas.Bool.{lt-ltb, eq-eqb, ne_eqb, and_from}
use Rattle.std.proofs.lemmas.List.{append_assoc, length-append, length-map, length-take, length-drop, take-append-drop}
use Rattle.std.proofs.lemmas.List.{drop-drop, drop_min, take_all}
use Rattle.std.proofs.lemmas.List.FromFn.{length-range_with_len}
use Rattle.std.proofs.Math.Nat.{mul-le-mul_right}
use Rattle.vocabulary.specs.declared.basic_type.BasicType.{BasicType}
use Rattle.vocabulary.specs.BasicTypes.{size_of}
use Rattle.datatypes.specs.Contents.{bytes_of, AreWithin}
use Rattle.datatypes.specs.ContentLaws.{sizes, length-bytes_of, values_of-bytes_of}
use Rattle.vocabulary.specs.MessageLimits.{frame_limit_of}
use Rattle.vocabulary.specs.declared.message_limit.MessageLimit.{MessageLimit}
use Rattle.vocabulary.proofs.MessageLimits.{frame_least}
use Rattle.rendezvous.specs.Pieces.{first_piece, piece_at, piece_count, pieces_of}
use Rattle.rendezvous.specs.Collections.{Collecting, beginning, is_next_data, with_piece, due_bytes}
use Rattle.rendezvous.specs.WholePieces.{joined, IsFullBefore, AreCut, ArePieces, AreTaken, ArriveWhole}

-- so many pieces have so many bytes, and no piece is empty
record IsCount (size count len : ℕ) : Type 0 where
  high : len ≤ count * size
  low : count * size < len + size

nil_of : (xs : List ℕ) → length xs ≡ 0 → xs ≡ []
nil_of [] e = refl
nil_of (x ∷ xs) e = absurd (omega (arith, e))

count_of : (size q r len : ℕ) → 0 < size → r < size → q * size + r ≡ len → IsCount size (q + min 1 r) len
count_of size q zero len p lt e =
    let n : q + min 1 0 ≡ q = omega arith in
    subst (λ (k : ℕ). IsCount size k len) (sym n) (record { high = omega (arith, e); low = omega (arith, e) })
count_of size q (suc r) len p lt e =
    let n : q + min 1 (suc r) ≡ q + 1 = omega arith in
    subst (λ (k : ℕ). IsCount size k len) (sym n) (record { high = omega (arith, e); low = omega (arith, e) })

counted : (size len : ℕ) → 0 < size → IsCount size (len / size + min 1 (len % size)) len
counted size len p =
    let split : (len / size) * size + len % size ≡ len = omega arith in
    let lt : len % size < size = omega arith in
    count_of size (len / size) (len % size) len p lt split

fewer : (size m len : ℕ) → IsCount size (suc m) len → IsCount size m (len - size)
fewer size m len h = record { high = omega (arith, h.high); low = omega (arith, h.low) }

-- the first piece and what stands behind it
front_and_rest : (size : ℕ) (xs : List ℕ) → first_piece size xs ++ drop size xs ≡ xs
front_and_rest size xs =
    let n : min size (length xs) ≡ min (length xs) size = omega arith in
    let rest : drop (min (length xs) size) xs ≡ drop size xs = ap (λ (k : ℕ). drop k xs) (sym n) ∙ drop_min size xs in
    ap (λ (t : List ℕ). first_piece size xs ++ t) (sym rest) ∙ take-append-drop (min (length xs) size) xs

length_first : (size : ℕ) (xs : List ℕ) → length (first_piece size xs) ≡ min (length xs) size
length_first size xs = omega (arith, length-take (min (length xs) size) xs)

rest_behind : (size k : ℕ) (xs : List ℕ) → drop size (drop (k * size) xs) ≡ drop (suc k * size) xs
rest_behind size k xs =
    let n : k * size + size ≡ suc k * size = omega arith in
    drop-drop size (k * size) xs ∙ ap (λ (m : ℕ). drop m xs) n

joined_from : (size k n : ℕ) (xs : List ℕ) → IsCount size n (length (drop (k * size) xs)) →
    joined (map (piece_at size xs) (range_with_len k n)) ≡ drop (k * size) xs
joined_from size k zero xs h = sym (nil_of (drop (k * size) xs) (omega (arith, h.high)))
joined_from size k (suc n) xs h =
    let here = drop (k * size) xs in
    let behind : drop size here ≡ drop (suc k * size) xs = rest_behind size k xs in
    let len : length here - size ≡ length (drop (suc k * size) xs) = sym (length-drop size here) ∙ ap length behind in
    let next : suc k ≡ k + 1 = omega arith in
    let rest = joined_from size (suc k) n xs (subst (λ (m : ℕ). IsCount size n m) len (fewer size n (length here) h)) in
    ap (λ (j : ℕ). first_piece size here ++ joined (map (piece_at size xs) (range_with_len j n))) (sym next)
    ∙ ap (λ (t : List ℕ). first_piece size here ++ t) (rest ∙ sym behind)
    ∙ front_and_rest size here

some_piece : (size n len first : ℕ) → IsCount size (suc n) len → first ≡ min len size → 1 ≤ first
some_piece size n len first h e = omega (arith, h.low, h.high, e)

full_piece : (size n len first : ℕ) → 0 < n → IsCount size (suc n) len → first ≡ min len size → first ≡ size
full_piece size zero len first p h e = absurd (omega (arith, p))
full_piece size (suc n) len first p h e = omega (arith, h.low, h.high, e)

full_before : (size k n : ℕ) (xs : List ℕ) (piece : List ℕ) → (0 < n → length piece ≡ size) →
    IsFullBefore (map (piece_at size xs) (range_with_len k n)) size piece
full_before size k zero xs piece h = tt
full_before size k (suc n) xs piece h = h (omega arith)

cut_from : (size k n : ℕ) (xs : List ℕ) → IsCount size n (length (drop (k * size) xs)) →
    AreCut size k (map (piece_at size xs) (range_with_len k n))
cut_from size k zero xs h = tt
cut_from size k (suc n) xs h =
    let here = drop (k * size) xs in
    let behind : drop size here ≡ drop (suc k * size) xs = rest_behind size k xs in
    let len : length here - size ≡ length (drop (suc k * size) xs) = sym (length-drop size here) ∙ ap length behind in
    let next : suc k ≡ k + 1 = omega arith in
    let fewer_left = fewer size n (length here) h in
    let rest = cut_from size (suc k) n xs (subst (λ (m : ℕ). IsCount size n m) len fewer_left) in
    let first = length_first size here in
    let full : 0 < n → length (first_piece size here) ≡ size = λ some. full_piece size n (length here) (length (first_piece size here)) some h first in
    let some : 1 ≤ length (first_piece size here) = some_piece size n (length here) (length (first_piece size here)) h first in
    let most : length (first_piece size here) ≤ size = omega (arith, first) in (
      record {
        offset = refl;
        some = some;
        most = most;
        full =
            full_before size (k + 1) n xs (first_piece size here) full;
      },
      subst (λ (j : ℕ). AreCut size (suc k) (map (piece_at size xs) (range_with_len j n))) next rest,
    )

-- the first piece stands in front of all
from_start : (size : ℕ) (xs : List ℕ) → drop (0 * size) xs ≡ xs
from_start size xs = let none : 0 * size ≡ 0 = omega arith in ap (λ (k : ℕ). drop k xs) none

pieces_by : (size : ℕ) (bytes : List ℕ) → 0 < size → ArePieces size bytes (pieces_of size bytes)
pieces_by size bytes p =
    let start = from_start size bytes in
    let h : IsCount size (piece_count size bytes) (length (drop (0 * size) bytes)) = subst (λ (xs : List ℕ). IsCount size (piece_count size bytes) (length xs)) (sym start) (counted size (length bytes) p) in
    record {
      all = joined_from size 0 (piece_count size bytes) bytes h ∙ start;
      cut = cut_from size 0 (piece_count size bytes) bytes h;
    }

some_bytes : (limit : MessageLimit) → 0 < frame_limit_of limit
some_bytes limit = let low = frame_least limit in omega (arith, low)

pub pieces : (limit : MessageLimit) (bytes : List ℕ) → ArePieces (frame_limit_of limit) bytes (pieces_of (frame_limit_of limit) bytes)
pieces limit bytes = pieces_by (frame_limit_of limit) bytes (some_bytes limit)

-- A COLLECTION THAT TAKES THEM

due : (c : Collecting) (offset : ℕ) (piece : List ℕ) → 0 < length piece → offset ≡ length c.bytes →
    length piece ≡ due_bytes c → is_next_data c offset piece ≡ true
due c offset piece some at len =
    and_from _ _ (and_from _ _ (lt-ltb 0 (length piece) some) (eq-eqb offset (length c.bytes) at))
    (eq-eqb (length piece) (due_bytes c) len)

-- a collection that has the bytes before a piece, and waits for the rest
record IsAt (size k : ℕ) (xs : List ℕ) (c : Collecting) : Type 0 where
  len : length c.bytes ≡ k * size
  total : c.total ≡ length xs
  whole : c.bytes ++ drop (k * size) xs ≡ xs

lengths : (size k : ℕ) (xs : List ℕ) (c : Collecting) → IsAt size k xs c →
    c.total ≡ k * size + length (drop (k * size) xs)
lengths size k xs c h = omega (arith, h.total, h.len, ap length h.whole, length-append c.bytes (drop (k * size) xs))

piece_due : (size k n : ℕ) (xs : List ℕ) (c : Collecting) → size ≡ frame_limit_of c.limit →
    IsCount size (suc n) (length (drop (k * size) xs)) → IsAt size k xs c →
    is_next_data c (k * size) (first_piece size (drop (k * size) xs)) ≡ true
piece_due size k n xs c e h at =
    let here = drop (k * size) xs in
    let first = length_first size here in
    let some : 1 ≤ length (first_piece size here) = some_piece size n (length here) (length (first_piece size here)) h first in
    let total = lengths size k xs c at in
    let len : length (first_piece size here) ≡ min (c.total - length c.bytes) (frame_limit_of c.limit) = omega (arith, first, total, at.len, e) in
    due c (k * size) (first_piece size here) some (sym at.len) len

taken_from : (size k n : ℕ) (xs : List ℕ) (c : Collecting) → size ≡ frame_limit_of c.limit →
    IsCount size (suc n) (length (drop (k * size) xs)) → IsAt size k xs c →
    AreTaken c (piece_at size xs k ∷ map (piece_at size xs) (range_with_len (k + 1) n)) (record c { bytes = xs })
taken_from size k zero xs c e h at =
    let here = drop (k * size) xs in
    let all : length here ≤ min (length here) size = omega (arith, h.high) in
    let last : first_piece size here ≡ here = take_all (min (length here) size) here all in
    let bytes : c.bytes ++ first_piece size here ≡ xs = ap (λ (t : List ℕ). c.bytes ++ t) last ∙ at.whole in (
      piece_due size k zero xs c e h at,
      eq-eqb (length (c.bytes ++ first_piece size here)) c.total (ap length bytes ∙ sym at.total),
      ap (λ (t : List ℕ). record c { bytes = t }) bytes,
    )
taken_from size k (suc n) xs c e h at =
    let here = drop (k * size) xs in
    let piece = first_piece size here in
    let behind : drop size here ≡ drop (suc k * size) xs = rest_behind size k xs in
    let len : length here - size ≡ length (drop (suc k * size) xs) = sym (length-drop size here) ∙ ap length behind in
    let next : suc k ≡ k + 1 = omega arith in
    let full : length piece ≡ size = full_piece size (suc n) (length here) (length piece) (omega arith) h (length_first size here) in
    let total = lengths size k xs c at in
    let more : length here ≡ size → ⊥ = λ (same : length here ≡ size). absurd (omega (arith, h.low, same)) in
    let long : length (c.bytes ++ piece) ≡ k * size + size = omega (arith, length-append c.bytes piece, at.len, full) in
    let unfinished : length (c.bytes ++ piece) ≡ c.total → ⊥ = λ (same : length (c.bytes ++ piece) ≡ c.total). more (omega (arith, same, long, total)) in
    let after : IsAt size (suc k) xs (with_piece c piece) = record {
      len = omega (arith, long);
      total = at.total;
      whole = append_assoc c.bytes piece (drop (suc k * size) xs)
          ∙ ap (λ (t : List ℕ). c.bytes ++ t) (ap (λ (t : List ℕ). piece ++ t) (sym behind) ∙ front_and_rest size here)
          ∙ at.whole;
    } in
    let rest = taken_from size (suc k) n xs (with_piece c piece) e (subst (λ (m : ℕ). IsCount size (suc n) m) len (fewer size (suc n) (length here) h)) after in (
      piece_due size k (suc n) xs c e h at,
      ne_eqb (length (c.bytes ++ piece)) c.total unfinished,
      subst (λ (j : ℕ). AreTaken (with_piece c piece)
          (piece_at size xs j ∷ map (piece_at size xs) (range_with_len (j + 1) n)) (record c { bytes = xs })) next rest,
    )

one_or_more : (size n len : ℕ) → IsCount size n len → 0 < len → (m : ℕ) × (n ≡ suc m)
one_or_more size zero len h p = absurd (omega (arith, h.high))
one_or_more size (suc m) len h p = (m, refl)

all_taken : (xs : List ℕ) (c : Collecting) → 0 < length xs → c.bytes ≡ [] → c.total ≡ length xs →
    AreTaken c (pieces_of (frame_limit_of c.limit) xs) (record c { bytes = xs })
all_taken xs c p none total =
    let size : ℕ = frame_limit_of c.limit in
    let h : IsCount size (piece_count size xs) (length xs) = counted size (length xs) (some_bytes c.limit) in
    let some = one_or_more size (piece_count size xs) (length xs) h p in
    let zero_is : 0 * size ≡ 0 = omega arith in
    let start = from_start size xs in
    let whole : c.bytes ++ drop (0 * size) xs ≡ xs = ap (λ (t : List ℕ). c.bytes ++ t) start ∙ ap (λ (t : List ℕ). t ++ xs) none in
    let at : IsAt size 0 xs c = record { len = ap length none ∙ sym zero_is; total = total; whole = whole } in
    let many : IsCount size (suc some.0) (length (drop (0 * size) xs)) = subst (λ (t : List ℕ). IsCount size (suc some.0) (length t)) (sym start) (subst (λ (n : ℕ). IsCount size n (length xs)) some.1 h) in
    subst (λ (n : ℕ). AreTaken c (map (piece_at size xs) (range_with_len 0 n)) (record c { bytes = xs }))
    (sym some.1)
    (taken_from size 0 some.0 xs c refl many at)

pub elements : (limit : MessageLimit) (source transfer request : ℕ) (basic : BasicType) (values : List ℕ) → 0 < length values →
    AreWithin (size_of basic) values → ArriveWhole limit source transfer request basic values
elements limit source transfer request basic values p within =
    let size = size_of basic in
    let bytes = bytes_of size values in
    let c = beginning limit source transfer request basic (length values) in
    let low : 0 < size = (sizes basic).positive in
    let len : length bytes ≡ length values * size = length-bytes_of size values in
    let wide : 1 * size ≤ length values * size = mul-le-mul_right size p in
    let some : 0 < length bytes = omega (arith, len, wide, low) in
    record {
      last = record c { bytes = bytes };
      taken = all_taken bytes c some refl (sym len);
      whole = ap (λ (t : List ℕ). record { request = request; elements = record { basic = basic; values = t } })
          (values_of-bytes_of size values low within);
    }

-- so many pieces are there
pub count_is : (size : ℕ) (bytes : List ℕ) → length (pieces_of size bytes) ≡ piece_count size bytes
count_is size bytes =
    length-map (range_with_len 0 (piece_count size bytes)) (piece_at size bytes)
    ∙ length-range_with_len 0 (piece_count size bytes)
