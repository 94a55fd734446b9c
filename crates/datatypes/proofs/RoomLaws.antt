-- Zeros: their elements and bytes, and those of what stands before them.
use Rattle.std.proofs.Common.{◌≡◌, ℕ, zero, suc, ◌+◌, ◌-◌, ◌*◌, ◌/◌, ◌%◌, ◌^◌, ◌<◌, ◌≤◌, List, [], ◌∷◌, ◌++◌, length}
use Rattle.std.proofs.Common.{take, drop, get_or, refl, sym, ap, ◌∙◌, arith, inl, inr, append_assoc}
use Rattle.std.specs.Prelude.{replicate}
use Rattle.std.proofs.Math.Nat.{zero-mul, suc-mul, add-mul, mul-le-mul_right}
use Rattle.std.proofs.lemmas.Bool.{cases_lt}
use Rattle.std.proofs.lemmas.List.{length-append, length-replicate, get_or_append_left, get_or-append_right, append-nil}
use Rattle.std.proofs.lemmas.List.{drop-replicate, take-append-le, length-drop}
use Rattle.byteorder.specs.Endian.{big_bytes, big_number}
use Rattle.vocabulary.specs.declared.basic_type.BasicType.{BasicType}
use Rattle.vocabulary.specs.declared.basic_type.BasicType.TheVariants.{Int8, Int16, Int32, Int64, Uint8, Uint16, Uint32}
use Rattle.vocabulary.specs.declared.basic_type.BasicType.TheVariants.{Uint64, Byte, Float32, Float64}
use Rattle.vocabulary.specs.BasicTypes.{size_of}
use Rattle.datatypes.specs.Contents.{values_of, bytes_of, copies_of, AreWhole, AreWithin}
use Rattle.datatypes.specs.ContentLaws.{IsBytes, sizes, no_rest, whole, length-values_of, values_of-nil}
use Rattle.datatypes.specs.ContentLaws.{values_of-append, values_of-single, values_of-take, values_of-drop}
use Rattle.datatypes.specs.Rooms.{StoreState, IsStored, most_written, with_zeros}
use Rattle.datatypes.proofs.BufferSteps.{AreWhole-append}

-- a store, by its fields
abbrev pub state_of : BasicType → List ℕ → ℕ → StoreState
state_of basic values unwritten = record { basic = basic; values = values; unwritten = unwritten }

-- ---- counts

-- elements have at least as many bytes as they are
pub fewer : (basic : BasicType) (n : ℕ) → n ≤ n * size_of basic
fewer Int8 n = omega arith
fewer Int16 n = omega arith
fewer Int32 n = omega arith
fewer Int64 n = omega arith
fewer Uint8 n = omega arith
fewer Uint16 n = omega arith
fewer Uint32 n = omega arith
fewer Uint64 n = omega arith
fewer Byte n = omega arith
fewer Float32 n = omega arith
fewer Float64 n = omega arith

-- the bytes of all elements of a store
pub all_bytes_are : (basic : BasicType) (bytes : List ℕ) (unwritten : ℕ) → AreWhole (size_of basic) bytes →
    length bytes + unwritten * size_of basic ≡
    (length (values_of (size_of basic) bytes) + unwritten) * size_of basic
all_bytes_are basic bytes unwritten w =
    let size = size_of basic in
    let e : length bytes ≡ length bytes / size * size = whole size bytes w.no_rest in
    let l : length (values_of size bytes) * size ≡ length bytes / size * size =
    ap (λ (n : ℕ). n * size) (length-values_of size bytes) in
    let sum = add-mul (length (values_of size bytes)) unwritten size in
    omega arith

-- what is written of a store has fewer elements than bytes
pub fewer_values : (basic : BasicType) (bytes : List ℕ) → AreWhole (size_of basic) bytes →
    length (values_of (size_of basic) bytes) ≤ length bytes
fewer_values basic bytes w =
    let size = size_of basic in
    let e : length bytes ≡ length bytes / size * size = whole size bytes w.no_rest in
    let f : length bytes / size ≤ length bytes / size * size = fewer basic (length bytes / size) in
    let l = length-values_of size bytes in
    omega arith

pub length-zeros : (values : List ℕ) (count : ℕ) → length (values ++ replicate count 0) ≡ length values + count
length-zeros values count =
    length-append values (replicate count 0) ∙ ap (λ (n : ℕ). length values + n) (length-replicate count 0)

-- ---- the bytes of zeros

replicate_sum : (m n : ℕ) → replicate {A = ℕ} (m + n) 0 ≡ replicate m 0 ++ replicate n 0
replicate_sum zero n = ap (λ (k : ℕ). replicate k 0) (omega arith)
replicate_sum (suc m) n =
    let next : suc m + n ≡ suc (m + n) = omega arith in
    ap (λ (k : ℕ). replicate k 0) next ∙ ap (λ (t : List ℕ). 0 ∷ t) (replicate_sum m n)

pub zero_at : (n i : ℕ) → get_or (replicate {A = ℕ} n 0) i 0 ≡ 0
zero_at zero i = refl
zero_at (suc n) zero = refl
zero_at (suc n) (suc i) = zero_at n i

zero_number : (basic : BasicType) → big_number (size_of basic) (replicate (size_of basic) 0) ≡ 0
zero_number Int8 = refl
zero_number Int16 = refl
zero_number Int32 = refl
zero_number Int64 = refl
zero_number Uint8 = refl
zero_number Uint16 = refl
zero_number Uint32 = refl
zero_number Uint64 = refl
zero_number Byte = refl
zero_number Float32 = refl
zero_number Float64 = refl

-- as many bytes that are 0 as so many elements have are whole elements
pub zeros_whole : (basic : BasicType) (count : ℕ) → AreWhole (size_of basic) (replicate (count * size_of basic) 0)
zeros_whole basic count =
    let size = size_of basic in
    let all : List ℕ = replicate (count * size) 0 in
    let small : IsBytes all = λ i. let e = zero_at (count * size) i in omega arith in
    record { no_rest = no_rest size count all (sizes basic).positive (length-replicate (count * size) 0); are_bytes = small }

-- they are so many zeros
pub zero_values : (basic : BasicType) (count : ℕ) →
    values_of (size_of basic) (replicate (count * size_of basic) 0) ≡ replicate count 0
zero_values basic zero =
    ap (λ (n : ℕ). values_of (size_of basic) (replicate n 0)) (zero-mul (size_of basic)) ∙
    values_of-nil (size_of basic) (sizes basic).positive
zero_values basic (suc count) =
    let size = size_of basic in
    let h = (sizes basic).positive in
    let one : List ℕ = replicate size 0 in
    let len : length one ≡ size = length-replicate size 0 in
    let rest : length one % size ≡ 0 = no_rest size 1 one h (len ∙ omega arith) in
    let sum : suc count * size ≡ size + count * size = suc-mul count size ∙ omega arith in
    ap (λ (n : ℕ). values_of size (replicate n 0)) sum
    ∙ ap (values_of size) (replicate_sum size (count * size))
    ∙ values_of-append size one (replicate (count * size) 0) h rest
    ∙ ap (λ (t : List ℕ). t ++ values_of size (replicate (count * size) 0)) (values_of-single size one h len ∙
    ap (λ (n : ℕ). n ∷ []) (zero_number basic))
    ∙ ap (λ (t : List ℕ). 0 ∷ t) (zero_values basic count)

-- ---- zeros behind other elements

bytes_of-append : (size : ℕ) (a b : List ℕ) → bytes_of size (a ++ b) ≡ bytes_of size a ++ bytes_of size b
bytes_of-append size [] b = refl
bytes_of-append size (v ∷ vs) b =
    ap (λ (t : List ℕ). big_bytes size v ++ t) (bytes_of-append size vs b) ∙
    sym (append_assoc (big_bytes size v) (bytes_of size vs) (bytes_of size b))

bytes_of-replicate : (size x count : ℕ) → bytes_of size (replicate count x) ≡ copies_of count (big_bytes size x)
bytes_of-replicate size x zero = refl
bytes_of-replicate size x (suc count) = ap (λ (t : List ℕ). big_bytes size x ++ t) (bytes_of-replicate size x count)

-- the bytes of elements with zeros behind them
pub bytes_with_zeros : (size : ℕ) (values : List ℕ) (count : ℕ) →
    bytes_of size (values ++ replicate count 0) ≡ bytes_of size values ++ copies_of count (big_bytes size 0)
bytes_with_zeros size values count =
    bytes_of-append size values (replicate count 0) ∙
    ap (λ (t : List ℕ). bytes_of size values ++ t) (bytes_of-replicate size 0 count)

-- elements with zeros behind them, as a list appended
pub is_appended : (values : List ℕ) (unwritten : ℕ) → with_zeros values unwritten ≡ values ++ replicate unwritten 0
is_appended values zero = sym (append-nil values)
is_appended values (suc n) = refl

-- where none is left to be written
pub none_left : (values : List ℕ) (unwritten : ℕ) → unwritten ≡ 0 → with_zeros values unwritten ≡ values
none_left values unwritten e = ap (with_zeros values) e

pub length_with_zeros : (values : List ℕ) (unwritten : ℕ) →
    length (with_zeros values unwritten) ≡ length values + unwritten
length_with_zeros values unwritten = ap length (is_appended values unwritten) ∙ length-zeros values unwritten

-- the bytes of all elements of a store, written
pub written_bytes : (basic : BasicType) (bytes : List ℕ) (unwritten : ℕ) → AreWhole (size_of basic) bytes →
    AreWhole (size_of basic) (bytes ++ replicate (unwritten * size_of basic) 0)
written_bytes basic bytes unwritten w =
    AreWhole-append (size_of basic) bytes (replicate (unwritten * size_of basic) 0) (sizes basic).positive w
    (zeros_whole basic unwritten)

-- are those elements
pub written_values : (basic : BasicType) (bytes : List ℕ) (unwritten : ℕ) → AreWhole (size_of basic) bytes →
    values_of (size_of basic) (bytes ++ replicate (unwritten * size_of basic) 0) ≡
    with_zeros (values_of (size_of basic) bytes) unwritten
written_values basic bytes unwritten w =
    let size = size_of basic in
    values_of-append size bytes (replicate (unwritten * size) 0) (sizes basic).positive w.no_rest
    ∙ ap (λ (t : List ℕ). values_of size bytes ++ t) (zero_values basic unwritten)
    ∙ sym (is_appended (values_of size bytes) unwritten)

-- zeros have few bytes as much as other elements
pub within_zeros : (basic : BasicType) (values : List ℕ) (unwritten : ℕ) → AreWithin (size_of basic) values →
    AreWithin (size_of basic) (with_zeros values unwritten)
within_zeros basic values unwritten h = rw (is_appended values unwritten) (λ place.
    elim (cases_lt place (length values)) [
      | inl lt ↦ rw (get_or_append_left values (replicate unwritten 0) 0 place lt) (h place)
      | inr le ↦
          rw (
            get_or-append_right values (replicate unwritten 0) (length values) place 0 refl le,
            zero_at unwritten (place - length values),
          ) (above basic)
    ])
  where
    above : (basic : BasicType) → 0 < 256 ^ size_of basic
    above Int8 = omega arith
    above Int16 = omega arith
    above Int32 = omega arith
    above Int64 = omega arith
    above Uint8 = omega arith
    above Uint16 = omega arith
    above Uint32 = omega arith
    above Uint64 = omega arith
    above Byte = omega arith
    above Float32 = omega arith
    above Float64 = omega arith

-- an element that is written
pub number_written : (values : List ℕ) (unwritten place : ℕ) → place < length values →
    get_or (with_zeros values unwritten) place 0 ≡ get_or values place 0
number_written values unwritten place lt =
    ap (λ (t : List ℕ). get_or t place 0) (is_appended values unwritten) ∙
    get_or_append_left values (replicate unwritten 0) 0 place lt

-- an element behind those
pub number_behind : (values : List ℕ) (unwritten place : ℕ) → length values ≤ place →
    get_or (with_zeros values unwritten) place 0 ≡ 0
number_behind values unwritten place le =
    ap (λ (t : List ℕ). get_or t place 0) (is_appended values unwritten) ∙
    get_or-append_right values (replicate unwritten 0) (length values) place 0 refl le ∙
    zero_at unwritten (place - length values)

-- the bytes of all elements of a store
pub bytes_of_all : (size : ℕ) (values : List ℕ) (unwritten : ℕ) →
    bytes_of size (with_zeros values unwritten) ≡ bytes_of size values ++ copies_of unwritten (big_bytes size 0)
bytes_of_all size values unwritten =
    ap (bytes_of size) (is_appended values unwritten) ∙ bytes_with_zeros size values unwritten

-- elements that come into a store of which nothing is written
pub put_first : (values next : List ℕ) (unwritten : ℕ) → length values ≡ 0 → length next ≤ unwritten →
    with_zeros (values ++ next) (unwritten - length next) ≡ next ++ drop (length next) (with_zeros values unwritten)
put_first [] next unwritten e le =
    is_appended next (unwritten - length next)
    ∙ ap (λ (t : List ℕ). next ++ t) (sym (drop-replicate (length next) unwritten 0))
    ∙ ap (λ (t : List ℕ). next ++ drop (length next) t) (sym (is_appended [] unwritten))
put_first (v ∷ vs) next unwritten e le = absurd (omega arith)

-- the first elements, where so many are written
pub take_written : (values : List ℕ) (unwritten count : ℕ) → count ≤ length values →
    take count values ≡ take count (with_zeros values unwritten)
take_written values unwritten count le =
    sym (ap (take count) (is_appended values unwritten) ∙ take-append-le count values (replicate unwritten 0) le)

-- a buffer of few bytes has all of them written
pub short_written : (s : StoreState) →
    (0 < s.unwritten → most_written < (length s.values + s.unwritten) * size_of s.basic) →
    length (with_zeros s.values s.unwritten) * size_of s.basic ≤ most_written →
    with_zeros s.values s.unwritten ≡ s.values
short_written s many few = go s.unwritten refl
  where
    go : (n : ℕ) → s.unwritten ≡ n → with_zeros s.values s.unwritten ≡ s.values
    go zero e = none_left s.values s.unwritten e
    go (suc n) e =
        let m = many (omega arith) in
        let l : length (with_zeros s.values s.unwritten) * size_of s.basic ≡ (length s.values + s.unwritten) * size_of s.basic = ap (λ (k : ℕ). k * size_of s.basic) (length_with_zeros s.values s.unwritten) in
        absurd (omega arith)

-- ---- some of the elements

-- the bytes of so many elements from a place on are there
pub part_fits : (size : ℕ) (bytes : List ℕ) (from count : ℕ) → AreWhole size bytes →
    from + count ≤ length (values_of size bytes) → from * size + count * size ≤ length bytes
part_fits size bytes from count w le =
    let e = whole size bytes w.no_rest in
    let l = length-values_of size bytes in
    let m : (from + count) * size ≤ length bytes / size * size = mul-le-mul_right size (omega arith) in
    let sum = add-mul from count size in
    omega arith

-- and those of these elements
pub part_is : (size : ℕ) (bytes : List ℕ) (from count : ℕ) → 0 < size → AreWhole size bytes →
    from + count ≤ length (values_of size bytes) →
    values_of size (take (count * size) (drop (from * size) bytes)) ≡ take count (drop from (values_of size bytes))
part_is size bytes from count h w le =
    let fits = part_fits size bytes from count w le in
    values_of-take size (drop (from * size) bytes) count h (omega (arith, length-drop (from * size) bytes))
    ∙ ap (take count) (values_of-drop size bytes from h (omega arith))

-- ---- more elements in the place of zeros

-- their bytes fit into the memory
pub room_for_more : (basic : BasicType) (bytes next : List ℕ) (unwritten capacity : ℕ) →
    IsStored (size_of basic) unwritten bytes capacity → AreWhole (size_of basic) next →
    length (values_of (size_of basic) next) ≤ unwritten → length bytes + length next ≤ capacity
room_for_more basic bytes next unwritten capacity stored w le =
    let size = size_of basic in
    let e : length next ≡ length next / size * size = whole size next w.no_rest in
    let l = length-values_of size next in
    let m : length next / size * size ≤ unwritten * size = mul-le-mul_right size (omega arith) in
    let r = stored.room in
    omega arith

-- and they are stored
pub stored_more : (basic : BasicType) (bytes next : List ℕ) (unwritten capacity more : ℕ) →
    IsStored (size_of basic) unwritten bytes capacity → AreWhole (size_of basic) next →
    length (values_of (size_of basic) next) ≤ unwritten → capacity ≤ more →
    IsStored (size_of basic) (unwritten - length (values_of (size_of basic) next)) (bytes ++ next) more
stored_more basic bytes next unwritten capacity more stored w le grown =
    let size = size_of basic in
    let n = length (values_of size next) in
    let e : length next ≡ length next / size * size = whole size next w.no_rest in
    let l : n * size ≡ length next / size * size = ap (λ (k : ℕ). k * size) (length-values_of size next) in
    let left : unwritten * size ≡ (unwritten - n) * size + n * size = ap (λ (k : ℕ). k * size) (omega (arith, le)) ∙ add-mul (unwritten - n) n size in
    let both = length-append bytes next in
    let r = stored.room in
    record {
      whole = AreWhole-append size bytes next (sizes basic).positive stored.whole w;
      room = omega arith;
      many = λ some. let m = stored.many (omega arith) in omega arith;
    }
