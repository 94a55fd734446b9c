-- The first pieces of a message and the next one; and the payloads that come, of which one goes on.
use Rattle.std.proofs.Common.{◌≡◌, ℕ, zero, suc, ◌*◌, ◌+◌, ◌/◌, ◌%◌, ◌<◌, ◌≤◌, min, ◌==◌, ◌&&◌, Bool, true, false, List}
use Rattle.std.proofs.Common.{[], ◌∷◌, ◌++◌, length, drop, Option, Some, None, is_some, if◌then◌else◌, refl, sym, ap, subst, ◌∙◌}
use Rattle.std.proofs.Common.{arith}
use Rattle.std.specs.Prelude.{nat_lt, remove, slice_get, slice_set, take}
use Rattle.std.specs.List.{AllByRecursion}
use Rattle.std.proofs.Math.Nat.{mul-div_cancel, mul-le-mul_right}
use Rattle.std.proofs.Math.Seq.{take-add}
use Rattle.std.proofs.lemmas.Bool.{and_parts, eqb-true}
use Rattle.std.proofs.lemmas.List.{length-take, take_all, take_min}
use Rattle.std.proofs.lemmas.Option.{get_or_from_slice_get, same_Some}
use Rattle.rendezvous.specs.Payloads.{Coming, is_from, is_whole, whole_of, with_piece}
use Rattle.rendezvous.specs.PayloadState as payloads
use Rattle.rendezvous.specs.PayloadState.{blank, coming_at, coming_from, handed_out, is_due, is_taken, place_from}
use Rattle.rendezvous.specs.PayloadState.{put_back, whole_by, whole_with, with_data_at}
use Rattle.proof_engine_steps.proofs.ListsApart.{Passes, position_passes}
use Rattle.rendezvous.specs.Pieces.{due_of, first_piece, piece_count}
use Rattle.vocabulary.proofs.MessageLimits.{frame_least}
use Rattle.vocabulary.specs.MessageLimits.{frame_limit_of}
use Rattle.vocabulary.specs.declared.message_limit.MessageLimit.{MessageLimit}

-- ---- bytes

-- the first pieces with the next one behind them
pub one_piece_more : (size count : ℕ) (bytes : List ℕ) →
    take (count * size) bytes ++ first_piece size (drop (count * size) bytes) ≡ take (suc count * size) bytes
one_piece_more size count bytes =
    let rest : List ℕ = drop (count * size) bytes in
    let turned : min (length rest) size ≡ min size (length rest) = omega arith in
    let more : count * size + size ≡ suc count * size = omega arith in
    ap (λ (k : ℕ). take (count * size) bytes ++ take k rest) turned
    ∙ ap (λ (xs : List ℕ). take (count * size) bytes ++ xs) (take_min size rest)
    ∙ sym (take-add (count * size) size bytes)
    ∙ ap (λ (k : ℕ). take k bytes) more

-- how many bytes the first pieces have, where they aren't all
pub length_of_pieces : (size count : ℕ) (bytes : List ℕ) → count * size ≤ length bytes →
    length (take (count * size) bytes) ≡ count * size
length_of_pieces size count bytes within = omega (arith, length-take (count * size) bytes, within)

-- pieces that begin at one place have one number
pub same_number : (size part parts : ℕ) → 0 < size → part * size ≡ parts * size → part ≡ parts
same_number size part parts some same =
    sym (mul-div_cancel part some) ∙ ap (λ (k : ℕ). k / size) same ∙ mul-div_cancel parts some

-- so many pieces have so many bytes, and no piece is empty
record IsCount (size count len : ℕ) : Type 0 where
  high : len ≤ count * size
  low : count * size < len + size

count_of : (size q r len : ℕ) → 0 < size → r < size → q * size + r ≡ len → IsCount size (q + min 1 r) len
count_of size q zero len p lt e =
    let n : q + min 1 0 ≡ q = omega arith in
    subst (λ (k : ℕ). IsCount size k len) (sym n) (record { high = omega (arith, e); low = omega (arith, e, p) })
count_of size q (suc r) len p lt e =
    let n : q + min 1 (suc r) ≡ q + 1 = omega arith in
    subst (λ (k : ℕ). IsCount size k len) (sym n) (record { high = omega (arith, e, lt); low = omega (arith, e) })

counted : (size len : ℕ) → 0 < size → IsCount size (len / size + min 1 (len % size)) len
counted size len p =
    let split : (len / size) * size + len % size ≡ len = omega arith in
    let lt : len % size < size = omega (arith, p) in
    count_of size (len / size) (len % size) len p lt split

-- behind a piece that isn't the last one there is more
pub more_behind : (size part : ℕ) (bytes : List ℕ) → 0 < size → suc part < piece_count size bytes →
    suc part * size < length bytes
more_behind size part bytes some less =
    let all : IsCount size (piece_count size bytes) (length bytes) = counted size (length bytes) some in
    let next : suc (suc part) * size ≤ piece_count size bytes * size = mul-le-mul_right size (omega (arith, less)) in
    let more : suc (suc part) * size ≡ suc part * size + size = omega arith in
    omega (arith, all.low, next, more)

-- with the last one all are there
pub all_there : (size part : ℕ) (bytes : List ℕ) → 0 < size → suc part ≡ piece_count size bytes →
    take (suc part * size) bytes ≡ bytes
all_there size part bytes some last =
    take_all (suc part * size) bytes
    (subst (λ (count : ℕ). length bytes ≤ count * size) (sym last) (counted size (length bytes) some).high)

-- a piece that stands behind the first ones is the next one
pub grows_by : (size : ℕ) (message bytes piece : List ℕ) (parts part offset : ℕ) → 0 < size →
    bytes ≡ take (parts * size) message → parts * size < length message → offset ≡ length bytes →
    offset ≡ part * size → piece ≡ first_piece size (drop (part * size) message) →
    bytes ++ piece ≡ take (suc part * size) message
grows_by size message bytes piece parts part offset one came some behind place piece_is =
    let within : parts * size ≤ length message = omega (arith, some) in
    let same : part ≡ parts = same_number size part parts one (sym place ∙ behind ∙ ap length came ∙ length_of_pieces size parts message within) in
    ap (λ (xs : List ℕ). xs ++ piece) (came ∙ ap (λ (k : ℕ). take (k * size) message) (sym same))
    ∙ ap (λ (xs : List ℕ). take (part * size) message ++ xs) piece_is
    ∙ one_piece_more size part message

-- a frame has one byte at least
pub some_bytes : (limit : MessageLimit) → 0 < frame_limit_of limit
some_bytes limit = omega (arith, frame_least limit)

-- ---- lists

-- where one goes, those that are left are as they were
pub all_left : {A : Type 0} (P : A → Type 0) (xs : List A) (i : ℕ) → AllByRecursion P xs →
    AllByRecursion P (remove xs i)
all_left P [] zero all = tt
all_left P [] (suc i) all = tt
all_left P (x ∷ xs) zero all = all.1
all_left P (x ∷ xs) (suc i) all = (all.0, all_left P xs i all.1)

-- where one is set, the others are as they were
pub all_but_one : {A : Type 0} (P : A → Type 0) (xs : List A) (i : ℕ) (x : A) → P x → AllByRecursion P xs →
    AllByRecursion P (slice_set xs i x)
all_but_one P [] i x one all = tt
all_but_one P (y ∷ ys) zero x one all = (one, all.1)
all_but_one P (y ∷ ys) (suc i) x one all = (all.0, all_but_one P ys i x one all.1)

-- what all are, that is which stands in the list
pub one_of_all : {A : Type 0} (P : A → Type 0) (xs : List A) (i : ℕ) (x : A) → AllByRecursion P xs →
    slice_get xs i ≡ Some x → P x
one_of_all P [] i x all there = absurd (grind arith)
one_of_all P (y ∷ ys) zero x all there = subst P (same_Some y x there) all.0
one_of_all P (y ∷ ys) (suc i) x all there = one_of_all P ys i x all.1 there

-- ---- the payload that goes on

-- a payload that comes from a rank under this number
pub record IsComing (p : payloads.State) (source transfer : ℕ) : Type 0 where
  pub place : ℕ
  pub payload : Coming
  pub found : place_from source transfer p.coming ≡ Some place
  pub there : slice_get p.coming place ≡ Some payload
  pub source_is : payload.source ≡ source
  pub transfer_is : payload.transfer ≡ transfer

-- so it is where one is found
pub is_coming : (p : payloads.State) (source transfer : ℕ) → is_some (coming_from p source transfer) ≡ true →
    IsComing p source transfer
is_coming p source transfer some = go (place_from source transfer p.coming) refl some
  where
    at_place : (i : ℕ) → place_from source transfer p.coming ≡ Some i → Passes (is_from source transfer) p.coming i →
        IsComing p source transfer
    at_place i found passes =
        let both = and_parts (passes.element.source == source) (passes.element.transfer == transfer) passes.passes in
        record {
          place = i;
          payload = passes.element;
          found = found;
          there = passes.there;
          source_is = eqb-true passes.element.source source both.0;
          transfer_is = eqb-true passes.element.transfer transfer both.1;
        }

    go : (o : Option ℕ) → place_from source transfer p.coming ≡ o → is_some (coming_at p.coming o) ≡ true →
        IsComing p source transfer
    go None found some = absurd cc
    go (Some i) found some = at_place i found (position_passes (is_from source transfer) p.coming i found)

-- it is the one that is found
pub coming_is : (p : payloads.State) (source transfer : ℕ) → (c : IsComing p source transfer) →
    coming_from p source transfer ≡ Some c.payload
coming_is p source transfer c = ap (coming_at p.coming) c.found ∙ c.there

-- a piece that is due stands behind those that came
pub due_place : (p : payloads.State) (source transfer offset : ℕ) (piece : List ℕ) → (c : IsComing p source transfer) →
    is_due p source transfer offset piece ≡ true → offset ≡ length c.payload.bytes
due_place p source transfer offset piece c due =
    let taken : is_taken (Some c.payload) offset piece ≡ true = ap (λ (o : Option Coming). is_taken o offset piece) (sym (coming_is p source transfer c)) ∙ due in
    let some : Bool = nat_lt 0 (length piece) in
    let behind : Bool = offset == length c.payload.bytes in
    let full : Bool = length piece == due_of (frame_limit_of c.payload.limit) c.payload.total (length c.payload.bytes) in
    eqb-true offset (length c.payload.bytes) (and_parts some behind (and_parts (some && behind) full taken).0).1

-- what is handed out with the piece
pub whole_is : (p : payloads.State) (source transfer : ℕ) (piece : List ℕ) → (c : IsComing p source transfer) →
    whole_with p source transfer piece ≡ handed_out (with_piece c.payload piece)
whole_is p source transfer piece c = ap (λ (o : Option Coming). whole_by o piece) (coming_is p source transfer c)

-- those that come then
pub coming_then : (p : payloads.State) (source transfer : ℕ) (piece : List ℕ) → (c : IsComing p source transfer) →
    with_data_at p.coming (place_from source transfer p.coming) piece ≡
    put_back p.coming c.place (with_piece c.payload piece)
coming_then p source transfer piece c =
    ap (λ (o : Option ℕ). with_data_at p.coming o piece) c.found
    ∙ ap (λ (x : Coming). put_back p.coming c.place (with_piece x piece))
    (get_or_from_slice_get p.coming c.place c.payload blank c.there)

-- what is whole is gone
pub put_whole : (P : Coming → Type 0) (cs : List Coming) (place : ℕ) (c : Coming) → is_whole c ≡ true →
    AllByRecursion P cs → AllByRecursion P (put_back cs place c)
put_whole P cs place c whole all =
    subst (λ (b : Bool). AllByRecursion P (if b then remove cs place else slice_set cs place c)) (sym whole)
    (all_left P cs place all)

-- what isn't stays
pub put_more : (P : Coming → Type 0) (cs : List Coming) (place : ℕ) (c : Coming) → is_whole c ≡ false → P c →
    AllByRecursion P cs → AllByRecursion P (put_back cs place c)
put_more P cs place c more one all =
    subst (λ (b : Bool). AllByRecursion P (if b then remove cs place else slice_set cs place c)) (sym more)
    (all_but_one P cs place c one all)

-- the former is handed out, and the latter isn't
pub out_whole : (c : Coming) → is_whole c ≡ true → handed_out c ≡ Some (whole_of c)
out_whole c whole = ap (λ (b : Bool). if b then Some (whole_of c) else None) whole

pub out_more : (c : Coming) → is_whole c ≡ false → handed_out c ≡ None
out_more c more = ap (λ (b : Bool). if b then Some (whole_of c) else None) more
