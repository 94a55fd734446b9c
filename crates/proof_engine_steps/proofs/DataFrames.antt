-- The data of a large message: the frames that a rank makes of their bytes stand for those that its core makes of their
-- values.
use Rattle.std.proofs.Common.{◌≡◌, ℕ, zero, suc, ◌+◌, ◌-◌, ◌*◌, ◌^◌, ◌<◌, ◌≤◌, List, [], ◌∷◌, ◌++◌, length, take, drop}
use Rattle.std.proofs.Common.{Some, slice_get, refl, sym, ap, ◌∙◌, subst, arith, inl, inr, append_assoc, append-nil}
use Rattle.std.specs.List.{AllByRecursion, flat_map}
use Rattle.std.proofs.Math.Nat.{le_of_mul-le-mul_right, mul_assoc, one-le-pow, suc-mul}
use Rattle.std.proofs.lemmas.Bool.{cases_lt}
use Rattle.std.proofs.lemmas.List.{drop_at, get_or-drop, get_or-take, get_or_past, length-append, length-drop}
use Rattle.std.proofs.lemmas.List.{length-take, take-append-drop, take_all, take_at}
use Rattle.vocabulary.specs.BasicTypes.{size_of}
use Rattle.vocabulary.specs.Limits.{greatest_limit}
use Rattle.vocabulary.specs.MessageLimits.{frame_limit_of}
use Rattle.vocabulary.proofs.MessageLimits.{frame_most}
use Rattle.vocabulary.specs.declared.message_limit.MessageLimit.{MessageLimit}
use Rattle.vocabulary.specs.declared.basic_type.BasicType.{BasicType}
use Rattle.datatypes.specs.Contents.{AreWithin, bytes_of}
use Rattle.datatypes.specs.ContentLaws.{length-bytes_of, sizes}
use Rattle.incarnation.specs.declared.place.Place.{Place}
use Rattle.rendezvous.specs.Pieces.{pieces_of}
use Rattle.rendezvous.specs.WholePieces.{AreCut, IsCut, joined}
use Rattle.rendezvous.proofs.PieceLaws as bytes
use Rattle.point_to_point_calls.specs.FrameNews as hearing
use Rattle.proof_pure_network.specs.Transfers.{cut, data_frames, piece_values, pieces}
use Rattle.proof_pure_network.proofs.Pieces as values
use Rattle.proof_engine_view.specs.Frames.{endpoint_of}
use Rattle.proof_engine_view.specs.FrameViews.{AreSent, CanLeave, all_gone}
use Rattle.proof_engine_view.specs.Transfers.{Announcements, Transfer}

-- ---- ELEMENTS

-- what is made of lists one after the other
flat_append : {A B : Type 0} (f : A → List B) (xs ys : List A) → flat_map f (xs ++ ys) ≡ flat_map f xs ++ flat_map f ys
flat_append {A} {B} f [] ys = refl
flat_append {A} {B} f (x ∷ xs) ys = ap (λ (t : List B). f x ++ t) (flat_append f xs ys) ∙
    sym (append_assoc (f x) (flat_map f xs) (flat_map f ys))

-- the bytes of elements that stand one after the other
pub bytes_append : (size : ℕ) (xs ys : List ℕ) → bytes_of size (xs ++ ys) ≡ bytes_of size xs ++ bytes_of size ys
bytes_append size xs ys = flat_append _ xs ys

-- the first elements are as wide
pub within_take : (size n : ℕ) (elements : List ℕ) → AreWithin size elements → AreWithin size (take n elements)
within_take size n elements h i =
    let positive : 1 ≤ 256 ^ size = one-le-pow size 256 (omega arith) in
    elim (cases_lt i n) [
      | inl lt ↦ rw (get_or-take n elements i 0 lt) (h i)
      | inr le ↦ rw (get_or_past (take n elements) i 0 (omega (arith, length-take n elements)))
          (omega (arith, positive))
    ]

-- and so are those behind them
pub within_drop : (size n : ℕ) (elements : List ℕ) → AreWithin size elements → AreWithin size (drop n elements)
within_drop size n elements h i = rw get_or-drop (h (n + i))

-- ---- ONE PIECE

-- the first piece of elements has as many bytes as the first piece of their bytes
first_length : (size each number : ℕ) (piece : ℕ × List ℕ) (later : List (ℕ × List ℕ)) (rest : List ℕ) → 0 < size →
    IsCut (each * size) number piece later →
    AreCut (each * size) (suc number) later → piece.1 ++ joined later ≡ bytes_of size rest →
    length piece.1 ≡ length (take each rest) * size
first_length size each number piece [] rest some here later all =
    let len : length piece.1 ≡ length rest * size = sym (ap (λ (xs : List ℕ). length xs) (append-nil piece.1)) ∙ (ap (λ (xs : List ℕ). length xs) all ∙ length-bytes_of size rest) in
    let low : length rest * size ≤ each * size = omega (arith, len, here.most) in
    let few : length rest ≤ each = le_of_mul-le-mul_right low some in
    len ∙ ap (λ (xs : List ℕ). length xs * size) (sym (take_all each rest few))
first_length size each number piece (next ∷ later) rest some here (one, others) all =
    let len : length piece.1 + length (next.1 ++ joined later) ≡ length rest * size =
    sym (length-append piece.1 (next.1 ++ joined later)) ∙
    (ap (λ (xs : List ℕ). length xs) all ∙ length-bytes_of size rest) in
    let full : length piece.1 ≡ each * size = here.full in
    let high : each * size ≤ length rest * size = omega (arith, len, full) in
    let many : each ≤ length rest = le_of_mul-le-mul_right high some in
    let taken : length (take each rest) ≡ each = omega (arith, length-take each rest, many) in
    full ∙ ap (λ (n : ℕ). n * size) (sym taken)

-- a piece and what stands behind it
record IsFront (size each : ℕ) (piece : ℕ × List ℕ) (later : List (ℕ × List ℕ)) (rest : List ℕ) : Type 0 where
  first : piece.1 ≡ bytes_of size (take each rest)
  behind : joined later ≡ bytes_of size (drop each rest)

front_is : (size each number : ℕ) (piece : ℕ × List ℕ) (later : List (ℕ × List ℕ)) (rest : List ℕ) → 0 < size →
    IsCut (each * size) number piece later →
    AreCut (each * size) (suc number) later → piece.1 ++ joined later ≡ bytes_of size rest →
    IsFront size each piece later rest
front_is size each number piece later rest some here others all =
    let front : List ℕ = bytes_of size (take each rest) in
    let back : List ℕ = bytes_of size (drop each rest) in
    let parts : piece.1 ++ joined later ≡ front ++ back = all ∙ (ap (bytes_of size) (sym (take-append-drop each rest)) ∙ bytes_append size (take each rest) (drop each rest)) in
    let len : length piece.1 ≡ length (take each rest) * size = first_length size each number piece later rest some here others all in
    let same : length front ≡ length piece.1 = length-bytes_of size (take each rest) ∙ sym len in
    record {
      first = sym (take_at piece.1 (joined later) (length piece.1) refl) ∙
          (ap (take (length piece.1)) parts ∙ take_at front back (length piece.1) same);
      behind = sym (drop_at piece.1 (joined later) (length piece.1) refl) ∙
          (ap (drop (length piece.1)) parts ∙ drop_at front back (length piece.1) same);
    }

-- ---- ALL PIECES

-- elements have bytes
none_left : (size : ℕ) (x : ℕ) (xs : List ℕ) → 0 < size → [] ≡ bytes_of size (x ∷ xs) → ⊥
none_left size x xs some h =
    let len : 0 ≡ suc (length xs) * size = ap (λ (ys : List ℕ). length ys) h ∙ length-bytes_of size (x ∷ xs) in
    omega (arith, len, suc-mul (length xs) size, some)

-- where elements are left behind a piece, it is full
before_next : (each place before : ℕ) (rest : List ℕ) → (0 < length rest → before ≡ place * each) →
    0 < length (drop each rest) → before + length (take each rest) ≡ suc place * each
before_next each place before rest at some =
    let left : length (drop each rest) ≡ length rest - each = length-drop each rest in
    let here : before ≡ place * each = at (omega (arith, left, some)) in
    let full : length (take each rest) ≡ each = omega (arith, length-take each rest, left, some) in
    omega (arith, here, full, suc-mul place each)

-- the pieces of what is left of a transfer's data, in both
sent_from : (a : Announcements) (known : List ℕ) (rank number each : ℕ) (t : Transfer) →
    slice_get (a.to (endpoint_of known rank)) number ≡ Some t → 0 < each →
    (fuel place before : ℕ) (rest : List ℕ) (ps : List (ℕ × List ℕ)) → length rest ≤ fuel →
    (0 < length rest → before ≡ place * each) → AreWithin (size_of t.basic) rest →
    AreCut (each * size_of t.basic) place ps → joined ps ≡ bytes_of (size_of t.basic) rest →
    AreSent a (all_gone known (hearing.data_frames rank number ps))
    (data_frames (endpoint_of known rank) t.serial (pieces fuel each before rest))
sent_from a known rank number each t there some fuel place before [] [] le at within are all = tt
sent_from a known rank number each t there some fuel place before (x ∷ xs) [] le at within are all =
    absurd (none_left (size_of t.basic) x xs (sizes t.basic).positive all)
sent_from a known rank number each t there some fuel place before [] (p ∷ ps) le at within (here, others) all =
    let len : length p.1 + length (joined ps) ≡ 0 = sym (length-append p.1 (joined ps)) ∙ ap (λ (ys : List ℕ). length ys) all in
    absurd (omega (arith, len, here.some))
sent_from a known rank number each t there some zero place before (x ∷ xs) (p ∷ ps) le at within are all =
    absurd (omega (arith, le))
sent_from a known rank number each t there some (suc fuel) place before (x ∷ xs) (p ∷ ps) le at within
    (here, others) all =
    let rest : List ℕ = x ∷ xs in
    let size : ℕ = size_of t.basic in
    let front : IsFront size each p ps rest = front_is size each place p ps rest (sizes t.basic).positive here others all in
    let is : before ≡ place * each = at (omega arith) in
    let left : length (drop each rest) ≡ length rest - each = length-drop each rest in (
      refl,
      record {
        transfer = t;
        offset = before;
        values = take each rest;
        announced = there;
        frame_is = refl;
        place = here.offset ∙ (sym (mul_assoc place each size) ∙ ap (λ (n : ℕ). n * size) (sym is));
        bytes = front.first;
        within = within_take size each rest within;
      },
      sent_from a known rank number each t there some fuel (suc place) (before + length (take each rest))
          (drop each rest) ps (omega (arith, left, le, some))
          (before_next each place before rest at) (within_drop size each rest within) others front.behind,
    )

-- the data of a message go out as those of its core
pub data_sent : (limit : MessageLimit) (a : Announcements) (known : List ℕ) (rank number : ℕ) (t : Transfer)
    (elements : List ℕ) →
    slice_get (a.to (endpoint_of known rank)) number ≡ Some t →
    AreWithin (size_of t.basic) elements →
    AreSent a
    (all_gone known
    (hearing.data_frames rank number (pieces_of (frame_limit_of limit) (bytes_of (size_of t.basic) elements))))
    (data_frames (endpoint_of known rank) t.serial (cut limit t.basic elements))
data_sent limit a known rank number t elements there within =
    let all : List (ℕ × List ℕ) = pieces_of (frame_limit_of limit) (bytes_of (size_of t.basic) elements) in
    let p = bytes.pieces limit (bytes_of (size_of t.basic) elements) in
    let none : 0 ≡ 0 * piece_values limit t.basic = omega arith in
    sent_from a known rank number (piece_values limit t.basic) t there (values.piece_some limit t.basic)
    (length elements) 0 0 elements all (omega arith)
    (λ some. none) within
    (subst (λ (n : ℕ). AreCut n 0 all) (sym (values.piece_bytes limit t.basic)) p.cut) p.all

-- ---- THAT THEY CAN LEAVE

-- a piece of no more data than a message may have
piece_leaves : (p : Place) (rank number : ℕ) → rank < p.size → (rank ≡ p.endpoint.rank → ⊥) → number < 2 ^ 32 →
    (place : ℕ) (x : ℕ × List ℕ) (xs : List (ℕ × List ℕ)) → IsCut (frame_limit_of p.message_limit) place x xs →
    place * frame_limit_of p.message_limit + length (x.1 ++ joined xs) ≤ greatest_limit →
    AllByRecursion (CanLeave p) (hearing.data_frames rank number (x ∷ []))
piece_leaves p rank number there apart width place x xs here low =
    let len : length (x.1 ++ joined xs) ≡ length x.1 + length (joined xs) = length-append x.1 (joined xs) in
    let offset : x.0 ≡ place * frame_limit_of p.message_limit = here.offset in
    let some : 1 ≤ length x.1 = here.some in
    let most : length x.1 ≤ frame_limit_of p.message_limit = here.most in
    let longest : frame_limit_of p.message_limit ≤ 61440 = frame_most p.message_limit in (
      record {
        there = there;
        apart = apart;
        fits = record { some = omega (arith, some); limit = omega (arith, most, longest) };
        width = record { transfer = width; offset = omega (arith, offset, low) };
      },
      tt,
    )

-- and pieces of no more
leave_from : (p : Place) (rank number : ℕ) → rank < p.size → (rank ≡ p.endpoint.rank → ⊥) → number < 2 ^ 32 →
    (place : ℕ) (ps : List (ℕ × List ℕ)) →
    AreCut (frame_limit_of p.message_limit) place ps →
    place * frame_limit_of p.message_limit + length (joined ps) ≤ greatest_limit →
    AllByRecursion (CanLeave p) (hearing.data_frames rank number ps)
leave_from p rank number there apart width place [] are low = tt
leave_from p rank number there apart width place (x ∷ []) (here, others) low =
    piece_leaves p rank number there apart width place x [] here low
leave_from p rank number there apart width place (x ∷ z ∷ zs) (here, others) low =
    let full : length x.1 ≡ frame_limit_of p.message_limit = here.full in (
      (piece_leaves p rank number there apart width place x (z ∷ zs) here low).0,
      leave_from p rank number there apart width (suc place) (z ∷ zs) others
          (omega (
            arith,
            length-append x.1 (joined (z ∷ zs)),
            full,
            suc-mul place (frame_limit_of p.message_limit),
            low,
          )),
    )

-- the pieces of so many bytes can leave
pub bytes_leave : (p : Place) (rank number : ℕ) (sent : List ℕ) → rank < p.size → (rank ≡ p.endpoint.rank → ⊥) →
    number < 2 ^ 32 → length sent ≤ greatest_limit →
    AllByRecursion (CanLeave p) (hearing.data_frames rank number (pieces_of (frame_limit_of p.message_limit) sent))
bytes_leave p rank number sent there apart width limit =
    let q = bytes.pieces p.message_limit sent in
    let none : 0 * frame_limit_of p.message_limit ≡ 0 = omega arith in
    leave_from p rank number there apart width 0 (pieces_of (frame_limit_of p.message_limit) sent) q.cut
    (omega (arith, none, ap (λ (xs : List ℕ). length xs) q.all, limit))

-- the data of a message can leave
pub data_leave : (p : Place) (rank number : ℕ) (basic : BasicType) (elements : List ℕ) → rank < p.size →
    (rank ≡ p.endpoint.rank → ⊥) → number < 2 ^ 32 →
    length elements * size_of basic ≤ greatest_limit →
    AllByRecursion (CanLeave p)
    (hearing.data_frames rank number (pieces_of (frame_limit_of p.message_limit) (bytes_of (size_of basic) elements)))
data_leave p rank number basic elements there apart width limit =
    let len : length (bytes_of (size_of basic) elements) ≡ length elements * size_of basic = length-bytes_of (size_of basic) elements in
    bytes_leave p rank number (bytes_of (size_of basic) elements) there apart width (omega (arith, len, limit))
