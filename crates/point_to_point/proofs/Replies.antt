-- The frames that news call for can go, and are few.
use Rattle.std.proofs.Common.{◌≡◌, ℕ, zero, suc, ◌+◌, ◌*◌, ◌<◌, ◌≤◌, Bool, true, false, cond, List, [], ◌∷◌}
use Rattle.std.proofs.Common.{length, Option, Some, None, refl, sym, ap, ◌∙◌, arith, subst}
use Rattle.std.specs.Prelude.{◌==◌, IfSome, is_some, position, slice_index_or}
use Rattle.std.specs.List.{AllByRecursion}
use Rattle.std.proofs.lemmas.List.{length-append, length-map}
use Rattle.std.proofs.lemmas.List.Quantifiers.{position-Some}
use Rattle.std.proofs.lemmas.Option.{slice_get-get_or}
use Rattle.std.proofs.lemmas.Bool.{eqb-true}
use Rattle.std.proofs.lemmas.List.{length-set}
use Rattle.vocabulary.specs.declared.endpoint.Endpoint.{Endpoint}
use Rattle.vocabulary.specs.BasicTypes.{size_of}
use Rattle.datatypes.specs.Contents.{bytes_of}
use Rattle.datatypes.specs.ContentLaws.{length-bytes_of}
use Rattle.datagram.specs.declared.kinds.Clearance.{Clearance}
use Rattle.datagram.specs.declared.kinds.Clearance.TheVariants.{Send, Drop}
use Rattle.datagram.specs.Spellings.{DataFits, EagerFrame, RequestFrame, ClearFrame, DataFrame, FrameText, RequestText}
use Rattle.datagram.specs.Spellings.{OutgoingText}
use Rattle.match_queues.specs.declared.envelope.PostedReceive.{PostedReceive}
use Rattle.match_queues.specs.Arrivals.{arrival_at}
use Rattle.match_queues.specs.State.{receive_at, receive_for}
use Rattle.rendezvous.specs.declared.offer.Offer.{Offer}
use Rattle.rendezvous.specs.Offers.{is_to, offer_at}
use Rattle.rendezvous.specs.Pieces.{pieces_of}
use Rattle.rendezvous.specs.State.{State, after_drop, fresh, is_next, offered}
use Rattle.rendezvous.specs.WholePieces.{AreCut, IsCut, joined}
use Rattle.vocabulary.specs.MessageLimits.{frame_limit_of}
use Rattle.vocabulary.specs.declared.message_limit.MessageLimit.{MessageLimit}
use Rattle.vocabulary.proofs.MessageLimits.{frame_least, frame_most}
use Rattle.rendezvous.proofs.PieceLaws.{pieces}
use Rattle.requests.specs.declared.table.TableEntry.{TableEntry}
use Rattle.point_to_point.specs.CoreState.{CoreState, IsKept, IsOfferFor}
use Rattle.point_to_point_calls.specs.Frames.{as_list}
use Rattle.point_to_point_calls.specs.ReceiveMatches.{answer_on_arrival}
use Rattle.point_to_point_calls.specs.FrameNews.{CanGo, NewsText, announced_of, data_frame, data_frames, frame_fault}
use Rattle.point_to_point_calls.specs.FrameNews.{heard_fault, transfers_met, wanted_frames}
use Rattle.point_to_point.specs.Arrivals.{called_for, news_fault, news_frames, after_lesson}
use Rattle.point_to_point.proofs.Allowances.{second_of, next_is_there}
use Rattle.point_to_point.proofs.Endings.{left_part, nothing_offered}

-- THE PIECES OF AN OFFER

joined_length : (p : ℕ × List ℕ) (ps : List (ℕ × List ℕ)) → length (joined (p ∷ ps)) ≡ length p.1 + length (joined ps)
joined_length p ps = length-append p.1 (joined ps)

-- a piece that is cut so has no more bytes than any frame
piece_fits : (frame n transfer : ℕ) (p : ℕ × List ℕ) (ps : List (ℕ × List ℕ)) → frame ≤ 61440 → IsCut frame n p ps →
    DataFits (record { transfer = transfer; offset = p.0; bytes = p.1 })
piece_fits frame n transfer p ps most cut = record { some = omega (arith, cut.some); limit = omega (arith, cut.most, most) }

next_start : (frame n len rest : ℕ) → 1024 ≤ frame → len ≡ frame → n * 1024 + (len + rest) ≤ 2147483647 →
    suc n * 1024 + rest ≤ 2147483647
next_start frame n len rest least full within = omega (arith, least, full, within)

-- pieces from a number on
can_go_from : (frame size rank transfer n : ℕ) (ps : List (ℕ × List ℕ)) → frame ≤ 61440 → rank < size →
    AreCut frame n ps → AllByRecursion (CanGo size) (data_frames rank transfer ps)
can_go_from frame size rank transfer n [] most there cut = tt
can_go_from frame size rank transfer n (p ∷ ps) most there cut = (
  record { fits = piece_fits frame n transfer p ps most cut.0; there = there },
  can_go_from frame size rank transfer (suc n) ps most there cut.1,
)

-- those of a message are few, since all but the last have 1,024 bytes at least
few_from : (frame n : ℕ) (ps : List (ℕ × List ℕ)) → 1024 ≤ frame → AreCut frame n ps →
    n * 1024 + length (joined ps) ≤ 2147483647 → n + length ps ≤ 2097152
few_from frame n [] least cut within = omega (arith, within)
few_from frame n (p ∷ []) least cut within = omega (arith, joined_length p [], cut.0.some, within)
few_from frame n (p ∷ q ∷ ps) least cut within =
    let sized = joined_length p (q ∷ ps) in
    let next = next_start frame n (length p.1) (length (joined (q ∷ ps))) least cut.0.full (omega (arith, sized, within)) in
    omega (arith, few_from frame (suc n) (q ∷ ps) least cut.1 next)

bounded : (limit : MessageLimit) (bytes : List ℕ) → length bytes ≤ 2147483647 →
    0 * 1024 + length (joined (pieces_of (frame_limit_of limit) bytes)) ≤ 2147483647
bounded limit bytes few = omega (arith, ap length ((pieces limit bytes).all), few)

-- the data of so many bytes can go
pub data_go : (limit : MessageLimit) (size rank transfer : ℕ) (bytes : List ℕ) → rank < size →
    AllByRecursion (CanGo size) (data_frames rank transfer (pieces_of (frame_limit_of limit) bytes))
data_go limit size rank transfer bytes there =
    can_go_from (frame_limit_of limit) size rank transfer 0 (pieces_of (frame_limit_of limit) bytes) (frame_most limit)
    there ((pieces limit bytes).cut)

-- the bytes of an offer are within the limit
offer_bytes : (size : ℕ) (o : Offer) → IsOfferFor size o →
    length (bytes_of (size_of o.elements.basic) o.elements.values) ≤ 2147483647
offer_bytes size o kept = omega (arith, length-bytes_of (size_of o.elements.basic) o.elements.values, kept.limit)

-- ITS FRAMES

wanted_go : (limit : MessageLimit) (size rank : ℕ) (clearance : Clearance) (o : Option Offer) →
    IfSome o (λ (x : Offer). IsOfferFor size x × (rank < size)) →
    AllByRecursion (CanGo size) (wanted_frames limit rank clearance o)
wanted_go limit size rank Drop o kept = tt
wanted_go limit size rank Send None kept = tt
wanted_go limit size rank Send (Some o) kept =
    let bytes = bytes_of (size_of o.elements.basic) o.elements.values in
    data_go limit size rank o.transfer bytes kept.1

wanted_few : (limit : MessageLimit) (size rank : ℕ) (clearance : Clearance) (o : Option Offer) →
    IfSome o (λ (x : Offer). IsOfferFor size x × (rank < size)) →
    length (wanted_frames limit rank clearance o) ≤ 2097152
wanted_few limit size rank Drop o kept = omega arith
wanted_few limit size rank Send None kept = omega arith
wanted_few limit size rank Send (Some o) kept =
    let bytes = bytes_of (size_of o.elements.basic) o.elements.values in
    let ps = pieces_of (frame_limit_of limit) bytes in
    let count : 0 + length ps ≤ 2097152 = few_from (frame_limit_of limit) 0 ps (frame_least limit) ((pieces limit bytes).cut) (bounded limit bytes (offer_bytes size o kept.0)) in
    omega (arith, count, length-map ps (data_frame rank o.transfer))

-- THE OFFER THAT IS ANSWERED

pub at_place : {A : Type 0} (P : A → Type 0) (xs : List A) (i : ℕ) (d : A) → AllByRecursion P xs → i < length xs →
    P (slice_index_or xs i d)
at_place P [] i d all inside = absurd (omega (arith, inside))
at_place P (x ∷ xs) zero d all inside = all.0
at_place P (x ∷ xs) (suc i) d all inside = at_place P xs i d all.1 (omega (arith, inside))

picked : (P : Offer → Type 0) (p : Offer → Bool) (os : List Offer) (o : Option ℕ) → position p os ≡ o →
    AllByRecursion P os →
    IfSome (offer_at os o) (λ (x : Offer). P x × (p x ≡ true))
picked P p os None at all = tt
picked P p [] (Some i) at all = tt
picked P p (x ∷ xs) (Some i) at all =
    let h = position-Some p (x ∷ xs) i x at in
    subst (λ (y : Option Offer). IfSome y (λ (z : Offer). P z × (p z ≡ true))) (sym (slice_get-get_or (x ∷ xs) i x h.0))
    (at_place P (x ∷ xs) i x all h.0, h.1)

with_rank : (size rank transfer : ℕ) (o : Option Offer) →
    IfSome o (λ (x : Offer). IsOfferFor size x × (is_to rank transfer x ≡ true)) →
    IfSome o (λ (x : Offer). IsOfferFor size x × (rank < size))
with_rank size rank transfer None h = tt
with_rank size rank transfer (Some o) h = (
  h.0,
  subst (λ (r : ℕ). r < size)
      (eqb-true o.target rank (left_part (o.target == rank) (o.transfer == transfer) h.1)) h.0.there,
)

-- the offer that is found is one that is kept
offered_is_kept : (size rank transfer : ℕ) (t : State) → AllByRecursion (IsOfferFor size) t.offers →
    IfSome (offered t rank transfer) (λ (x : Offer). IsOfferFor size x × (rank < size))
offered_is_kept size rank transfer t all =
    with_rank size rank transfer (offered t rank transfer)
    (picked (IsOfferFor size) (is_to rank transfer) t.offers (position (is_to rank transfer) t.offers) refl all)

met_is_kept : (lesson : Bool) (c : CoreState) (s : Endpoint) (transfer : ℕ) →
    IsKept c.place c.queues c.transfers c.slots →
    IfSome (offered (after_lesson lesson c s).transfers s.rank transfer) (λ (x : Offer). IsOfferFor c.place.size x ×
    (s.rank < c.place.size))
met_is_kept false c s transfer kept = offered_is_kept c.place.size s.rank transfer c.transfers kept.offers
met_is_kept true c s transfer kept =
    subst (λ (o : Option Offer). IfSome o (λ (x : Offer). IsOfferFor c.place.size x × (s.rank < c.place.size)))
    (sym (nothing_offered c.transfers s.rank transfer)) tt

-- nothing is wanted of a rank that was started anew
pub nothing_wanted : (limit : MessageLimit) (t : State) (rank transfer : ℕ) (clearance : Clearance) →
    wanted_frames limit rank clearance (offered (after_drop t rank) rank transfer) ≡ []
nothing_wanted limit t rank transfer Drop = refl
nothing_wanted limit t rank transfer Send = ap (wanted_frames limit rank Send) (nothing_offered t rank transfer)

-- THE ANSWER TO AN ANNOUNCEMENT

answer_goes : (size : ℕ) (slots : List (Option TableEntry)) (r : Option PostedReceive) (s : Endpoint)
    (t : RequestText) → s.rank < size →
    AllByRecursion (CanGo size) (as_list (answer_on_arrival slots (arrival_at r (announced_of s t))))
unfolding announced_of
answer_goes size slots None s t there = tt
answer_goes size slots (Some r) s t there = (record { fits = tt; there = there }, tt)

one_at_most : (o : Option OutgoingText) → length (as_list o) ≤ 2097152
one_at_most None = omega arith
one_at_most (Some f) = omega arith

met_width : (lesson : Bool) (t : State) (rank size : ℕ) → length t.numbers ≡ size →
    length ((transfers_met lesson t rank).numbers) ≡ size
met_width false t rank size width = width
met_width true t rank size width = length-set t.numbers rank fresh ∙ width

source_is_there : (lesson : Bool) (c : CoreState) (s : Endpoint) (t : RequestText) →
    IsKept c.place c.queues c.transfers c.slots →
    frame_fault (transfers_met lesson c.transfers s.rank) s.rank (RequestFrame t) ≡ None → s.rank < c.place.size
source_is_there lesson c s t kept none =
    let next = second_of _ (is_next (transfers_met lesson c.transfers s.rank).numbers s.rank t.transfer) none in
    let inside = next_is_there (transfers_met lesson c.transfers s.rank).numbers s.rank t.transfer next in
    omega (arith, inside, met_width lesson c.transfers s.rank c.place.size kept.width)

-- ALL OF THEM

go : (lesson : Bool) (c : CoreState) (s : Endpoint) (f : Option FrameText) →
    IsKept c.place c.queues c.transfers c.slots →
    heard_fault (transfers_met lesson c.transfers s.rank) s.rank f ≡ None →
    AllByRecursion (CanGo c.place.size) (called_for (after_lesson lesson c s) s f)
go lesson c s None kept none = tt
go lesson c s (Some (EagerFrame t)) kept none = tt
go lesson c s (Some (RequestFrame t)) kept none =
    answer_goes c.place.size (after_lesson lesson c s).slots
    (receive_at (after_lesson lesson c s).queues.posted
    (receive_for (announced_of s t) (after_lesson lesson c s).queues.posted))
    s t (source_is_there lesson c s t kept none)
go lesson c s (Some (ClearFrame t)) kept none =
    wanted_go (after_lesson lesson c s).place.message_limit c.place.size s.rank t.clearance (offered (after_lesson lesson c s).transfers s.rank t.transfer)
    (met_is_kept lesson c s t.transfer kept)
go lesson c s (Some (DataFrame t)) kept none = tt

few : (lesson : Bool) (c : CoreState) (s : Endpoint) (f : Option FrameText) →
    IsKept c.place c.queues c.transfers c.slots →
    length (called_for (after_lesson lesson c s) s f) ≤ 2097152
few lesson c s None kept = omega arith
few lesson c s (Some (EagerFrame t)) kept = omega arith
few lesson c s (Some (RequestFrame t)) kept = one_at_most _
few lesson c s (Some (ClearFrame t)) kept =
    wanted_few (after_lesson lesson c s).place.message_limit c.place.size s.rank t.clearance (offered (after_lesson lesson c s).transfers s.rank t.transfer)
    (met_is_kept lesson c s t.transfer kept)
few lesson c s (Some (DataFrame t)) kept = omega arith

-- the frames that news call for that break no rule can go
pub frames_go : (c : CoreState) (n : NewsText) → IsKept c.place c.queues c.transfers c.slots → news_fault c n ≡ None →
    AllByRecursion (CanGo c.place.size) (news_frames c n)
frames_go c n kept none = go n.lesson c n.source n.frame kept none

-- and are few
pub frames_are_few : (c : CoreState) (n : NewsText) → IsKept c.place c.queues c.transfers c.slots →
    length (news_frames c n) ≤ 2097152
frames_are_few c n kept = few n.lesson c n.source n.frame kept

-- HOW MANY THEY ARE

-- of a rank that was started anew none
pub no_many_wanted : (limit : MessageLimit) (t : State) (rank transfer : ℕ) (clearance : Clearance) →
    0 ≡ length (wanted_frames limit rank clearance (offered (after_drop t rank) rank transfer))
no_many_wanted limit t rank transfer clearance = sym (ap length (nothing_wanted limit t rank transfer clearance))

-- there is one for each piece of an offer that is wanted
pub wanted_many : (limit : MessageLimit) (rank : ℕ) (o : Offer) (n : ℕ) →
    n ≡ length (pieces_of (frame_limit_of limit) (bytes_of (size_of o.elements.basic) o.elements.values)) →
    n ≡ length (wanted_frames limit rank Send (Some o))
wanted_many limit rank o n is =
    is ∙ sym (length-map
    (pieces_of (frame_limit_of limit) (bytes_of (size_of o.elements.basic) o.elements.values))
    (data_frame rank o.transfer))

-- an announcement is answered by one frame where a receive waits for its message
pub answers_are : (slots : List (Option TableEntry)) (r : Option PostedReceive) (s : Endpoint) (t : RequestText) →
    length (as_list (answer_on_arrival slots (arrival_at r (announced_of s t)))) ≡ cond (is_some r) 1 0
unfolding announced_of
answers_are slots None s t = refl
answers_are slots (Some r) s t = refl
