-- With what a frame whose turn comes is refused: 30, 13 or 14, and no other; and how that is found without memory.
use Rattle.std.proofs.Common.{◌≡◌, ℕ, Bool, true, false, List, [], ◌∷◌, Option, Some, None, Err, refl, sym, ap}
use Rattle.std.proofs.Common.{subst, inl, inr}
use Rattle.std.specs.Prelude.{if◌then◌else◌, ◌==◌, is_some}
use Rattle.rendezvous.specs.Payloads.{Whole}
use Rattle.rendezvous.specs.PayloadState as payloads
use Rattle.rendezvous.specs.PayloadState.{is_due, whole_with}
use Rattle.datagram.specs.Spellings.{ClearFrame, ClearText, DataFrame, DataText, EagerFrame, FrameText, OutgoingText}
use Rattle.datagram.specs.Spellings.{RequestFrame, RequestText}
use Rattle.datagram.specs.declared.kinds.Clearance.{Clearance}
use Rattle.datagram.specs.declared.kinds.Clearance.TheVariants.{Drop, Send}
use Rattle.datagram.specs.declared.kinds.Plane.{Plane}
use Rattle.datagram.specs.declared.kinds.Plane.TheVariants.{Collective, PointToPoint}
use Rattle.payload.specs.ByteMeanings.{payload_of}
use Rattle.point_to_point.specs.Arrivals.{news_fault}
use Rattle.point_to_point.specs.CoreState.{CoreState}
use Rattle.point_to_point_calls.specs.FrameNews.{bad_unless, first_of, frame_fault, heard_fault, plane_fault}
use Rattle.point_to_point_calls.specs.FrameNews.{transfers_met}
use Rattle.point_to_point_calls.specs.Refusals.{IsRefusal}
use Rattle.point_to_point_calls.specs.declared.refusal.Refusal.{Refusal}
use Rattle.point_to_point_calls.specs.declared.refusal.Refusal.TheVariants as refusals
use Rattle.rendezvous.specs.State as core_transfers
use Rattle.rendezvous.specs.State.{is_next, offered}
use Rattle.sessions.specs.Events as links
use Rattle.sessions.specs.Events.{event_limit, first_limit, heard_limit, is_worn_out, last_limit, sends_limit}
use Rattle.sessions.specs.Events.{word_limit}
use Rattle.sessions.specs.HeardBytes.{Acknowledges, Follows, Hands, HeardText, Holds, Nothing, Repeats, WordText}
use Rattle.sessions.specs.HeardBytes.{session_met}
use Rattle.sessions.specs.Peers.{peer_at}
use Rattle.sessions.specs.SessionsState.{SessionsState}
use Rattle.sessions.specs.declared.peers.Peer.{Peer}
use Rattle.sessions.specs.declared.refusal.SessionRefusal.{SessionRefusal}
use Rattle.sessions.specs.declared.refusal.SessionRefusal.TheVariants as session_refusals
use Rattle.vocabulary.specs.Modes.{is_standard}
use Rattle.engine.specs.Datagrams.{HeardGives, HeardGivesBy, NoticeText, OfAnnouncement, OfAnswer, OfMessage, OfPiece}
use Rattle.engine.specs.Datagrams.{PieceGives, PieceGivesBy, WhyNoPiece, WhyNoPieceBy, WhyNotTaken, WhyUnnoticed}
use Rattle.engine.specs.Datagrams.{announcement_fault, answer_fault, answer_to, data_for, early_fault, form_fault}
use Rattle.engine.specs.Datagrams.{frame_in, hold_fault, news_of, notice_in, numbers_met, replies, unwanted, whole_in}
use Rattle.engine.specs.HeldFrameEnds.{IsTurnRefusal, WhyUnread, news_met}
use Rattle.engine_calls.specs.EngineState.{EngineState}
use Rattle.engine_calls.specs.Refusals.{fault_of_sessions, first_fault, of_sessions}

-- ---- which refusals there are

abbrev AreTurnFaults : Option Refusal → Type 0
AreTurnFaults None = Unit {0}
AreTurnFaults (Some r) = IsTurnRefusal r

bad : (b : Bool) → AreTurnFaults (bad_unless b)
bad true = tt
bad false = inl refl

both : (a b : Option Refusal) → AreTurnFaults a → AreTurnFaults b → AreTurnFaults (first_fault a b)
both None b fa fb = fb
both (Some r) b fa fb = fa

both_of : (a b : Option Refusal) → AreTurnFaults a → AreTurnFaults b → AreTurnFaults (first_of a b)
both_of None b fa fb = fb
both_of (Some r) b fa fb = fa

on_plane : (p : Plane) → AreTurnFaults (plane_fault p)
on_plane Collective = inl refl
on_plane PointToPoint = tt

of_form : (p : Plane) (bytes : List ℕ) → AreTurnFaults (form_fault p bytes)
of_form PointToPoint bytes = tt
of_form Collective bytes = bad (is_some (payload_of bytes))

of_early : (f : FrameText) → AreTurnFaults (early_fault f)
of_early (EagerFrame t) = of_form t.plane t.elements
of_early (RequestFrame t) = tt
of_early (ClearFrame t) = tt
of_early (DataFrame t) = tt

of_hold : (w : WordText) → AreTurnFaults (hold_fault w)
of_hold (Acknowledges n held) = tt
of_hold Repeats = tt
of_hold (Hands f) = tt
of_hold (Holds e) = of_early e.frame
of_hold (Follows f) = tt
of_hold Nothing = tt

-- the limit alone is told by the sessions
abbrev LimitAlone : Option SessionRefusal → Type 0
LimitAlone None = Unit {0}
LimitAlone (Some e) = e ≡ session_refusals.Limit

or_limit : (b : Bool) (rest : Option SessionRefusal) → LimitAlone rest →
    LimitAlone (if b then Some session_refusals.Limit else rest)
or_limit true rest is = refl
or_limit false rest is = is

of_last : (n : ℕ) → LimitAlone (last_limit n)
of_last n = or_limit (n == 18446744073709551615) None tt

of_word : (w : WordText) (p : Peer) → LimitAlone (word_limit w p)
of_word (Acknowledges n held) p = tt
of_word Repeats p = tt
of_word (Hands f) p = of_last p.receiver.next
of_word (Holds e) p = of_last e.number
of_word (Follows f) p = of_last p.receiver.next
of_word Nothing p = tt

of_sends : (s : SessionsState) (fs : List OutgoingText) → LimitAlone (sends_limit s fs)
of_sends s [] = tt
of_sends s (f ∷ fs) =
    or_limit (is_worn_out (peer_at s.peers f.target).sender) (sends_limit (links.after_send s f) fs)
    (of_sends (links.after_send s f) fs)

of_first : (a b : Option SessionRefusal) → LimitAlone a → LimitAlone b → LimitAlone (first_limit a b)
of_first None b la lb = lb
of_first (Some e) b la lb = la

as_fault : (o : Option SessionRefusal) → LimitAlone o → AreTurnFaults (fault_of_sessions o)
as_fault None is = tt
as_fault (Some e) is = inr (inl (ap of_sessions is))

of_event : (s : SessionsState) (h : HeardText) (fs : List OutgoingText) →
    AreTurnFaults (fault_of_sessions (event_limit s (Some h) fs))
of_event s h fs =
    as_fault (event_limit s (Some h) fs)
    (of_first (heard_limit s (Some h)) (sends_limit (links.after_heard s (Some h)) fs)
    (of_word h.word (session_met h.lesson (peer_at s.peers h.source.rank)))
    (of_sends (links.after_heard s (Some h)) fs))

of_fault : (fault : Option Refusal) (r : Refusal) → AreTurnFaults fault → IsRefusal fault r → IsTurnRefusal r
of_fault None r are is = inr (inr is)
of_fault (Some f) r are is = subst (λ (x : Refusal). IsTurnRefusal x) (sym is) are

-- what concerns no collective
of_frame : (t : core_transfers.State) (rank : ℕ) (f : FrameText) → AreTurnFaults (frame_fault t rank f)
of_frame t rank (EagerFrame f) = on_plane f.plane
of_frame t rank (RequestFrame f) =
    both_of (plane_fault f.plane) (bad_unless (is_next t.numbers rank f.transfer)) (on_plane f.plane)
    (bad (is_next t.numbers rank f.transfer))
of_frame t rank (ClearFrame f) = bad (is_some (offered t rank f.transfer))
of_frame t rank (DataFrame f) = bad (core_transfers.is_due t.collections rank f.transfer f.offset f.bytes)

of_met : (t : core_transfers.State) (rank : ℕ) (o : Option FrameText) → AreTurnFaults (heard_fault t rank o)
of_met t rank None = tt
of_met t rank (Some f) = of_frame t rank f

of_news : (c : CoreState) (s : SessionsState) (h : HeardText) → AreTurnFaults (news_met c s h)
of_news c s h =
    both (hold_fault h.word)
    (first_fault (news_fault c (news_of h)) (fault_of_sessions (event_limit s (Some h) (replies c h)))) (of_hold h.word)
    (both (news_fault c (news_of h)) (fault_of_sessions (event_limit s (Some h) (replies c h)))
    (of_met (transfers_met h.lesson c.transfers h.source.rank) h.source.rank (frame_in h.word))
    (of_event s h (replies c h)))

-- what concerns one
of_message : (e : EngineState) (h : HeardText) (w : Whole) (r : Refusal) → WhyUnnoticed e h w r → IsTurnRefusal r
of_message e h w refusals.BadFrame why = inl refl
of_message e h w refusals.Limit why = inr (inl refl)
of_message e h w refusals.OutOfMemory why = inr (inr refl)
of_message e h w refusals.Count why = absurd why
of_message e h w refusals.WrongType why = absurd why
of_message e h w refusals.Tag why = absurd why
of_message e h w refusals.Communicator why = absurd why
of_message e h w refusals.Rank why = absurd why
of_message e h w refusals.Request why = absurd why
of_message e h w refusals.Root why = absurd why
of_message e h w refusals.Operation why = absurd why
of_message e h w refusals.Replaced why = absurd why
of_message e h w refusals.Short why = absurd why
of_message e h w refusals.Magic why = absurd why
of_message e h w refusals.Version why = absurd why
of_message e h w refusals.Kind why = absurd why
of_message e h w refusals.Length why = absurd why
of_message e h w refusals.ForeignJob why = absurd why
of_message e h w refusals.NotForMe why = absurd why
of_message e h w refusals.StaleSource why = absurd why
of_message e h w refusals.StaleTarget why = absurd why
of_message e h w refusals.OutOfWindow why = absurd why
of_message e h w refusals.ClockBack why = absurd why

of_announcement : (c : CoreState) (s : SessionsState) (h : HeardText) (t : RequestText) →
    AreTurnFaults (announcement_fault c s h t)
of_announcement c s h t =
    both (bad_unless (is_standard t.mode))
    (first_fault (bad_unless (is_next (numbers_met c h) h.source.rank t.transfer))
    (fault_of_sessions (event_limit s (Some h) (answer_to h t ∷ [])))) (bad (is_standard t.mode))
    (both (bad_unless (is_next (numbers_met c h) h.source.rank t.transfer))
    (fault_of_sessions (event_limit s (Some h) (answer_to h t ∷ [])))
    (bad (is_next (numbers_met c h) h.source.rank t.transfer)) (of_event s h (answer_to h t ∷ [])))

of_clearance : (c : Clearance) → AreTurnFaults (unwanted c)
of_clearance Send = tt
of_clearance Drop = inl refl

of_answer : (p : payloads.State) (s : SessionsState) (h : HeardText) (t : ClearText) →
    AreTurnFaults (answer_fault p s h t)
of_answer p s h t =
    both (unwanted t.clearance) (fault_of_sessions (event_limit s (Some h) (data_for s.place.message_limit p h t)))
    (of_clearance t.clearance) (of_event s h (data_for s.place.message_limit p h t))

of_piece : (due : Bool) (w : Option Whole) (e new : EngineState) (h : HeardText) (t : DataText) (r : Refusal) →
    PieceGivesBy due w e h t (Err r) new → IsTurnRefusal r
of_piece true None e new h t r gives =
    of_fault (fault_of_sessions (event_limit e.sessions (Some h) [])) r (of_event e.sessions h []) gives.0
of_piece true (Some w) e new h t r gives = of_message e h w r gives.0
of_piece false w e new h t r gives = inl gives.0

-- whatever is heard is refused so
pub turn_refusal : (n : Option NoticeText) (e new : EngineState) (h : HeardText) (r : Refusal) →
    HeardGivesBy n e h (Err r) new → IsTurnRefusal r
turn_refusal None e new h r gives =
    of_fault (news_met e.core e.sessions h) r (of_news e.core e.sessions h) gives.1
turn_refusal (Some (OfMessage t)) e new h r gives = of_message e h (whole_in t) r gives.0
turn_refusal (Some (OfAnnouncement t)) e new h r gives =
    of_fault (announcement_fault e.core e.sessions h t) r (of_announcement e.core e.sessions h t) gives.0
turn_refusal (Some (OfAnswer t)) e new h r gives =
    of_fault (answer_fault e.payloads e.sessions h t) r (of_answer e.payloads e.sessions h t) gives.0
turn_refusal (Some (OfPiece t)) e new h r gives =
    of_piece (is_due e.payloads h.source.rank t.transfer t.offset t.bytes)
    (whole_with e.payloads h.source.rank t.transfer t.bytes) e new h t r gives

-- where it is neither 30 nor 13, it is 14
pub memory_alone : (r : Refusal) → IsTurnRefusal r → (r ≡ refusals.BadFrame → ⊥) → (r ≡ refusals.Limit → ⊥) →
    r ≡ refusals.OutOfMemory
memory_alone r (inl is) bad limit = absurd (bad is)
memory_alone r (inr (inl is)) bad limit = absurd (limit is)
memory_alone r (inr (inr is)) bad limit = is

-- ---- without memory

-- a message that isn't taken in without memory
pub unread : (e : EngineState) (h : HeardText) (w : Whole) (bytes : List ℕ) (r : Refusal) → bytes ≡ w.bytes →
    WhyUnread e.sessions.place.size bytes r → WhyUnnoticed e h w r
unread e h w bytes r same why =
    go r (subst (λ (bs : List ℕ). WhyUnread e.sessions.place.size bs r) same why)
  where
    go : (r : Refusal) → WhyUnread e.sessions.place.size w.bytes r → WhyUnnoticed e h w r
    go refusals.BadFrame why = why
    go refusals.OutOfMemory why = why
    go refusals.Limit why = absurd why
    go refusals.Count why = absurd why
    go refusals.WrongType why = absurd why
    go refusals.Tag why = absurd why
    go refusals.Communicator why = absurd why
    go refusals.Rank why = absurd why
    go refusals.Request why = absurd why
    go refusals.Root why = absurd why
    go refusals.Operation why = absurd why
    go refusals.Replaced why = absurd why
    go refusals.Short why = absurd why
    go refusals.Magic why = absurd why
    go refusals.Version why = absurd why
    go refusals.Kind why = absurd why
    go refusals.Length why = absurd why
    go refusals.ForeignJob why = absurd why
    go refusals.NotForMe why = absurd why
    go refusals.StaleSource why = absurd why
    go refusals.StaleTarget why = absurd why
    go refusals.OutOfWindow why = absurd why
    go refusals.ClockBack why = absurd why

-- data that aren't due
pub not_due : (e : EngineState) (h : HeardText) (t : DataText) →
    is_due e.payloads h.source.rank t.transfer t.offset t.bytes ≡ false → WhyNoPiece e h t refusals.BadFrame
not_due e h t out =
    subst (λ (b : Bool). WhyNoPieceBy b (whole_with e.payloads h.source.rank t.transfer t.bytes) e h refusals.BadFrame)
    (sym out) refl

-- and data that are
pub due : (e : EngineState) (h : HeardText) (t : DataText) (o : Option Whole) (r : Refusal) →
    is_due e.payloads h.source.rank t.transfer t.offset t.bytes ≡ true →
    o ≡ whole_with e.payloads h.source.rank t.transfer t.bytes → WhyNotTaken o e h r → WhyNoPiece e h t r
due e h t o r there whole why =
    subst (λ (b : Bool). WhyNoPieceBy b (whole_with e.payloads h.source.rank t.transfer t.bytes) e h r) (sym there)
    (subst (λ (x : Option Whole). WhyNotTaken x e h r) whole why)

-- what is found of data is their refusal
pub piece_refused : (e : EngineState) (h : HeardText) (t : DataText) (r : Refusal) → WhyNoPiece e h t r →
    PieceGives e h t (Err r) e
piece_refused e h t r why =
    go (is_due e.payloads h.source.rank t.transfer t.offset t.bytes)
    (whole_with e.payloads h.source.rank t.transfer t.bytes) why
  where
    go : (b : Bool) (w : Option Whole) → WhyNoPieceBy b w e h r → PieceGivesBy b w e h t (Err r) e
    go true w why = (why, refl)
    go false w why = (why, refl)

-- what its notice is refused with, what is heard is
pub by_notice : (n : Option NoticeText) (e : EngineState) (h : HeardText) (r : Refusal) →
    n ≡ notice_in h.lesson e.payloads h.source.rank h.word → HeardGivesBy n e h (Err r) e → HeardGives e h (Err r) e
by_notice n e h r is gives = subst (λ (m : Option NoticeText). HeardGivesBy m e h (Err r) e) is gives

-- a piece that isn't the last one calls for no frame
pub of_nobody : (rank : ℕ) → links.AreFor rank 0 []
of_nobody rank = record { each = tt; many = refl }
