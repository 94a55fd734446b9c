-- What goes out takes of the room in the windows.
use Rattle.std.proofs.Common.{◌≡◌, ℕ, zero, suc, ◌+◌, ◌-◌, ◌*◌, ◌<◌, ◌≤◌, Bool, true, false, cond, List, [], ◌∷◌, ◌++◌}
use Rattle.std.proofs.Common.{length, min, refl, sym, ap, subst, ◌∙◌, inl, inr, arith, Option, Some, None}
use Rattle.std.specs.Prelude.{All, nat_lt, slice_set, Result, Ok, Err, OnOk}
use Rattle.std.proofs.lemmas.Bool.{cases_lt, ltb-false, ltb-true}
use Rattle.std.proofs.lemmas.List.{length-append, length-set}
use Rattle.std.proofs.lemmas.List.FromFn.{length-range_with_len}
use Rattle.std.proofs.lemmas.List.Elements.{All-head, All-tail}
use Rattle.datagram.specs.Spellings.{OutgoingText}
use Rattle.vocabulary.specs.declared.endpoint.Endpoint.{Endpoint}
use Rattle.reliable_link.specs.SenderState.{SenderState, after_accept, after_ack, entered_on_ack, new_frame, out_count}
use Rattle.reliable_link.specs.SenderState.{out_end, passed_to}
use Rattle.reliable_link.specs.ReceiverState.{ReceiverState, advanced, after_frame}
use Rattle.reliable_link.proofs.Senders.{end_passed_to, is_late, is_passed, length_after_ack, length_passed_to}
use Rattle.reliable_link.proofs.Senders.{lowest_passed}
use Rattle.sessions.specs.declared.peers.Peer.{Peer}
use Rattle.sessions.specs.declared.refusal.SessionRefusal.{SessionRefusal}
use Rattle.sessions.specs.SessionsState.{SessionsState}
use Rattle.sessions.specs.Peers.{frames_out, new_session, peer_at, with_receiver}
use Rattle.sessions.specs.HeardBytes.{WordText, Acknowledges, Repeats, Hands, Holds, Follows, Nothing, HeardText}
use Rattle.sessions.specs.HeardBytes.{session_met, CanHear, CanHeed}
use Rattle.sessions.specs.Events.{CanSend, after_event, after_heard, after_send, after_sends, answer_in}
use Rattle.sessions.specs.Events.{heeded_by, next_bytes, out_on_accept, taught_peers}
use Rattle.sessions.specs.Windows.{StaysWithin, acknowledgements, acknowledgements_of, empties_window, room, room_in}
use Rattle.sessions.specs.Windows.{room_met}
use Rattle.sessions.proofs.Amounts.{few_frames}
use Rattle.sessions.proofs.SessionLookups.{met_at}
use Rattle.sessions.proofs.Numbers.{AreThere, are_there, length_heard}

-- ---- one session

-- what one session gains, all gain
pub room_set : (peers : List Peer) (rank : ℕ) (p : Peer) → rank < length peers → room (slice_set peers rank p) +
    room_in (peer_at peers rank) ≡ room peers + room_in p
room_set [] rank p there = absurd (omega arith)
room_set (q ∷ qs) zero p there = omega arith
room_set (q ∷ qs) (suc rank) p there = omega (arith, room_set qs rank p (omega arith))

-- a session has no more room than its window
pub room_most : (peers : List Peer) → room peers ≤ 64 * length peers
room_most [] = omega arith
room_most (p ∷ ps) = omega (arith, room_most ps)

-- with another receiver the room is the same
room_received : (peers : List Peer) (rank : ℕ) (r : ReceiverState) → rank < length peers →
    room (with_receiver peers rank r) ≡ room peers
room_received peers rank r there =
    omega (arith, room_set peers rank (record { sender = (peer_at peers rank).sender; receiver = r }) there)

-- ---- frames

-- one frame goes out and takes a place, or waits
one_place : (kept out : ℕ) (t : Bool) (x : ℕ × List ℕ) → nat_lt kept 64 ≡ t → (out + length (cond t (x ∷ []) [])) +
    (64 - min 64 (kept + 1)) ≡ out + (64 - min 64 kept)
one_place kept out true x is = omega (arith, ltb-true kept 64 is)
one_place kept out false x is = omega (arith, ltb-false kept 64 is)

room_send : (s : SessionsState) (f : OutgoingText) → f.target < length s.peers →
    length (after_send s f).out + room (after_send s f).peers ≡ length s.out + room s.peers
room_send s f there =
    let old : SenderState = (peer_at s.peers f.target).sender in
    let p : Peer = record { sender = after_accept old (next_bytes s f); receiver = (peer_at s.peers f.target).receiver } in
    let one : List (ℕ × List ℕ) = out_on_accept old f.target (next_bytes s f) in
    let kept : length p.sender.frames ≡ length old.frames + 1 = length-append old.frames (new_frame (next_bytes s f) old.clock ∷ []) in
    omega (
      arith,
      room_set s.peers f.target p there,
      length-append s.out one,
      kept,
      one_place (length old.frames) (length s.out) (nat_lt (length old.frames) 64) (f.target, next_bytes s f) refl,
    )

room_sends : (s : SessionsState) (fs : List OutgoingText) → AreThere (length s.peers) fs →
    length (after_sends s fs).out + room (after_sends s fs).peers ≡ length s.out + room s.peers
room_sends s [] there = refl
room_sends s (f ∷ fs) there =
    let p : Peer = record { sender = after_accept (peer_at s.peers f.target).sender (next_bytes s f); receiver = (peer_at s.peers f.target).receiver } in
    room_sends (after_send s f) fs
    (subst (λ (n : ℕ). AreThere n fs) (sym (length-set s.peers f.target p))
    (All-tail (λ (g : OutgoingText). g.target < length s.peers) f fs there))
    ∙ room_send s f (All-head (λ (g : OutgoingText). g.target < length s.peers) f fs there)

-- ---- what is heard

-- what comes into the window by an acknowledgement, and what has room in it then, fill it at most
acknowledged_fill : (s : SenderState) (n held : ℕ) → n ≤ out_end s → (out_end (passed_to s n) - out_end s) +
    (64 - out_count (after_ack s n held)) ≤ 64
acknowledged_fill s n held sent =
    elim (cases_lt n s.lowest) [
      | inl late ↦
          let stays : out_end (passed_to s n) ≡ out_end s = ap (λ (x : SenderState). out_end x) (is_passed s n (omega (arith, late))) in
          omega (arith, stays)
      | inr on ↦
          omega (
            arith,
            on,
            sent,
            lowest_passed s n (omega (arith, on)),
            length_passed_to s n sent,
            length_after_ack s n held,
          )
    ]

taught_there : (lesson : Bool) (peers : List Peer) (q rank : ℕ) → rank < length peers →
    rank < length (taught_peers lesson peers q)
taught_there true peers q rank there = omega (arith, length-set peers q (new_session (peer_at peers q)), there)
taught_there false peers q rank there = there

-- the room of a word that is heeded, in sessions where the lesson was learnt
room_heeded : (w : WordText) (peers : List Peer) (e : Endpoint) (s : SessionsState) (lesson : Bool) →
    e.rank < length s.peers →
    peers ≡ taught_peers lesson s.peers e.rank → CanHeed (session_met lesson (peer_at s.peers e.rank)) w →
    length (answer_in w s.place (session_met lesson (peer_at s.peers e.rank)) e) + room (heeded_by w peers e.rank)
    ≤ acknowledgements_of w + room (taught_peers (empties_window lesson w) s.peers e.rank)
room_heeded (Acknowledges n held) peers e s true there is can =
    let taught : List Peer = taught_peers true s.peers e.rank in
    let p : Peer = new_session (peer_at s.peers e.rank) in
    let q : Peer = record { sender = after_ack (peer_at taught e.rank).sender n held; receiver = (peer_at taught e.rank).receiver } in
    let met : peer_at taught e.rank ≡ p = met_at true s.peers e.rank there in
    rw is (omega (
      arith,
      room_set taught e.rank q (taught_there true s.peers e.rank e.rank there),
      ap (λ (x : Peer). length x.sender.frames) met,
      ap (λ (x : Peer). length (after_ack x.sender n held).frames) met,
      acknowledged_fill p.sender n held can.number,
      few_frames e.rank p.sender (entered_on_ack p.sender n),
      length-range_with_len (out_end p.sender) (out_end (passed_to p.sender n) - out_end p.sender),
    ))
room_heeded (Acknowledges n held) peers e s false there is can =
    let p : Peer = peer_at s.peers e.rank in
    let q : Peer = record { sender = after_ack p.sender n held; receiver = p.receiver } in
    rw is (omega (
      arith,
      room_set s.peers e.rank q there,
      room_set s.peers e.rank (new_session p) there,
      acknowledged_fill p.sender n held can.number,
      few_frames e.rank p.sender (entered_on_ack p.sender n),
      length-range_with_len (out_end p.sender) (out_end (passed_to p.sender n) - out_end p.sender),
    ))
room_heeded Repeats peers e s true there is can = rw is (omega arith)
room_heeded Repeats peers e s false there is can = rw is (omega arith)
room_heeded (Hands f) peers e s true there is can =
    let t : List Peer = taught_peers true s.peers e.rank in
    rw is (omega (
      arith,
      room_received t e.rank (advanced (peer_at t e.rank).receiver)
          (taught_there true s.peers e.rank e.rank there),
    ))
room_heeded (Hands f) peers e s false there is can =
    rw is (omega (arith, room_received s.peers e.rank (advanced (peer_at s.peers e.rank).receiver) there))
room_heeded (Holds x) peers e s true there is can =
    let t : List Peer = taught_peers true s.peers e.rank in
    rw is (omega (
      arith,
      room_received t e.rank (after_frame (peer_at t e.rank).receiver x.number x.bytes)
          (taught_there true s.peers e.rank e.rank there),
    ))
room_heeded (Holds x) peers e s false there is can =
    rw is (omega
    (arith, room_received s.peers e.rank (after_frame (peer_at s.peers e.rank).receiver x.number x.bytes) there))
room_heeded (Follows f) peers e s true there is can =
    let t : List Peer = taught_peers true s.peers e.rank in
    rw is (omega (
      arith,
      room_received t e.rank (advanced (peer_at t e.rank).receiver)
          (taught_there true s.peers e.rank e.rank there),
    ))
room_heeded (Follows f) peers e s false there is can =
    rw is (omega (arith, room_received s.peers e.rank (advanced (peer_at s.peers e.rank).receiver) there))
room_heeded Nothing peers e s true there is can = rw is (omega arith)
room_heeded Nothing peers e s false there is can = rw is (omega arith)

room_heard : (s : SessionsState) (h : Option HeardText) → CanHear s h →
    length (after_heard s h).out + room (after_heard s h).peers ≤ length s.out +
    (acknowledgements h + room_met h s.peers)
room_heard s None can = omega arith
room_heard s (Some h) can =
    let p : Peer = session_met h.lesson (peer_at s.peers h.source.rank) in
    omega (
      arith,
      length-append s.out (answer_in h.word s.place p h.source),
      room_heeded h.word (taught_peers h.lesson s.peers h.source.rank) h.source s h.lesson can.0 refl can.1,
    )

-- ---- an event

within : (s : SessionsState) (h : Option HeardText) (fs : List OutgoingText) → CanHear s h →
    AreThere (length s.peers) fs →
    StaysWithin h s (after_event s h fs)
within s h fs can there =
    omega (
      arith,
      room_sends (after_heard s h) fs (subst (λ (n : ℕ). AreThere n fs) (sym (length_heard s h)) there),
      room_heard s h can,
    )

-- an event that is carried out stays within
pub within_carried : (r : Result (Unit {0}) SessionRefusal) (s new : SessionsState) (h : Option HeardText)
    (fs : List OutgoingText) → CanHear s h → All (CanSend s.place) fs →
    length s.peers ≡ s.place.size → OnOk r (new ≡ after_event s h fs) → OnOk r (StaysWithin h s new)
within_carried (Ok x) s new h fs can may each ok =
    subst (λ (t : SessionsState). StaysWithin h s t) (sym ok)
    (within s h fs can (are_there s.place (length s.peers) fs each may))
within_carried (Err e) s new h fs can may each ok = tt

-- ---- as many as there are sessions

taught_length : (lesson : Bool) (peers : List Peer) (q : ℕ) → length (taught_peers lesson peers q) ≡ length peers
taught_length true peers q = length-set peers q (new_session (peer_at peers q))
taught_length false peers q = refl

met_most : (h : Option HeardText) (peers : List Peer) → room_met h peers ≤ 64 * length peers
met_most None peers = room_most peers
met_most (Some h) peers =
    let wide : Bool = empties_window h.lesson h.word in
    omega (arith, room_most (taught_peers wide peers h.source.rank), taught_length wide peers h.source.rank)

one_at_most : (h : Option HeardText) → acknowledgements h ≤ 1
one_at_most None = omega arith
one_at_most (Some h) = go h.word
  where
    go : (w : WordText) → acknowledgements_of w ≤ 1
    go (Acknowledges n held) = omega arith
    go Repeats = omega arith
    go (Hands f) = omega arith
    go (Holds e) = omega arith
    go (Follows f) = omega arith
    go Nothing = omega arith

-- so with the room that is left then it is one acknowledgement and 64 frames for each rank
pub most_within : (h : Option HeardText) (s new : SessionsState) (size : ℕ) → length s.peers ≡ size →
    StaysWithin h s new →
    length new.out + room new.peers ≤ length s.out + (acknowledgements h + 64 * size)
most_within h s new size each stays =
    let most : 64 * length s.peers ≡ 64 * size = ap (λ (n : ℕ). 64 * n) each in
    omega (arith, stays, met_most h s.peers, most)

pub few_within : (h : Option HeardText) (s new : SessionsState) (size : ℕ) → length s.peers ≡ size → 0 < size →
    StaysWithin h s new →
    length new.out + room new.peers ≤ length s.out + 65 * size
few_within h s new size each some stays = omega (arith, most_within h s new size each stays, one_at_most h, some)
