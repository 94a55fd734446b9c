-- What frames that are sent leave as it was: what was emitted before, who is known, and what each receiver holds.
use Rattle.std.proofs.Common.{◌≡◌, ℕ, zero, suc, ◌<◌, List, [], ◌∷◌, length, Some, slice_get, slice_set, refl, sym, ap}
use Rattle.std.proofs.Common.{◌∙◌, arith}
use Rattle.std.proofs.lemmas.List.{length-append, set-append_left}
use Rattle.datagram.specs.Spellings.{OutgoingText}
use Rattle.vocabulary.specs.declared.endpoint.Endpoint.{Endpoint}
use Rattle.reliable_link.specs.ReceiverState.{ReceiverState}
use Rattle.reliable_link.specs.SenderState.{SenderState}
use Rattle.reliable_link.proofs.Places.{place_stays}
use Rattle.sessions.specs.declared.peers.Peer.{Peer}
use Rattle.sessions.specs.Events.{after_send, after_sends, next_bytes, out_on_accept}
use Rattle.sessions.specs.HeldFrames.{acknowledged_at}
use Rattle.sessions.specs.Peers.{peer_at, with_sender}
use Rattle.sessions.specs.SessionsState.{SessionsState}
use Rattle.sessions.specs.Spellings.{ack_of}

-- ---- what stays

-- a receiver
receiver_stays : (peers : List Peer) (rank x : ℕ) (t : SenderState) → (peer_at (with_sender peers rank t) x).receiver ≡
    (peer_at peers x).receiver
receiver_stays [] rank x t = refl
receiver_stays (p ∷ ps) zero zero t = refl
receiver_stays (p ∷ ps) zero (suc x) t = refl
receiver_stays (p ∷ ps) (suc rank) zero t = refl
receiver_stays (p ∷ ps) (suc rank) (suc x) t = receiver_stays ps rank x t

pub sends_keep_receiver : (s : SessionsState) (fs : List OutgoingText) (x : ℕ) →
    (peer_at (after_sends s fs).peers x).receiver ≡ (peer_at s.peers x).receiver
sends_keep_receiver s [] x = refl
sends_keep_receiver s (f ∷ fs) x = sends_keep_receiver (after_send s f) fs x ∙ receiver_stays s.peers f.target x _

-- where the rank stands
pub sends_keep_place : (s : SessionsState) (fs : List OutgoingText) → (after_sends s fs).place ≡ s.place
sends_keep_place s [] = refl
sends_keep_place s (f ∷ fs) = sends_keep_place (after_send s f) fs

-- who is known
pub sends_keep_known : (s : SessionsState) (fs : List OutgoingText) → (after_sends s fs).known ≡ s.known
sends_keep_known s [] = refl
sends_keep_known s (f ∷ fs) = sends_keep_known (after_send s f) fs

-- what was emitted before
pub sends_keep_out : (s : SessionsState) (fs : List OutgoingText) (place : ℕ) (t : ℕ × List ℕ) →
    slice_get s.out place ≡ Some t → slice_get (after_sends s fs).out place ≡ Some t
sends_keep_out s [] place t there = there
sends_keep_out s (f ∷ fs) place t there =
    sends_keep_out (after_send s f) fs place t
    (place_stays s.out (out_on_accept (peer_at s.peers f.target).sender f.target (next_bytes s f)) place t there)

-- ---- another datagram in the place of one that was emitted before

-- sessions that emitted these datagrams instead
abbrev pub emitting : SessionsState → List (ℕ × List ℕ) → SessionsState
emitting s out = record s { out = out }

-- is put there before or after frames are sent
pub sends_beside : (s : SessionsState) (fs : List OutgoingText) (place : ℕ) (t : ℕ × List ℕ) → place < length s.out
    → after_sends (emitting s (slice_set s.out place t)) fs ≡
    emitting (after_sends s fs) (slice_set (after_sends s fs).out place t)
sends_beside s [] place t within = refl
sends_beside s (f ∷ fs) place t within =
    let more : List (ℕ × List ℕ) = out_on_accept (peer_at s.peers f.target).sender f.target (next_bytes s f) in
    ap (λ (out : List (ℕ × List ℕ)). after_sends (emitting (after_send s f) out) fs)
    (sym (set-append_left s.out more place t within))
    ∙ sends_beside (after_send s f) fs place t (omega (arith, within, length-append s.out more))

-- so is the acknowledgement of what was reached
pub acknowledged_beside : (s : SessionsState) (fs : List OutgoingText) (place : ℕ) (source : Endpoint) →
    place < length s.out
    → after_sends (acknowledged_at place source s) fs ≡ acknowledged_at place source (after_sends s fs)
acknowledged_beside s fs place source within =
    sends_beside s fs place (source.rank, ack_of s.place source (peer_at s.peers source.rank).receiver) within
    ∙ ap (λ (r : ReceiverState). emitting (after_sends s fs)
    (slice_set (after_sends s fs).out place (source.rank, ack_of s.place source r)))
    (sym (sends_keep_receiver s fs source.rank))
    ∙ ap (λ p. emitting (after_sends s fs)
    (slice_set (after_sends s fs).out place
    (source.rank, ack_of p source (peer_at (after_sends s fs).peers source.rank).receiver)))
    (sym (sends_keep_place s fs))
