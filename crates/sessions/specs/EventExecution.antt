-- How an event is carried out: what may fail comes first, and the word and the lesson are heeded last, when nothing
-- fails any more.
use Rattle.std.specs.Prelude.{◌≢◌, ℕ, ◌<◌, List, [], ◌∷◌, ◌++◌, length, Option, Some, None}
use Rattle.datagram.specs.Spellings.{OutgoingText}
use Rattle.reliable_link.specs.SenderState.{SenderState, after_accept, after_take_back, next_number, IsOfSent}
use Rattle.incarnation.specs.declared.place.Place.{Place}
use Rattle.sessions.specs.declared.peers.Peer.{Peer}
use Rattle.sessions.specs.SessionsState.{SessionsState, known_endpoint}
use Rattle.sessions.specs.Peers.{peer_at, with_sender}
use Rattle.sessions.specs.Spellings.{frame_bytes}
use Rattle.sessions.specs.HeardBytes.{
  WordText,
  Acknowledges,
  Repeats,
  Hands,
  Holds,
  Follows,
  Nothing,
  HeardText,
  MayBeHeld,
}
use Rattle.sessions.specs.Events.{taught_known, heeded_by, answer_in, out_on_accept}

-- the word can be heeded in a session, and the number of a frame that is handed up is not the last one
abbrev pub CanSettleIn : Peer → WordText → Type 0
CanSettleIn p (Acknowledges n held) = IsOfSent p.sender n held
CanSettleIn p Repeats = Unit {0}
CanSettleIn p (Hands b) = p.receiver.next ≢ 18446744073709551615
CanSettleIn p (Holds e) = MayBeHeld p.receiver e.number
CanSettleIn p (Follows b) = p.receiver.next ≢ 18446744073709551615
CanSettleIn p Nothing = Unit {0}

-- the same in the session with its source, which has started anew where there is a lesson
abbrev pub CanSettle : List Peer → Option HeardText → Type 0
CanSettle peers None = Unit {0}
CanSettle peers (Some h) = (h.source.rank < length peers) × CanSettleIn (peer_at peers h.source.rank) h.word

-- what is known once the lesson is learnt
abbrev pub known_after : Option HeardText → List ℕ → List ℕ
known_after None known = known
known_after (Some h) known = taught_known h.lesson known h.source

-- the sessions once the word is heeded
abbrev pub peers_after : Option HeardText → List Peer → List Peer
peers_after None peers = peers
peers_after (Some h) peers = heeded_by h.word peers h.source.rank

-- what answers the word, in a session that has started anew where there is a lesson
abbrev pub answers : Option HeardText → Place → List Peer → List (ℕ × List ℕ)
answers None place peers = []
answers (Some h) place peers = answer_in h.word place (peer_at peers h.source.rank) h.source

-- the answer goes out
abbrev pub answered : Option HeardText → SessionsState → SessionsState
answered h s = record s { out = s.out ++ answers h s.place s.peers }

-- the datagram that a frame will be once the lesson is learnt
abbrev pub bytes_ahead : Option HeardText → SessionsState → OutgoingText → List ℕ
bytes_ahead h s f =
    frame_bytes s.place (known_endpoint (known_after h s.known) f.target) f.frame
    (next_number (peer_at s.peers f.target).sender)

-- the sender to a rank once the word is heeded
abbrev pub sender_after : Option HeardText → List Peer → ℕ → SenderState
sender_after h peers rank = (peer_at (peers_after h peers) rank).sender

-- a frame is taken over before the word is heeded
abbrev pub send_ahead : Option HeardText → SessionsState → OutgoingText → SessionsState
send_ahead h s f = record s {
  peers = with_sender s.peers f.target (after_accept (peer_at s.peers f.target).sender (bytes_ahead h s f));
  out = s.out ++ out_on_accept (sender_after h s.peers f.target) f.target (bytes_ahead h s f);
}

-- one after the other
abbrev pub sends_ahead : Option HeardText → SessionsState → List OutgoingText → SessionsState
sends_ahead h s [] = s
sends_ahead h s (f ∷ fs) = sends_ahead h (send_ahead h s f) fs

-- the lesson is learnt and the word heeded
abbrev pub settled : Option HeardText → SessionsState → SessionsState
settled h s = record s { known = known_after h s.known; peers = peers_after h s.peers }

-- the session with a rank gives the last of its frames back
abbrev pub taken_back : List Peer → ℕ → List Peer
taken_back peers rank = with_sender peers rank (after_take_back (peer_at peers rank).sender)

-- the same for each of these frames, the last one first
abbrev pub all_taken_back : List Peer → List OutgoingText → List Peer
all_taken_back peers [] = peers
all_taken_back peers (f ∷ fs) = taken_back (all_taken_back peers fs) f.target
