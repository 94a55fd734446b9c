-- What the sessions of a rank hold of the links.
use Rattle.std.specs.Prelude.{◌≡◌, ℕ, ◌+◌, ◌<◌, ◌≤◌, ◌^◌, Bool, false, ◌&&◌, not, List, [], Some, map, drop, length}
use Rattle.std.specs.Prelude.{◌==◌, nat_lt, slice_get, slice_index}
use Rattle.std.specs.List.{AllByRecursion}
use Rattle.vocabulary.specs.declared.endpoint.Endpoint.{Endpoint}
use Rattle.reliable_link.specs.declared.out_frame.OutFrame.{OutFrame}
use Rattle.datagram.specs.Spellings.{FrameText}
use Rattle.reliable_link.specs.SenderState.{SenderState}
use Rattle.reliable_link.specs.ReceiverState.{ReceiverState, held_at}
use Rattle.sessions.specs.declared.peers.Peer.{Peer}
use Rattle.sessions.specs.SessionsState.{SessionsState}
use Rattle.sessions.specs.Peers.{peer_at}
use Rattle.link_truth.specs.Links.{Link, Links}
use Rattle.link_truth.specs.Wire.{CanBeSent, at, in_job, place_of, wire, wires}

-- no more is handed up than was accepted, each frame can be spelled, and each number has 64 bits
pub record IsLink (link : Link) : Type 0 where
  pub reach : link.handed ≤ length link.accepted
  pub sent : AllByRecursion CanBeSent link.accepted
  pub numbered : length link.accepted < 2 ^ 64

-- the bytes of the frames that a sender keeps
abbrev pub bytes_kept : List OutFrame → List (List ℕ)
bytes_kept frames = map (λ (f : OutFrame). f.bytes) frames

-- the sender keeps what was accepted from its lowest number on, and all below it was handed up
pub record SenderTells (n : ℕ) (s d : Endpoint) (sender : SenderState) (link : Link) : Type 0 where
  pub kept : bytes_kept sender.frames ≡ drop sender.lowest (wires n s d 0 link.accepted)
  pub below : sender.lowest ≤ link.handed

-- these bytes are the frame that was accepted under a number
pub record IsHeldOf (n : ℕ) (s d : Endpoint) (number : ℕ) (link : Link) (bytes : List ℕ) : Type 0 where
  pub frame : FrameText
  pub accepted : slice_get link.accepted number ≡ Some frame
  pub spelled : bytes ≡ wire n s d number frame

-- the receiver stands behind what was handed up, and what it holds was accepted under its number
pub record ReceiverTells (n : ℕ) (s d : Endpoint) (receiver : ReceiverState) (link : Link) : Type 0 where
  pub next : receiver.next ≡ link.handed
  pub few : length receiver.held ≤ 64
  pub held :
      (place : ℕ) (bytes : List ℕ) → held_at receiver.held place ≡ Some bytes →
      IsHeldOf n s d (receiver.next + place) link bytes

-- The session of an endpoint with rank x, which it knows at incarnation k; those with later incarnations of x have not
-- begun
pub record PeerTells (n : ℕ) (current : ℕ → ℕ) (own : Endpoint) (x k : ℕ) (p : Peer) (links : Links) : Type 0 where
  pub begun : k ≤ current x
  pub sender : SenderTells n own (at x k) p.sender (links own (at x k))
  pub receiver : ReceiverTells n (at x k) own p.receiver (links (at x k) own)
  pub no_accepted : (i : ℕ) → k < i → (links own (at x i)).accepted ≡ []
  pub no_handed : (i : ℕ) → k < i → (links (at x i) own).handed ≡ 0

-- the sessions of rank r, which is at its current incarnation
pub record SessionsTell (n : ℕ) (current : ℕ → ℕ) (r : ℕ) (own : SessionsState) (links : Links) : Type 0 where
  pub place : own.place ≡ in_job own.place.message_limit (place_of n (at r (current r)))
  pub each : length own.peers ≡ n
  pub width : length own.known ≡ n
  pub peers :
      (x : ℕ) → x < n → (x == r) ≡ false →
      PeerTells n current (at r (current r)) x (slice_index own.known x) (peer_at own.peers x) links
  -- the session with itself stays empty
  pub itself : (peer_at own.peers r).sender.frames ≡ []

-- endpoints of two ranks of n
abbrev pub is_pair : (n : ℕ) → Endpoint → Endpoint → Bool
is_pair n s d = not (s.rank == d.rank) && (nat_lt s.rank n && nat_lt d.rank n)
