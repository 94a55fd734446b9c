-- What was emitted bears witness of what was handed up.
use Rattle.std.specs.Prelude.{◌≡◌, ℕ, ◌<◌, ◌%◌, ◌^◌, ◌⊎◌, false, List, Some, ◌==◌, slice_get}
use Rattle.vocabulary.specs.declared.endpoint.Endpoint.{Endpoint}
use Rattle.datagram.specs.Spellings.{FrameText}
use Rattle.reliable_link.specs.ReceiverState.{held_at}
use Rattle.sessions.specs.Peers.{peer_at}
use Rattle.sessions.specs.SessionsState.{SessionsState}
use Rattle.sessions.specs.Spellings.{ack_bytes}
use Rattle.link_truth.specs.Links.{Link}
use Rattle.link_truth.specs.Wire.{place_of, wire}

-- these bytes were emitted to this rank
pub record IsAmong (datagrams : List (ℕ × List ℕ)) (t : ℕ × List ℕ) : Type 0 where
  pub place : ℕ
  pub there : slice_get datagrams place ≡ Some t

-- the frame that s accepted for d under a number was emitted
pub record IsEmitted (n : ℕ) (datagrams : List (ℕ × List ℕ)) (s d : Endpoint) (link : Link) (number : ℕ) : Type 0 where
  pub frame : FrameText
  pub accepted : slice_get link.accepted number ≡ Some frame
  pub sent : IsAmong datagrams (d.rank, wire n s d number frame)

-- an acknowledgement of just so many frames of s was emitted by d, whichever of those behind them it says are held
pub record IsAcknowledged (n : ℕ) (datagrams : List (ℕ × List ℕ)) (s d : Endpoint) (number : ℕ) : Type 0 where
  pub held : ℕ
  pub even : held % 2 ≡ 0
  pub width : held < 2 ^ 64
  pub sent : IsAmong datagrams (s.rank, ack_bytes (place_of n d) s number held)

-- No frame from s was handed up at d, or d emitted an acknowledgement of just so many; and each of them was emitted
pub record IsWitnessed (n : ℕ) (datagrams : List (ℕ × List ℕ)) (s d : Endpoint) (link : Link) : Type 0 where
  pub acknowledged : (link.handed ≡ 0) ⊎ IsAcknowledged n datagrams s d link.handed
  pub frames : (number : ℕ) → number < link.handed → IsEmitted n datagrams s d link number

-- whatever rank r holds of the frames of others, until its turn comes, was emitted to it
abbrev pub AreHeldEmitted : (n : ℕ) → List (ℕ × List ℕ) → (r : ℕ) → SessionsState → Type 0
AreHeldEmitted n datagrams r own =
    (x place : ℕ) (bytes : List ℕ) → x < n → (x == r) ≡ false → held_at (peer_at own.peers x).receiver.held place ≡
    Some bytes →
    IsAmong datagrams (r, bytes)
