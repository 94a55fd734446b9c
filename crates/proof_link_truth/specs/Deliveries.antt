-- What a delivery does to the links of its world where it hands up several frames: the first one is an event, each one
-- that was held behind it takes its turn, and at the end what went out is put in order.
use Rattle.std.specs.Prelude.{◌≡◌, ℕ, ◌<◌, false, List, Option, Some, None, length, slice_get, slice_index, ◌==◌}
use Rattle.std.specs.Option.{option_map}
use Rattle.vocabulary.specs.declared.endpoint.Endpoint.{Endpoint}
use Rattle.datagram.specs.Spellings.{FrameText, OutgoingText}
use Rattle.sessions.specs.OutgoingOrder.{IsArranged}
use Rattle.sessions.specs.Events.{after_event, after_heard, sends_limit}
use Rattle.sessions.specs.HeldFrames.{acknowledged_at, ready_from, turn_of, without_ready}
use Rattle.sessions.specs.HeardBytes.{Follows, Hands, HeardText}
use Rattle.sessions.specs.Peers.{peer_at}
use Rattle.sessions.specs.SessionsState.{SessionsState}
use Rattle.sessions.specs.Spellings.{ack_of}
use Rattle.proof_link_truth.specs.Events.{HearsTruth, IsAt, IsFromDatagram, LeavesTrue, MaySendAll, all_addressed}
use Rattle.proof_link_truth.specs.Events.{links_heard}
use Rattle.link_truth.specs.Links.{Links, accept_all}
use Rattle.link_truth.specs.Truth.{AreTrue}
use Rattle.link_truth.specs.Wire.{at}

-- ---- in the middle of a delivery

-- The sessions at r, where a frame of the source was handed up, with what they emitted since the delivery began: the
-- links are true, and the datagram at this place of what they emitted acknowledges to the source all that was handed up
-- and is held
pub record IsMidway (n : ℕ) (sessions : List SessionsState) (datagrams : List (ℕ × List ℕ)) (r place : ℕ)
    (source : Endpoint)
    (mid : SessionsState) (links : Links) (current : ℕ → ℕ) : Type 0 where
  pub leaves : LeavesTrue n sessions datagrams r mid links current
  pub own : r < n
  pub there : source.rank < n
  pub apart : (source.rank == r) ≡ false
  pub known : slice_index mid.known source.rank ≡ source.incarnation
  pub acknowledged :
      slice_get mid.out place ≡ Some (source.rank, ack_of mid.place source (peer_at mid.peers source.rank).receiver)

-- A frame that comes in its turn, and is handed up, begins a delivery: what its event emits first acknowledges it
abbrev pub DeliveriesBegin : Type 0
DeliveriesBegin =
    (n r : ℕ) (sessions : List SessionsState) (datagrams : List (ℕ × List ℕ)) (links : Links) (current : ℕ → ℕ)
    (old : SessionsState) (h : HeardText) (frame : FrameText) (sendings : List OutgoingText) →
    AreTrue n sessions datagrams links current → IsAt sessions r old → IsFromDatagram datagrams r old h →
    h.word ≡ Hands frame →
    MaySendAll n r sendings → sends_limit (after_heard old (Some h)) sendings ≡ None →
    IsMidway n sessions datagrams r (length old.out) h.source (after_event old (Some h) sendings)
    (accept_all (links_heard links (at r (current r)) (Some h)) (at r (current r))
    (all_addressed (after_heard old (Some h)).known sendings)) current

-- ---- a turn

-- what is said by the next frame of the source, where it is held; inside, nothing where it spells no frame
abbrev pub turn_from : SessionsState → (source : Endpoint) → Option (Option HeardText)
turn_from mid source = option_map (turn_of source) (ready_from mid source.rank)

-- what was held says that it is the next frame, and that is true
pub record TurnIsTrue (n r : ℕ) (current : ℕ → ℕ) (mid : SessionsState) (links : Links) (source : Endpoint)
    (h : HeardText)
    : Type 0 where
  pub frame : FrameText
  pub says : h ≡ record { source = source; lesson = false; word = Follows frame }
  pub hears : HearsTruth n r current mid links h

-- Whatever was held is the next frame, once its turn comes
abbrev pub TurnsTellTheTruth : Type 0
TurnsTellTheTruth =
    (n r place : ℕ) (sessions : List SessionsState) (datagrams : List (ℕ × List ℕ)) (links : Links) (current : ℕ → ℕ)
    (source : Endpoint) (mid : SessionsState) (h : HeardText) →
    IsMidway n sessions datagrams r place source mid links current → turn_from mid source ≡ Some (Some h) →
    TurnIsTrue n r current mid links source h

-- It is handed up then, what is sent for it is accepted, and the acknowledgement of the delivery gives way to one that
-- says more
abbrev pub TurnsAreTrue : Type 0
TurnsAreTrue =
    (n r place : ℕ) (sessions : List SessionsState) (datagrams : List (ℕ × List ℕ)) (links : Links) (current : ℕ → ℕ)
    (source : Endpoint) (mid : SessionsState) (h : HeardText) (sendings : List OutgoingText) →
    IsMidway n sessions datagrams r place source mid links current → turn_from mid source ≡ Some (Some h) →
    MaySendAll n r sendings → sends_limit (after_heard mid (Some h)) sendings ≡ None →
    IsMidway n sessions datagrams r place source (acknowledged_at place source (after_event mid (Some h) sendings))
    (accept_all (links_heard links (at r (current r)) (Some h)) (at r (current r))
    (all_addressed (after_heard mid (Some h)).known sendings)) current

-- A frame that is taken out in its turn leaves the links true; its sender has it still
abbrev pub DiscardsAreTrue : Type 0
DiscardsAreTrue =
    (n r place : ℕ) (sessions : List SessionsState) (datagrams : List (ℕ × List ℕ)) (links : Links) (current : ℕ → ℕ)
    (source : Endpoint) (mid : SessionsState) →
    IsMidway n sessions datagrams r place source mid links current →
    IsMidway n sessions datagrams r place source (without_ready mid source.rank) links current

-- ---- the end

-- What went out may be put in another order, from any place on
abbrev pub OrderIsFree : Type 0
OrderIsFree =
    (n r from : ℕ) (sessions : List SessionsState) (datagrams : List (ℕ × List ℕ)) (links : Links) (current : ℕ → ℕ)
    (mid new : SessionsState) →
    LeavesTrue n sessions datagrams r mid links current → IsArranged from mid new →
    LeavesTrue n sessions datagrams r new links current
