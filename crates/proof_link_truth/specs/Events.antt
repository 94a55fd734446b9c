-- What an event of a rank does to the links of its world.
use Rattle.std.specs.Prelude.{◌≡◌, ℕ, zero, suc, ◌+◌, ◌<◌, ◌≤◌, Bool, true, false, List, [], ◌∷◌, ◌++◌, Option, Some}
use Rattle.std.specs.Prelude.{None, Ok, Err, map, slice_get, slice_set, slice_index, ◌==◌}
use Rattle.std.specs.List.{AllByRecursion}
use Rattle.vocabulary.specs.declared.endpoint.Endpoint.{Endpoint}
use Rattle.vocabulary.specs.Endpoints.{last_incarnation}
use Rattle.perfect_queues.specs.State.{with_number}
use Rattle.datagram.specs.Spellings.{FrameText, OutgoingText}
use Rattle.sessions.specs.declared.refusal.SessionRefusal.{SessionRefusal}
use Rattle.sessions.specs.declared.heard.Unheard.{Unheard}
use Rattle.sessions.specs.Events.{TurnedAway, after_event, after_heard, sends_limit}
use Rattle.reliable_link.specs.ReceiverState.{held_at}
use Rattle.sessions.specs.Peers.{peer_at}
use Rattle.sessions.specs.HeardBytes.{
  Acknowledges,
  EarlyText,
  Follows,
  Hands,
  HeardText,
  Holds,
  Nothing,
  Repeats,
  WordText,
}
use Rattle.sessions.specs.HeardBytes.{heard_of}
use Rattle.sessions.specs.SessionsState.{SessionsState, known_endpoint, opening}
use Rattle.sessions.specs.Ticks.{after_tick}
use Rattle.link_truth.specs.Links.{Links, accept_all, handed_on, in_flight}
use Rattle.link_truth.specs.Quiet.{AreQuiet}
use Rattle.link_truth.specs.Sessions.{IsHeldOf}
use Rattle.link_truth.specs.Truth.{AreTrue}
use Rattle.link_truth.specs.Wire.{CanBeSent, at, in_job, place_of}
use Rattle.vocabulary.specs.declared.message_limit.MessageLimit.{MessageLimit}

-- ---- the sessions of a world, rank by rank

-- the sessions of a rank once what they emitted was taken out of them
abbrev pub emptied : SessionsState → SessionsState
emptied s = record s { out = [] }

-- the sessions of k ranks among n, from this rank on, at their first incarnations, in a job with this limit
abbrev pub opening_sessions : MessageLimit → (n rank : ℕ) → ℕ → List SessionsState
opening_sessions l n rank zero = []
opening_sessions l n rank (suc k) =
    opening (in_job l (place_of n (at rank 0))) ∷ opening_sessions l n (suc rank) k

-- links that carried nothing
abbrev pub no_links : Links
no_links s d = record { accepted = []; handed = 0 }

-- an event after which the sessions at r, out of which what they emitted was taken, leave these links true
abbrev pub LeavesTrue :
    (n : ℕ) → List SessionsState → List (ℕ × List ℕ) → (r : ℕ) → SessionsState → Links → (current : ℕ → ℕ) → Type 0
LeavesTrue n sessions datagrams r mid links current =
    AreTrue n (slice_set sessions r (emptied mid)) (datagrams ++ mid.out) links current

-- the sessions of a rank of the world, out of which everything was taken
pub record IsAt (sessions : List SessionsState) (r : ℕ) (s : SessionsState) : Type 0 where
  pub there : slice_get sessions r ≡ Some s
  pub out : s.out ≡ []

-- at the start of at most 1,024 ranks no link carried anything, and nothing is on its way
abbrev pub OpeningIsTrue : Type 0
OpeningIsTrue =
    (l : MessageLimit) (n : ℕ) → n ≤ 1024 → AreTrue n (opening_sessions l n 0 n) [] no_links (λ r. 0)

-- ---- what is heard

-- the sessions at r hear this in a datagram that went to r
pub record IsFromDatagram (datagrams : List (ℕ × List ℕ)) (r : ℕ) (old : SessionsState) (h : HeardText) : Type 0 where
  pub number : ℕ
  pub bytes : List ℕ
  pub there : slice_get datagrams number ≡ Some (r, bytes)
  pub hears : heard_of old bytes ≡ Ok h

-- a lesson is an incarnation above the known one; where there is none, it is the known one
abbrev pub IsLesson : Bool → (known incarnation : ℕ) → Type 0
IsLesson true known incarnation = known < incarnation
IsLesson false known incarnation = known ≡ incarnation

-- an endpoint of another rank, which was there, and from no incarnation before the known one
pub record IsHeard (n r : ℕ) (current : ℕ → ℕ) (known : List ℕ) (s : Endpoint) (lesson : Bool) : Type 0 where
  pub there : s.rank < n
  pub apart : (s.rank == r) ≡ false
  pub begun : s.incarnation ≤ current s.rank
  pub incarnation : IsLesson lesson (slice_index known s.rank) s.incarnation

-- the next frame that the link from s to d hands up is this
pub record IsNext (links : Links) (s d : Endpoint) (frame : FrameText) : Type 0 where
  pub next : slice_get (links s d).accepted (links s d).handed ≡ Some frame
  pub carried : CanBeSent frame

-- a frame of the link from s to d is one of the 63 behind the next one, and its datagram's bytes are those of its
-- number
pub record IsBehind (n : ℕ) (links : Links) (s d : Endpoint) (e : EarlyText) : Type 0 where
  pub above : (links s d).handed < e.number
  pub near : e.number < (links s d).handed + 64
  pub held : IsHeldOf n s d e.number (links s d) e.bytes

-- what a word of s says to d of their links
abbrev pub IsTrueWord : (n : ℕ) → Links → (s d : Endpoint) → WordText → Type 0
IsTrueWord n links s d (Acknowledges number held) = number ≤ (links d s).handed
IsTrueWord n links s d Repeats = Unit {0}
IsTrueWord n links s d (Hands frame) = IsNext links s d frame
IsTrueWord n links s d (Holds e) = IsBehind n links s d e
IsTrueWord n links s d (Follows frame) = IsNext links s d frame
IsTrueWord n links s d Nothing = Unit {0}

-- who spoke was there, and what it said is true
pub record HearsTruth (n r : ℕ) (current : ℕ → ℕ) (old : SessionsState) (links : Links) (h : HeardText) : Type 0 where
  pub heard : IsHeard n r current old.known h.source h.lesson
  pub word : IsTrueWord n links h.source (at r (current r)) h.word

-- Whatever a rank hears in a datagram that went to it is true
abbrev pub HearingIsTrue : Type 0
HearingIsTrue =
    (n r : ℕ) (sessions : List SessionsState) (datagrams : List (ℕ × List ℕ)) (links : Links) (current : ℕ → ℕ)
    (old : SessionsState) (h : HeardText) →
    AreTrue n sessions datagrams links current → IsAt sessions r old → IsFromDatagram datagrams r old h →
    HearsTruth n r current old links h

-- ---- what is sent

-- what the sessions at r send goes to another rank of n, and can be spelled
pub record MaySend (n r : ℕ) (sending : OutgoingText) : Type 0 where
  pub there : sending.target < n
  pub apart : (sending.target == r) ≡ false
  pub carried : CanBeSent sending.frame

-- each is
abbrev pub MaySendAll : (n r : ℕ) → List OutgoingText → Type 0
MaySendAll n r sendings = AllByRecursion (MaySend n r) sendings

-- a frame with the endpoint that it goes to: its rank at the incarnation at which it is known
abbrev pub addressed : (known : List ℕ) → OutgoingText → Endpoint × FrameText
addressed known sending = (known_endpoint known sending.target, sending.frame)

-- the same of each, in their order
abbrev pub all_addressed : (known : List ℕ) → List OutgoingText → List (Endpoint × FrameText)
all_addressed known sendings = map (addressed known) sendings

-- ---- an event: a word may be heard, and frames may be sent

-- whatever is heard comes in a datagram that went to the rank
abbrev pub Comes : List (ℕ × List ℕ) → (r : ℕ) → SessionsState → Option HeardText → Type 0
Comes datagrams r old None = Unit {0}
Comes datagrams r old (Some h) = IsFromDatagram datagrams r old h

-- the links once d heeded a word of s: their next frame is handed up, or they stay
abbrev pub links_heeded : Links → (s d : Endpoint) → WordText → Links
links_heeded links s d (Acknowledges number held) = links
links_heeded links s d Repeats = links
links_heeded links s d (Hands frame) = handed_on links s d
links_heeded links s d (Holds e) = links
links_heeded links s d (Follows frame) = handed_on links s d
links_heeded links s d Nothing = links

-- the same, if anything was heard
abbrev pub links_heard : Links → (own : Endpoint) → Option HeardText → Links
links_heard links own None = links
links_heard links own (Some h) = links_heeded links h.source own h.word

-- What is heard is handed up where it is a frame, and what is sent is accepted by the link to the known endpoint of its
-- rank, unless a number would be the last one
abbrev pub EventsAreTrue : Type 0
EventsAreTrue =
    (n r : ℕ) (sessions : List SessionsState) (datagrams : List (ℕ × List ℕ)) (links : Links) (current : ℕ → ℕ)
    (old : SessionsState) (heard : Option HeardText) (sendings : List OutgoingText) →
    AreTrue n sessions datagrams links current → IsAt sessions r old → Comes datagrams r old heard →
    MaySendAll n r sendings → sends_limit (after_heard old heard) sendings ≡ None →
    LeavesTrue n sessions datagrams r (after_event old heard sendings)
    (accept_all (links_heard links (at r (current r)) heard) (at r (current r))
    (all_addressed (after_heard old heard).known sendings))
    current

-- ---- what changes no link

-- Sessions to which nothing happened leave the links true
abbrev pub RestIsTrue : Type 0
RestIsTrue =
    (n r : ℕ) (sessions : List SessionsState) (datagrams : List (ℕ × List ℕ)) (links : Links) (current : ℕ → ℕ)
    (old : SessionsState) →
    AreTrue n sessions datagrams links current → IsAt sessions r old →
    LeavesTrue n sessions datagrams r old links current

-- A datagram that isn't heard leaves the links true, and so does the reset that may go out with it
abbrev pub RefusalsAreTrue : Type 0
RefusalsAreTrue =
    (n r number : ℕ) (bytes : List ℕ) (sessions : List SessionsState) (datagrams : List (ℕ × List ℕ)) (links : Links)
    (current : ℕ → ℕ) (old new : SessionsState) (unheard : Unheard) (why : SessionRefusal) →
    AreTrue n sessions datagrams links current → IsAt sessions r old → slice_get datagrams number ≡ Some (r, bytes) →
    heard_of old bytes ≡ Err unheard → TurnedAway unheard.reset unheard.refused old why new →
    LeavesTrue n sessions datagrams r new links current

-- A tick, which sends again what is due, leaves the links true
abbrev pub TicksAreTrue : Type 0
TicksAreTrue =
    (n r now : ℕ) (sessions : List SessionsState) (datagrams : List (ℕ × List ℕ)) (links : Links) (current : ℕ → ℕ)
    (old : SessionsState) →
    AreTrue n sessions datagrams links current → IsAt sessions r old →
    LeavesTrue n sessions datagrams r (after_tick old now) links current

-- The sessions of a rank give way to new ones at the next incarnation; the links stay, and so does what is on its way
abbrev pub RestartsAreTrue : Type 0
RestartsAreTrue =
    (n r : ℕ) (sessions : List SessionsState) (datagrams : List (ℕ × List ℕ)) (links : Links) (current : ℕ → ℕ)
    (old : SessionsState) →
    AreTrue n sessions datagrams links current → slice_get sessions r ≡ Some old → current r < last_incarnation →
    AreTrue n (slice_set sessions r (opening (in_job old.place.message_limit (place_of n (at r (suc (current r)))))))
    datagrams links
    (with_number current r (suc (current r)))

-- ---- the quiet clause

-- whoever stands at rank a knows b
abbrev pub Knows : List SessionsState → (a : ℕ) → Endpoint → Type 0
Knows sessions a b = (s : SessionsState) → slice_get sessions a ≡ Some s → slice_index s.known b.rank ≡ b.incarnation

-- then nothing is on its way between them
abbrev pub IdleIsStill : Type 0
IdleIsStill =
    (n : ℕ) (sessions : List SessionsState) (datagrams : List (ℕ × List ℕ)) (links : Links) (current : ℕ → ℕ) →
    AreTrue n sessions datagrams links current → AreQuiet sessions → (s d : Endpoint) →
    s.incarnation ≡ current s.rank → d.incarnation ≡ current d.rank → Knows sessions s.rank d →
    Knows sessions d.rank s →
    in_flight (links s d) ≡ []

-- and neither holds a frame of the other that waits for its turn
abbrev pub IdleHoldsNothing : Type 0
IdleHoldsNothing =
    (n r x place : ℕ) (sessions : List SessionsState) (datagrams : List (ℕ × List ℕ)) (links : Links) (current : ℕ → ℕ)
    (own other : SessionsState) →
    AreTrue n sessions datagrams links current → AreQuiet sessions → slice_get sessions r ≡ Some own →
    slice_get sessions x ≡ Some other → (x == r) ≡ false → slice_index own.known x ≡ other.place.endpoint.incarnation →
    slice_index other.known r ≡ own.place.endpoint.incarnation → held_at (peer_at own.peers x).receiver.held place ≡
    None
