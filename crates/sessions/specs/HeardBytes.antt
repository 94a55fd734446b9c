-- What the sessions hear in bytes.
use Rattle.std.specs.Prelude.{◌≡◌, ℕ, ◌+◌, ◌-◌, ◌^◌, ◌<◌, nat_le, nat_lt, ◌==◌, Bool, true, false, List, length, Option}
use Rattle.std.specs.Prelude.{Some, None, Result, Ok, Err, if◌then◌else◌}
use Rattle.vocabulary.specs.declared.endpoint.Endpoint.{Endpoint}
use Rattle.datagram.specs.declared.refusal.DatagramRefusal as lower
use Rattle.datagram.specs.Spellings.{FrameText, BodyText, FrameBody, AckBody, ResetBody, DatagramText, frame_text}
use Rattle.datagram.specs.Spellings.{FrameFits}
use Rattle.datagram.specs.ByteMeanings.{datagram_within}
use Rattle.reliable_link.specs.SenderState.{out_end, IsOfSent}
use Rattle.reliable_link.specs.ReceiverState.{ReceiverState, held_at}
use Rattle.incarnation.specs.declared.judgement.Judgement.{Judgement}
use Rattle.incarnation.specs.declared.judgement.Judgement.TheVariants.{Current, Learn}
use Rattle.incarnation.specs.declared.refusal.IncarnationRefusal as judging
use Rattle.incarnation.specs.declared.refusal.IncarnationRefusal.TheVariants as judgings
use Rattle.incarnation.specs.Judgements.{judgement}
use Rattle.sessions.specs.declared.refusal.SessionRefusal.{SessionRefusal}
use Rattle.sessions.specs.declared.refusal.SessionRefusal.TheVariants as refusals
use Rattle.sessions.specs.declared.peers.Peer.{Peer}
use Rattle.sessions.specs.declared.heard.Early.{Early}
use Rattle.sessions.specs.declared.heard.Heard.{Heard}
use Rattle.sessions.specs.declared.heard.LinkEvent.{LinkEvent}
use Rattle.sessions.specs.declared.heard.LinkEvent.TheVariants as words
use Rattle.sessions.specs.declared.heard.Unheard.{Unheard}
use Rattle.sessions.specs.Refusals.{of_datagram}
use Rattle.sessions.specs.SessionsState.{SessionsState, knowledge}
use Rattle.sessions.specs.Peers.{peer_at, new_session}

-- a frame that came before its turn
pub record EarlyText : Type 0 where
  pub number : ℕ
  pub frame : FrameText
  -- the bytes of its datagram
  pub bytes : List ℕ

-- what a datagram says to a session, apart from where it lies in memory: that all frames below a number came, with
-- which behind it are held; that a frame came that was handed up or is held; the next frame; a frame that is to be
-- held; one that was held and is the next one now; or nothing
pub data WordText : Type 0 where
  Acknowledges : (n held : ℕ) → WordText
  Repeats : WordText
  Hands : FrameText → WordText
  Holds : EarlyText → WordText
  Follows : FrameText → WordText
  Nothing : WordText

-- who spoke, whether its incarnation is new here, and what it said
pub record HeardText : Type 0 where
  pub source : Endpoint
  pub lesson : Bool
  pub word : WordText

-- ---- what a value of the program says

-- what a frame before its turn says
abbrev pub early_text : Early → EarlyText
early_text e = record { number = e.number; frame = frame_text e.frame; bytes = e.bytes.now }

-- what a word says
abbrev pub word_text : LinkEvent → WordText
word_text (words.Acknowledges n held) = Acknowledges n held
word_text words.Repeats = Repeats
word_text (words.Hands f) = Hands (frame_text f)
word_text (words.Holds e) = Holds (early_text e)
word_text (words.Follows f) = Follows (frame_text f)
word_text words.Nothing = Nothing

-- what was heard says
abbrev pub heard_text : Heard → HeardText
heard_text h = record { source = h.source; lesson = h.lesson; word = word_text h.word }

-- the same, if anything was heard
abbrev pub heard_option : Option Heard → Option HeardText
heard_option None = None
heard_option (Some h) = Some (heard_text h)

-- ---- the link

-- the session that a datagram meets: after a lesson it is a new one
abbrev pub session_met : Bool → Peer → Peer
session_met true p = new_session p
session_met false p = p

-- a frame behind the next one, by what is held at its place
abbrev pub word_behind : Option (List ℕ) → EarlyText → Result WordText SessionRefusal
word_behind None e = Ok (Holds e)
word_behind (Some bytes) e = Ok Repeats

-- a frame by its number: below the next one it is repeated, the next one is handed up, one of the 63 behind it is held,
-- unless it is held already, and later ones are out of the window
abbrev pub word_of_frame : ReceiverState → EarlyText → Result WordText SessionRefusal
word_of_frame r e =
    if nat_lt e.number r.next then Ok Repeats else
    (if nat_le (r.next + 64) e.number then Err refusals.OutOfWindow else
    (if e.number == r.next then Ok (Hands e.frame) else word_behind (held_at r.held (e.number - r.next)) e))

-- an acknowledgement that speaks of a frame that never went out is out of the window
abbrev pub word_of_ack : Peer → (n held : ℕ) → Result WordText SessionRefusal
word_of_ack p n held =
    if nat_le n (out_end p.sender) then
    (if nat_lt held (2 ^ (out_end p.sender - n)) then Ok (Acknowledges n held) else Err refusals.OutOfWindow)
    else Err refusals.OutOfWindow

-- what a datagram with this number and these bytes says in a session, or that its number is out of the window
abbrev pub word_of : Peer → ℕ → BodyText → List ℕ → Result WordText SessionRefusal
word_of p n (AckBody held) bytes = word_of_ack p n held
word_of p n ResetBody bytes = Ok Nothing
word_of p n (FrameBody f) bytes = word_of_frame p.receiver (record { number = n; frame = f; bytes = bytes })

-- ---- all of it

-- a refusal that no reset answers
abbrev pub plainly : {A : Type 0} → SessionRefusal → Result A Unheard
plainly e = Err (record { refused = e; reset = None })

-- for a former incarnation of this rank: a reset is to go to the source, unless the datagram is one
abbrev pub stale : {A : Type 0} → Endpoint → BodyText → Result A Unheard
stale source (AckBody held) = Err (record { refused = refusals.StaleTarget; reset = Some source })
stale source (FrameBody f) = Err (record { refused = refusals.StaleTarget; reset = Some source })
stale source ResetBody = Err (record { refused = refusals.StaleTarget; reset = None })

-- the word, with who spoke
abbrev pub said : Endpoint → Bool → Result WordText SessionRefusal → Result HeardText Unheard
said source lesson (Ok w) = Ok (record { source = source; lesson = lesson; word = w })
said source lesson (Err e) = plainly e

-- why a datagram is not heard by its endpoints
abbrev pub unmeant : {A : Type 0} → judging.IncarnationRefusal → Endpoint → BodyText → Result A Unheard
unmeant judgings.StaleTarget source b = stale source b
unmeant judgings.Limit source b = plainly refusals.Limit
unmeant judgings.OutOfMemory source b = plainly refusals.OutOfMemory
unmeant judgings.ForeignJob source b = plainly refusals.ForeignJob
unmeant judgings.NotForMe source b = plainly refusals.NotForMe
unmeant judgings.StaleSource source b = plainly refusals.StaleSource

-- by how the header is judged
abbrev pub heard_by : Result Judgement judging.IncarnationRefusal → SessionsState → DatagramText → List ℕ →
    Result HeardText Unheard
heard_by (Ok Current) s d bytes =
    said d.header.source false
    (word_of (session_met false (peer_at s.peers d.header.source.rank)) d.header.sequence d.body bytes)
heard_by (Ok (Learn i)) s d bytes =
    said d.header.source true
    (word_of (session_met true (peer_at s.peers d.header.source.rank)) d.header.sequence d.body bytes)
heard_by (Err e) s d bytes = unmeant e d.header.source d.body

-- in what was read in these bytes
abbrev pub heard_in : SessionsState → Result DatagramText lower.DatagramRefusal → List ℕ → Result HeardText Unheard
heard_in s (Err e) bytes = plainly (of_datagram e)
heard_in s (Ok d) bytes = heard_by (judgement (knowledge s) d.header) s d bytes

-- what is heard in these bytes: they are read (21 to 25, 30), where they may speak of no message and no frame above the
-- job's limit, judged by both endpoints (26 to 29), and by the link (31)
unfoldable pub heard_of : SessionsState → List ℕ → Result HeardText Unheard
heard_of s bytes = heard_in s (datagram_within s.place.message_limit bytes) bytes

-- what a function answered is that, seen as text
abbrev pub Hears : Result Heard Unheard → Result HeardText Unheard → Type 0
Hears (Ok h) heard = heard ≡ Ok (heard_text h)
Hears (Err e) heard = heard ≡ Err e

-- the same of the word alone
abbrev pub Says : Result LinkEvent SessionRefusal → Result WordText SessionRefusal → Type 0
Says (Ok w) said = said ≡ Ok (word_text w)
Says (Err e) said = said ≡ Err e

-- ---- what may be heard

-- what is handed up is within the format's limits
abbrev pub WordFits : WordText → Type 0
WordFits (Acknowledges n held) = Unit {0}
WordFits Repeats = Unit {0}
WordFits (Hands f) = FrameFits f
WordFits (Holds e) = FrameFits e.frame
WordFits (Follows f) = FrameFits f
WordFits Nothing = Unit {0}

-- a frame that may be held: one of the 63 behind the next one, which isn't held
pub record MayBeHeld (r : ReceiverState) (n : ℕ) : Type 0 where
  pub behind : r.next < n
  pub near : n < r.next + 64
  pub free : held_at r.held (n - r.next) ≡ None

-- only of frames that went out an acknowledgement speaks
abbrev pub CanHeed : Peer → WordText → Type 0
CanHeed p (Acknowledges n held) = IsOfSent p.sender n held
CanHeed p Repeats = Unit {0}
CanHeed p (Hands f) = Unit {0}
CanHeed p (Holds e) = MayBeHeld p.receiver e.number
CanHeed p (Follows f) = Unit {0}
CanHeed p Nothing = Unit {0}

-- it comes from a rank of the job, and its word can be heeded in the session that it meets
abbrev pub CanHear : SessionsState → Option HeardText → Type 0
CanHear s None = Unit {0}
CanHear s (Some h) =
    (h.source.rank < length s.peers) × CanHeed (session_met h.lesson (peer_at s.peers h.source.rank)) h.word
