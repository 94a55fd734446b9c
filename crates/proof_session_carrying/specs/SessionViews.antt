-- For what of the network's sessions the texts of the engines' sessions stand.
use Rattle.std.specs.Prelude.{◌≡◌, ℕ, suc, ◌*◌, ◌<◌, List, [], ◌∷◌, ◌++◌, ◌&&◌, Some, drop, if◌then◌else◌, length}
use Rattle.std.specs.Prelude.{slice_get}
use Rattle.collective_messages.specs.Messages.{says}
use Rattle.collective_messages.specs.declared.message.CollectiveMessage.{CollectiveMessage}
use Rattle.datagram.specs.Spellings.{ClearFrame, DataFrame, DataText, EagerFrame, EagerText, FrameText, RequestFrame}
use Rattle.datagram.specs.Spellings.{RequestText}
use Rattle.datagram.specs.declared.kinds.Clearance.TheVariants.{Send}
use Rattle.datagram.specs.declared.kinds.Plane.TheVariants.{Collective}
use Rattle.payload.specs.ByteMeanings.{payload_of}
use Rattle.payload.specs.Spellings.{spelling}
use Rattle.proof_collective_steps.specs.Counterparts.{IsSaid}
use Rattle.proof_collective_steps.specs.MessageNotes.{IsReadable}
use Rattle.proof_engine_view.specs.FrameViews.{StandsFor}
use Rattle.proof_group_network.specs.SessionContents.{
  Announces,
  Answers,
  BringsPart,
  Carried,
  OfMessages,
  OfNotices,
  Sessions,
}
use Rattle.proof_group_network.specs.Network.{NoticeLink}
use Rattle.proof_group_network.specs.Notices.{Notice}
use Rattle.endpoint_links.specs.Links.{LinkOf, LinksOf}
use Rattle.proof_session_carrying.specs.Announcements.{Announced, LargeNotice, all_announced, transfers_as}
use Rattle.rendezvous.specs.Pieces.{first_piece, piece_count}
use Rattle.vocabulary.specs.Endpoints.{is_same}
use Rattle.vocabulary.specs.MessageLimits.{frame_limit_of}
use Rattle.vocabulary.specs.declared.basic_type.BasicType.TheVariants.{Byte}
use Rattle.vocabulary.specs.declared.endpoint.Endpoint.{Endpoint}
use Rattle.vocabulary.specs.declared.message_limit.MessageLimit.{MessageLimit}
use Rattle.vocabulary.specs.declared.mode.Mode.TheVariants.{Standard}

-- ---- the messages that notices are

-- A message of s to d stands for a notice; it can be read, and its bytes say what it says
pub record IsBrought (s d : Endpoint) (m : CollectiveMessage) (x : Notice) : Type 0 where
  pub said : IsSaid s m (d, x)
  pub alike : s.incarnation ≡ d.incarnation
  pub readable : IsReadable m.entered m.given
  pub spelled : payload_of (spelling (says m)) ≡ Some (says m)

-- messages of s to d, one for each notice
abbrev pub AreBrought : (s d : Endpoint) → List CollectiveMessage → List Notice → Type 0
AreBrought s d [] [] = Unit {0}
AreBrought s d [] (x ∷ xs) = ⊥
AreBrought s d (m ∷ ms) [] = ⊥
AreBrought s d (m ∷ ms) (x ∷ xs) = IsBrought s d m x × AreBrought s d ms xs

-- the messages of collectives from each endpoint to each
abbrev pub Saying : Type 0
Saying = Endpoint → Endpoint → List CollectiveMessage

-- one for each notice that links of notices accepted
abbrev pub AreAllBrought : Saying → (Endpoint → Endpoint → NoticeLink) → Type 0
AreAllBrought said notices = (s d : Endpoint) → AreBrought s d (said s d) (notices s d).accepted

-- e sends one more to its target
abbrev pub say : Saying → (e : Endpoint) → CollectiveMessage → Saying
say said e m s d = if is_same s e && is_same d m.target then said e m.target ++ m ∷ [] else said s d

-- several, in their order
abbrev pub say_all : Saying → (e : Endpoint) → List CollectiveMessage → Saying
say_all said e [] = said
say_all said e (m ∷ ms) = say_all (say said e m) e ms

-- the bytes of a message
abbrev pub bytes_of_message : CollectiveMessage → List ℕ
bytes_of_message m = spelling (says m)

-- ---- the texts that bring them

-- an eager frame brings a message: it is of collectives, of bytes, which are the message's; its context is that of the
-- message, its tag the number of the collective
pub record IsEager (m : CollectiveMessage) (t : EagerText) : Type 0 where
  pub plane : t.plane ≡ Collective
  pub basic : t.basic ≡ Byte
  pub context : t.context ≡ m.context
  pub number : t.tag ≡ m.number
  pub elements : t.elements ≡ bytes_of_message m

-- an RTS announces a message: so many bytes, more than a frame of the job takes, for its context, under the number of the
-- collective. It is that of a standard send
pub record IsRequest (limit : MessageLimit) (m : CollectiveMessage) (t : RequestText) : Type 0 where
  pub mode : t.mode ≡ Standard
  pub plane : t.plane ≡ Collective
  pub basic : t.basic ≡ Byte
  pub context : t.context ≡ m.context
  pub number : t.tag ≡ m.number
  pub count : t.count ≡ length (bytes_of_message m)
  pub large : frame_limit_of limit < length (bytes_of_message m)

-- a DATA frame brings a piece of a message, under the number of the transfer that announced the notice i
pub record IsPiece (limit : MessageLimit) (out : List Announced) (i part : ℕ) (m : CollectiveMessage)
    (t : DataText) : Type 0 where
  pub announced : slice_get out t.transfer ≡ Some (LargeNotice i)
  pub place : t.offset ≡ part * frame_limit_of limit
  pub bytes : t.bytes ≡ first_piece (frame_limit_of limit) (drop (part * frame_limit_of limit) (bytes_of_message m))

-- a text makes the notice i whole: it brings its message, or the last piece of it
abbrev pub MakesWhole : MessageLimit → (out : List Announced) → (i : ℕ) → CollectiveMessage → FrameText → Type 0
MakesWhole limit out i m (EagerFrame t) = IsEager m t
MakesWhole limit out i m (DataFrame t) = (part : ℕ) ×
    (suc part ≡ piece_count (frame_limit_of limit) (bytes_of_message m)) ×
    IsPiece limit out i part m t
MakesWhole limit out i m _ = ⊥

-- a text announces it, under a number that is its own
abbrev pub MakesKnown : MessageLimit → (out : List Announced) → (i : ℕ) → CollectiveMessage → FrameText → Type 0
MakesKnown limit out i m (RequestFrame t) = (slice_get out t.transfer ≡ Some (LargeNotice i)) × IsRequest limit m t
MakesKnown limit out i m _ = ⊥

-- a text brings a piece of it, but not the last one
abbrev pub MakesPart : MessageLimit → (out : List Announced) → (i part : ℕ) → CollectiveMessage → FrameText → Type 0
MakesPart limit out i part m (DataFrame t) = (suc part < piece_count (frame_limit_of limit) (bytes_of_message m)) ×
    IsPiece limit out i part m t
MakesPart limit out i part m _ = ⊥

-- a text asks for the notice i of the other direction, by the number under which it was announced there
abbrev pub AsksFor : (back : List Announced) → (i : ℕ) → FrameText → Type 0
AsksFor back i (ClearFrame t) = (slice_get back t.transfer ≡ Some (LargeNotice i)) × (t.clearance ≡ Send)
AsksFor back i _ = ⊥

-- ---- what a text stands for

-- A text stands for what a session carries, where `out` was announced in its direction, `back` on the way back, and
-- `said` are the messages of its notices. For a frame of messages it stands whatever serials notices have: so no number
-- that it bears is a notice's
abbrev pub StandsForCarried : MessageLimit → (out back : List Announced) → (said : List CollectiveMessage) → FrameText →
    Carried →
    Type 0
StandsForCarried limit out back said text (OfMessages f) =
    (serial : ℕ) → StandsFor (transfers_as serial out) (transfers_as serial back) text f
StandsForCarried limit out back said text (OfNotices i) = (m : CollectiveMessage) × (slice_get said i ≡ Some m) ×
    MakesWhole limit out i m text
StandsForCarried limit out back said text (Announces i) = (m : CollectiveMessage) × (slice_get said i ≡ Some m) ×
    MakesKnown limit out i m text
StandsForCarried limit out back said text (Answers i) = AsksFor back i text
StandsForCarried limit out back said text (BringsPart i part) = (m : CollectiveMessage) × (slice_get said i ≡ Some m) ×
    MakesPart limit out i part m text

-- each text for what is at its place
abbrev pub StandFor : MessageLimit → (out back : List Announced) → (said : List CollectiveMessage) → List FrameText →
    List Carried →
    Type 0
StandFor limit out back said [] [] = Unit {0}
StandFor limit out back said [] (x ∷ xs) = ⊥
StandFor limit out back said (text ∷ texts) [] = ⊥
StandFor limit out back said (text ∷ texts) (x ∷ xs) =
    StandsForCarried limit out back said text x × StandFor limit out back said texts xs

-- a link of the engines' sessions carries what a session of the network carries, and handed as much of it up
pub record IsCarried (limit : MessageLimit) (out back : List Announced) (said : List CollectiveMessage)
    (texts : LinkOf FrameText)
    (session : LinkOf Carried) : Type 0 where
  pub accepted : StandFor limit out back said texts.accepted session.accepted
  pub handed : texts.handed ≡ session.handed

-- so does each, where this was announced from endpoint to endpoint
abbrev pub AreCarriedUnder : MessageLimit → (told : Endpoint → Endpoint → List Announced) → Saying → LinksOf FrameText →
    Sessions →
    Type 0
AreCarriedUnder limit told said texts sessions =
    (s d : Endpoint) → IsCarried limit (told s d) (told d s) (said s d) (texts s d) (sessions s d)

-- each under the numbers that the sessions themselves give
abbrev pub AreCarried : MessageLimit → Saying → LinksOf FrameText → Sessions → Type 0
AreCarried limit said texts sessions = AreCarriedUnder limit (all_announced sessions) said texts sessions

-- each text that goes out at e goes where what it stands for goes
abbrev pub AreSent : MessageLimit → (told : Endpoint → Endpoint → List Announced) → Saying →
    (e : Endpoint) → List (Endpoint × FrameText) → List (Endpoint × Carried) → Type 0
AreSent limit told said e [] [] = Unit {0}
AreSent limit told said e [] (x ∷ xs) = ⊥
AreSent limit told said e (t ∷ ts) [] = ⊥
AreSent limit told said e ((y, text) ∷ ts) ((d, x) ∷ xs) =
    (y ≡ d) × StandsForCarried limit (told e d) (told d e) (said e d) text x × AreSent limit told said e ts xs
