-- For which frames of the pure network the frames stand that a rank's core sends and is handed.
use Rattle.std.specs.Prelude.{◌≡◌, ℕ, ◌*◌, ◌<◌, Bool, true, false, List, [], ◌∷◌, map, Option, Some, None, slice_get}
use Rattle.vocabulary.specs.BasicTypes.{size_of}
use Rattle.vocabulary.specs.declared.endpoint.Endpoint.{Endpoint}
use Rattle.datatypes.specs.Contents.{AreWithin, bytes_of}
use Rattle.datagram.specs.declared.kinds.Clearance.{Clearance}
use Rattle.datagram.specs.declared.kinds.Clearance.TheVariants.{Send, Drop}
use Rattle.datagram.specs.declared.kinds.Plane.TheVariants.{PointToPoint}
use Rattle.datagram.specs.Spellings.{ClearText, DataText, FrameFits, FrameIsWithinFields, FrameText, RequestText}
use Rattle.datagram.specs.Spellings.{OutgoingText}
use Rattle.datagram.specs.Spellings.{EagerFrame, RequestFrame, ClearFrame, DataFrame}
use Rattle.incarnation.specs.declared.place.Place.{Place}
use Rattle.proof_pure_network.specs.Frames.{Cts, Data, Frame, Rts}
use Rattle.proof_engine_view.specs.Frames.{endpoint_of, message_seen}
use Rattle.proof_engine_view.specs.Transfers.{Announcements, Transfer}

-- an announcement on world: its number names the transfer that it announces, with its type and count
pub record IsRequest (out : List Transfer) (t : RequestText) (frame : Frame) : Type 0 where
  pub serial : ℕ
  pub plane : t.plane ≡ PointToPoint
  pub announced : slice_get out t.transfer ≡ Some (record { serial = serial; basic = t.basic; count = t.count })
  pub frame_is : frame ≡ Rts t.context t.tag t.basic serial t.count

-- whether the data are to come
abbrev pub is_wanted : Clearance → Bool
is_wanted Send = true
is_wanted Drop = false

-- an answer: its number names a transfer of the other direction
pub record IsClear (back : List Transfer) (t : ClearText) (frame : Frame) : Type 0 where
  pub transfer : Transfer
  pub announced : slice_get back t.transfer ≡ Some transfer
  pub frame_is : frame ≡ Cts transfer.serial (is_wanted t.clearance)

-- data: values of the transfer's type, which have its width, as bytes, from a place on
pub record IsData (out : List Transfer) (t : DataText) (frame : Frame) : Type 0 where
  pub transfer : Transfer
  pub offset : ℕ
  pub values : List ℕ
  pub announced : slice_get out t.transfer ≡ Some transfer
  pub frame_is : frame ≡ Data transfer.serial offset values
  pub place : t.offset ≡ offset * size_of transfer.basic
  pub bytes : t.bytes ≡ bytes_of (size_of transfer.basic) values
  pub within : AreWithin (size_of transfer.basic) values

-- A frame as a text stands for a frame of the network, on a link on which `out` was announced, and on the way back
-- `back`
abbrev pub StandsFor : (out back : List Transfer) → FrameText → Frame → Type 0
StandsFor out back (EagerFrame t) frame = message_seen t.plane t ≡ Some frame
StandsFor out back (RequestFrame t) frame = IsRequest out t frame
StandsFor out back (ClearFrame t) frame = IsClear back t frame
StandsFor out back (DataFrame t) frame = IsData out t frame

-- what an endpoint is handed from s stands for this frame, where either is one
abbrev pub IsMeant : Announcements → (s : Endpoint) → Option FrameText → Option Frame → Type 0
IsMeant a s None None = Unit {0}
IsMeant a s None (Some frame) = ⊥
IsMeant a s (Some text) None = ⊥
IsMeant a s (Some text) (Some frame) = StandsFor (a.from s) (a.to s) text frame

-- a frame for a rank, which goes to the incarnation at which the rank is known
abbrev pub gone_to : (known : List ℕ) → OutgoingText → Endpoint × FrameText
gone_to known f = (endpoint_of known f.target, f.frame)

-- several
abbrev pub all_gone : (known : List ℕ) → List OutgoingText → List (Endpoint × FrameText)
all_gone known fs = map (gone_to known) fs

-- a frame of a rank can leave it: it goes to another rank of the job, and can be spelled
pub record CanLeave (p : Place) (f : OutgoingText) : Type 0 where
  pub there : f.target < p.size
  pub apart : f.target ≡ p.endpoint.rank → ⊥
  pub fits : FrameFits f.frame
  pub width : FrameIsWithinFields f.frame

-- each text that an endpoint sends goes where its frame goes, and stands for it
abbrev pub AreSent : Announcements → List (Endpoint × FrameText) → List (Endpoint × Frame) → Type 0
AreSent a [] [] = Unit {0}
AreSent a [] (f ∷ fs) = ⊥
AreSent a (t ∷ ts) [] = ⊥
AreSent a ((x, text) ∷ ts) ((d, frame) ∷ fs) = (x ≡ d) × StandsFor (a.to d) (a.from d) text frame × AreSent a ts fs
