-- What bytes say, field by field, with the first fault.
use Rattle.std.specs.Prelude.{◌≡◌, ℕ, ◌+◌, ◌*◌, ◌%◌, List, length, drop, slice_index, Option, Some, None, Result, Ok}
use Rattle.std.specs.Prelude.{Err, Bool, true, nat_le, nat_lt, ◌==◌, if◌then◌else◌}
use Rattle.byteorder.specs.Endian.{big_number}
use Rattle.vocabulary.specs.declared.basic_type.BasicType.{BasicType}
use Rattle.vocabulary.specs.BasicTypes.{code_of, size_of, type_at}
use Rattle.vocabulary.specs.Limits.{greatest_frame, highest_tag}
use Rattle.vocabulary.specs.MessageLimits.{frame_limit_of}
use Rattle.vocabulary.specs.declared.message_limit.MessageLimit.{MessageLimit}
use Rattle.vocabulary.specs.Modes.{is_standard, mode_at}
use Rattle.datagram.specs.declared.refusal.DatagramRefusal.{DatagramRefusal}
use Rattle.datagram.specs.declared.refusal.DatagramRefusal.TheVariants as refusals
use Rattle.datagram.specs.declared.kinds.DatagramKind.{DatagramKind}
use Rattle.datagram.specs.declared.kinds.DatagramKind.TheVariants as kinds
use Rattle.datagram.specs.declared.kinds.Plane.{Plane}
use Rattle.datagram.specs.declared.kinds.Plane.TheVariants.{PointToPoint, Collective}
use Rattle.datagram.specs.declared.datagram.Header.{Header}
use Rattle.datagram.specs.declared.reading.Opening.{Opening}
use Rattle.datagram.specs.Kinds.{clearance_at, kind_at, plane_at}
use Rattle.datagram.specs.Spellings.{EagerText, RequestText, ClearText, DataText, FrameText, EagerFrame, RequestFrame}
use Rattle.datagram.specs.Spellings.{ClearFrame, DataFrame, BodyText, FrameBody, AckBody, ResetBody, DatagramText}
use Rattle.datagram.specs.Spellings.{body_is_within}

infixl 10 ◌>>=◌
-- a step after a step that gave no fault
abbrev pub ◌>>=◌ : {A B : Type 0} → Result A DatagramRefusal → (A → Result B DatagramRefusal) → Result B DatagramRefusal
(Ok x) >>= f = f x
(Err e) >>= f = Err e

-- what a function returned, seen by view, is what reading gives
abbrev pub Gives : {X Y : Type 0} → (X → Y) → Result X DatagramRefusal → Result Y DatagramRefusal → Type 0
Gives view (Ok x) read = read ≡ Ok (view x)
Gives view (Err e) read = read ≡ Err e

-- a fault, unless the test holds
abbrev pub guard : {A : Type 0} → Bool → DatagramRefusal → Result A DatagramRefusal → Result A DatagramRefusal
guard test fault next = if test then next else Err fault

-- what was looked up, or a fault where there is nothing
abbrev pub required : {A : Type 0} → Option A → DatagramRefusal → Result A DatagramRefusal
required (Some x) fault = Ok x
required None fault = Err fault

-- the number in n bytes from place i
abbrev pub number_at : ℕ → ℕ → List ℕ → ℕ
number_at i n bytes = big_number n (drop i bytes)

-- the kind, where the fields up to it have no fault: 21, 22, 23, 24 in this order
unfoldable pub kind_of : List ℕ → Result DatagramKind DatagramRefusal
kind_of bytes =
    guard (nat_le 32 (length bytes)) refusals.Short
    (guard (number_at 0 4 bytes == 0x4d505544) refusals.Magic
    (guard (slice_index bytes 4 == 2) refusals.Version
    (required (kind_at (slice_index bytes 5)) refusals.Kind)))

-- how long a body of this kind may be, in bytes, where a frame has so many bytes of data at most
abbrev pub length_fits : (frame : ℕ) → DatagramKind → ℕ → Bool
length_fits frame kinds.Frame n = nat_le n (frame + 176)
length_fits frame kinds.Ack n = n == 8
length_fits frame kinds.Reset n = n == 0

-- the bytes behind the header, which must be as many as it says and may be: 25
unfoldable pub body_of : (frame : ℕ) → DatagramKind → List ℕ → Result (List ℕ) DatagramRefusal
body_of frame kind bytes =
    let body = drop 32 bytes in
    guard (number_at 14 2 bytes == length body) refusals.Length
    (guard (length_fits frame kind (length body)) refusals.Length
    (Ok body))

-- the header's fields
unfoldable pub header_of : List ℕ → Header
header_of bytes = record {
  source = record { rank = number_at 6 2 bytes; incarnation = number_at 10 2 bytes };
  target = record { rank = number_at 8 2 bytes; incarnation = number_at 12 2 bytes };
  job = number_at 16 8 bytes;
  sequence = number_at 24 8 bytes;
}

-- whether only bytes go between collectives
abbrev pub basic_fits_plane : Plane → BasicType → Bool
basic_fits_plane PointToPoint basic = true
basic_fits_plane Collective basic = code_of basic == 9

-- what an EAGER and an RTS say of their message in bytes 1 to 19, or 30; an EAGER is of a standard send
unfoldable pub opening_of : List ℕ → Result Opening DatagramRefusal
opening_of body =
    guard (nat_le 20 (length body)) refusals.BadFrame (do
      mode ← required (mode_at (slice_index body 3)) refusals.BadFrame
      plane ← required (plane_at (slice_index body 1)) refusals.BadFrame
      basic ← required (type_at (slice_index body 2)) refusals.BadFrame
      guard (basic_fits_plane plane basic) refusals.BadFrame
          (guard (nat_le (number_at 4 4 body) highest_tag) refusals.BadFrame
          (Ok (record {
            mode = mode;
            plane = plane;
            basic = basic;
            tag = number_at 4 4 body;
            context = number_at 8 8 body;
            count = number_at 16 4 body;
          }))))

-- an eager frame, or 30
unfoldable pub eager_of : List ℕ → Result EagerText DatagramRefusal
eager_of body = do
  o ← opening_of body
  guard (is_standard o.mode) refusals.BadFrame
      (guard (nat_le (length (drop 20 body)) greatest_frame) refusals.BadFrame
      (guard (length (drop 20 body) == o.count * size_of o.basic) refusals.BadFrame
      (Ok (record {
        plane = o.plane;
        basic = o.basic;
        tag = o.tag;
        context = o.context;
        count = o.count;
        elements = drop 20 body;
      }))))

-- an RTS, or 30
unfoldable pub request_of : List ℕ → Result RequestText DatagramRefusal
request_of body =
    guard (length body == 24) refusals.BadFrame (do
      o ← opening_of body
      Ok (record {
        mode = o.mode;
        plane = o.plane;
        basic = o.basic;
        tag = o.tag;
        context = o.context;
        count = o.count;
        transfer = number_at 20 4 body;
      }))

-- a CTS, or 30
unfoldable pub clear_of : List ℕ → Result ClearText DatagramRefusal
clear_of body =
    guard (length body == 8) refusals.BadFrame
    (guard (number_at 2 2 body == 0) refusals.BadFrame (do
      clearance ← required (clearance_at (slice_index body 1)) refusals.BadFrame
      Ok (record { transfer = number_at 4 4 body; clearance = clearance })))

-- a DATA frame, or 30
unfoldable pub data_of : List ℕ → Result DataText DatagramRefusal
data_of body =
    guard (nat_lt 12 (length body)) refusals.BadFrame
    (guard (number_at 0 4 body == 0x04000000) refusals.BadFrame
    (guard (nat_le (length (drop 12 body)) greatest_frame) refusals.BadFrame
    (Ok (record { transfer = number_at 4 4 body; offset = number_at 8 4 body; bytes = drop 12 body }))))

-- what was read, as a frame
abbrev pub as_frame : {A : Type 0} → (A → FrameText) → Result A DatagramRefusal → Result FrameText DatagramRefusal
as_frame make read = do
  x ← read
  Ok (make x)

-- a frame by its first byte, or 30; no frame is empty
unfoldable pub frame_of : List ℕ → Result FrameText DatagramRefusal
frame_of body =
    if slice_index body 0 == 1 then as_frame EagerFrame (eager_of body)
    else (if slice_index body 0 == 2 then as_frame RequestFrame (request_of body)
    else (if slice_index body 0 == 3 then as_frame ClearFrame (clear_of body)
    else (if slice_index body 0 == 4 then as_frame DataFrame (data_of body)
    else Err refusals.BadFrame)))

-- which frames an acknowledgement says are held, or 30: the one that its sender waits for isn't
unfoldable pub held_of : List ℕ → Result ℕ DatagramRefusal
held_of body = guard (number_at 0 8 body % 2 == 0) refusals.BadFrame (Ok (number_at 0 8 body))

-- the content of a body of this kind under this number, or 30: a reset has number 0
unfoldable pub content_of : DatagramKind → ℕ → List ℕ → Result BodyText DatagramRefusal
content_of kinds.Ack n body = do
  held ← held_of body
  Ok (AckBody held)
content_of kinds.Reset n body = guard (n == 0) refusals.BadFrame (Ok ResetBody)
content_of kinds.Frame n body = do
  f ← frame_of body
  Ok (FrameBody f)

-- what all of the bytes say, or the first fault, where a frame has so many bytes of data at most; how long a message
-- they speak of doesn't matter
unfoldable pub datagram_up_to : (frame : ℕ) → List ℕ → Result DatagramText DatagramRefusal
datagram_up_to frame bytes = do
  kind ← kind_of bytes
  body ← body_of frame kind bytes
  content ← content_of kind (number_at 24 8 bytes) body
  Ok (record { header = header_of bytes; body = content })

-- the same in any job
abbrev pub datagram_of : List ℕ → Result DatagramText DatagramRefusal
datagram_of bytes = datagram_up_to greatest_frame bytes

-- what was read, where it speaks of no longer message or frame than the limit allows, or 30
abbrev pub bounded : (limit : MessageLimit) → Result DatagramText DatagramRefusal → Result DatagramText DatagramRefusal
bounded limit read = do
  d ← read
  guard (body_is_within limit d.body) refusals.BadFrame (Ok d)

-- what all of the bytes say in a job with this limit, or the first fault
unfoldable pub datagram_within : (limit : MessageLimit) → List ℕ → Result DatagramText DatagramRefusal
datagram_within limit bytes = bounded limit (datagram_up_to (frame_limit_of limit) bytes)
