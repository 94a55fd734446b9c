-- What a send is: its rules, its frame, and its message to the own rank (MPI 3.1, 3.4 and 3.7).
use Rattle.std.specs.Prelude.{◌≡◌, ℕ, ◌*◌, ◌≤◌, nat_lt, ◌==◌, length, Option, Some, None, Bool, true, false}
use Rattle.std.specs.Prelude.{if◌then◌else◌}
use Rattle.vocabulary.specs.BasicTypes.{size_of}
use Rattle.vocabulary.specs.Limits.{greatest_limit, highest_tag}
use Rattle.vocabulary.specs.MessageLimits.{frame_limit_of, limit_of}
use Rattle.vocabulary.specs.declared.message_limit.MessageLimit.{MessageLimit}
use Rattle.vocabulary.specs.declared.envelope.Source.{Source}
use Rattle.vocabulary.specs.declared.envelope.Source.TheVariants.{Any, Rank, Null}
use Rattle.datatypes.specs.Contents.{Contents, bytes_of}
use Rattle.datagram.specs.declared.kinds.Plane.TheVariants.{PointToPoint}
use Rattle.datagram.specs.Spellings.{FrameText, EagerFrame, RequestFrame, OutgoingText}
use Rattle.match_queues.specs.declared.envelope.Message.{Message}
use Rattle.match_queues.specs.declared.envelope.Body.{Body}
use Rattle.match_queues.specs.declared.envelope.Body.TheVariants.{Own, Whole}
use Rattle.requests.specs.declared.table.Request.{Request}
use Rattle.vocabulary.specs.declared.mode.Mode.{Mode}
use Rattle.vocabulary.specs.declared.mode.Mode.TheVariants.{Standard, Synchronous}
use Rattle.perfect_queues.specs.Buffers.{differs_in_type, is_too_short}
use Rattle.perfect_queues.specs.Refusals.{is_no_tag, is_no_target}
use Rattle.requests.specs.declared.table.RequestProgress.{RequestProgress}
use Rattle.requests.specs.declared.table.RequestProgress.TheVariants.{Finished, Offering}
use Rattle.requests.specs.declared.outcome.Outcome.TheVariants.{Sent}
use Rattle.requests.specs.Regions.{byte_count, handed_of, sent_from}
use Rattle.incarnation.specs.declared.place.Place.{Place}
use Rattle.point_to_point_calls.specs.declared.call.RoutedSend.{RoutedSend}
use Rattle.point_to_point_calls.specs.declared.call.Send.{Send}
use Rattle.point_to_point_calls.specs.declared.sends.AddressedSend.{AddressedSend}
use Rattle.point_to_point_calls.specs.declared.sends.Destination.{Destination}
use Rattle.point_to_point_calls.specs.declared.refusal.Refusal.{Refusal}
use Rattle.point_to_point_calls.specs.declared.refusal.Refusal.TheVariants as refusals
use Rattle.rendezvous.specs.State.{State, after_begin, is_full_to, next_to}

-- The first rule that a send breaks: buffer and layout differ in basic type; it has more bytes than a message of the job
-- may have, also to the own rank and to the null process; the buffer is too short; the tag is above the highest, or the
-- wildcard; there is no such rank, or it is any rank.
unfoldable pub send_fault : Place → RoutedSend → Option Refusal
send_fault p s =
    if differs_in_type (handed_of s.send.from) then Some refusals.WrongType
    else (if nat_lt (limit_of p.message_limit) (byte_count s.send.from) then Some refusals.Count
    else (if is_too_short (handed_of s.send.from) then Some refusals.Count
    else (if is_no_tag s.send.tag then Some refusals.Tag
    else (if is_no_target p.size s.route.named then Some refusals.Rank
    else None))))

-- a fault, or else the limit of transfers, where the send needs one
abbrev pub or_worn_out : Option Refusal → Option ℕ → State → Option Refusal
or_worn_out (Some fault) rank t = Some fault
or_worn_out None None t = None
or_worn_out None (Some rank) t = if is_full_to t.numbers rank then Some refusals.Limit else None

-- WHERE IT GOES

-- The rank that a send goes to, with its tag and context. To the null process nothing goes (3.11); a wildcard is
-- refused, and goes nowhere.
abbrev pub destination : Source → Option ℕ → (context : ℕ) → Option Destination
destination (Rank to) (Some tag) context = Some (record { rank = to; tag = tag; context = context })
destination (Rank to) None context = None
destination Any tag context = None
destination Null tag context = None

-- whether it is the own rank: then the message goes into its own queues without a frame (3.2.4)
abbrev pub is_own : Place → Option Destination → Bool
is_own p None = false
is_own p (Some d) = d.rank == p.endpoint.rank

-- the same of a send
abbrev pub is_to_itself : Place → RoutedSend → Bool
is_to_itself p s = is_own p (destination s.route.named s.send.tag s.route.context)

-- THE FRAME

-- what may be sent
pub record IsSendable (tag : ℕ) (c : Contents) : Type 0 where
  pub count : length (bytes_of (size_of c.basic) c.values) ≤ greatest_limit
  pub tag_is : tag ≤ highest_tag

-- whether elements don't go in one frame of a job with this limit
abbrev pub is_large : MessageLimit → Contents → Bool
is_large limit c = nat_lt (frame_limit_of limit) (length c.values * size_of c.basic)

-- whether their message is announced: that of a synchronous send is, whatever it has (3.4)
abbrev pub is_announced : MessageLimit → Mode → Contents → Bool
is_announced limit Standard c = is_large limit c
is_announced limit Synchronous c = true

-- the frame of these elements in this context and under this tag
abbrev pub eager_frame : (context tag : ℕ) → Contents → FrameText
eager_frame context tag c = EagerFrame (record {
  plane = PointToPoint;
  basic = c.basic;
  tag = tag;
  context = context;
  count = length c.values;
  elements = bytes_of (size_of c.basic) c.values;
})

-- the frame that announces these elements in this context and under this tag as the transfer with this number
abbrev pub request_frame : Mode → (transfer context tag : ℕ) → Contents → FrameText
request_frame mode transfer context tag c = RequestFrame (record {
  mode = mode;
  plane = PointToPoint;
  basic = c.basic;
  tag = tag;
  context = context;
  count = length c.values;
  transfer = transfer;
})

-- the frame of these elements: they go in it, or it announces them as the next transfer to their rank
abbrev pub frame_with : MessageLimit → State → Mode → Destination → Contents → FrameText
frame_with limit t mode d c =
    if is_announced limit mode c then request_frame mode (next_to t.numbers d.rank) d.context d.tag c else
    eager_frame d.context d.tag c

-- the frame that goes to another rank
abbrev pub frame_unless : Bool → MessageLimit → State → Mode → Destination → Contents → Option OutgoingText
frame_unless true limit t mode d c = None
frame_unless false limit t mode d c = Some (record { target = d.rank; frame = frame_with limit t mode d c })

-- the frame with which these elements go to their destination, where it is another rank
abbrev pub frame_to : Place → State → Mode → Option Destination → Contents → Option OutgoingText
frame_to p t mode None c = None
frame_to p t mode (Some d) c = frame_unless (d.rank == p.endpoint.rank) p.message_limit t mode d c

-- the rank of a destination, where it is another one
abbrev pub rank_unless : Bool → Destination → Option ℕ
rank_unless true d = None
rank_unless false d = Some d.rank

-- to which other rank the frame of a send goes
abbrev pub rank_to : Place → Option Destination → Option ℕ
rank_to p None = None
rank_to p (Some d) = rank_unless (d.rank == p.endpoint.rank) d

-- to which other rank the message of a send is announced, if it is: that of a synchronous send, or one that doesn't go
-- in one frame
abbrev pub announced_to : Place → RoutedSend → Option ℕ
announced_to p s =
    if is_announced p.message_limit s.send.mode (sent_from s.send.from)
    then rank_to p (destination s.route.named s.send.tag s.route.context) else None

-- so it is of a send to this destination
abbrev pub announced_by : Place → Send → Option Destination → Option ℕ
announced_by p s d = if is_announced p.message_limit s.mode (sent_from s.from) then rank_to p d else None

-- where its message goes, and to whom it is announced, is decided
pub record IsAddressed (p : Place) (s : AddressedSend) : Type 0 where
  pub destination_is :
      s.destination ≡ destination s.routed.route.named s.routed.send.tag s.routed.route.context
  pub announced_is : s.announced ≡ announced_to p s.routed

-- THE MESSAGE TO THE OWN RANK

-- the body of a message to the own rank: it names the send that waits for its match, if one does
abbrev pub own_body : Option Request → Contents → Body
own_body None c = Whole c
own_body (Some q) c = Own (record { key = q.key; serial = q.serial; elements = c })

-- the message of these elements to the own rank, in this context and under this tag
abbrev pub own_message : Place → (context tag : ℕ) → (waiting : Option Request) → Contents → Message
own_message p context tag waiting c =
    record { sender = p.endpoint; context = context; tag = tag; body = own_body waiting c }

-- how far a send is in its own call: one whose message is announced waits for its receiver's answer
abbrev pub progress_of_send : Option ℕ → RequestProgress
progress_of_send None = Finished Sent
progress_of_send (Some rank) = Offering

-- the transfers once it is announced, if it is
abbrev pub offered_by : State → Option ℕ → (request : ℕ) → Contents → State
offered_by t None key c = t
offered_by t (Some rank) key c = after_begin t rank key c
