-- What is heard from another rank, and what it calls for.
use Rattle.std.specs.Prelude.{ℕ, ◌<◌, ◌||◌, Bool, true, false, List, [], map, Option, Some, None, is_some}
use Rattle.vocabulary.specs.declared.endpoint.Endpoint.{Endpoint}
use Rattle.vocabulary.specs.BasicTypes.{size_of}
use Rattle.vocabulary.specs.MessageLimits.{frame_limit_of}
use Rattle.vocabulary.specs.declared.message_limit.MessageLimit.{MessageLimit}
use Rattle.datatypes.specs.Contents.{bytes_of, values_of}
use Rattle.datagram.specs.declared.kinds.Clearance.{Clearance}
use Rattle.datagram.specs.declared.kinds.Clearance.TheVariants.{Send, Drop}
use Rattle.datagram.specs.declared.kinds.Plane.{Plane}
use Rattle.datagram.specs.declared.kinds.Plane.TheVariants.{PointToPoint, Collective}
use Rattle.datagram.specs.declared.frame.Frame.{Frame}
use Rattle.datagram.specs.declared.frame.Frame.TheVariants as frames
use Rattle.datagram.specs.Spellings.{EagerText, RequestText, FrameText, EagerFrame, RequestFrame, ClearFrame, DataFrame}
use Rattle.datagram.specs.Spellings.{OutgoingText}
use Rattle.datagram.specs.Spellings.{frame_text, FrameFits}
use Rattle.match_queues.specs.declared.envelope.Message.{Message}
use Rattle.match_queues.specs.declared.envelope.Body.{Body}
use Rattle.match_queues.specs.declared.envelope.Body.TheVariants.{Whole, Own, Announced}
use Rattle.match_queues.specs.Bodies.{basic_of, count_of}
use Rattle.match_queues.specs.declared.envelope.PostedReceive.{PostedReceive}
use Rattle.rendezvous.specs.declared.collection.Collected.{Collected}
use Rattle.rendezvous.specs.declared.offer.Offer.{Offer}
use Rattle.rendezvous.specs.declared.piece.Piece.{Piece}
use Rattle.rendezvous.specs.Collections.{Collecting}
use Rattle.rendezvous.specs.Pieces.{pieces_of}
use Rattle.rendezvous.specs.State as transfers
use Rattle.rendezvous.specs.State.{after_drop, is_due, is_next, offered}
use Rattle.requests.specs.declared.table.TableEntry.{TableEntry}
use Rattle.requests.specs.Table.{after_answer, after_delivery, slot_at, wants_by}
use Rattle.point_to_point_calls.specs.ReceiveMatches.{answer_by, collection_on_match}
use Rattle.point_to_point_calls.specs.declared.news.News.{News}
use Rattle.point_to_point_calls.specs.declared.news.Match.{Match}
use Rattle.datagram.specs.declared.frame.Outgoing.{Outgoing}
use Rattle.point_to_point_calls.specs.declared.refusal.Refusal.{Refusal}
use Rattle.point_to_point_calls.specs.declared.refusal.Refusal.TheVariants as refusals

-- WHAT WAS HEARD

-- who spoke, whether its incarnation is new here, and the frame that it sent, if it sent one
pub record NewsText : Type 0 where
  pub source : Endpoint
  pub lesson : Bool
  pub frame : Option FrameText

-- what a frame says, where there is one
abbrev pub frame_option : Option Frame → Option FrameText
frame_option None = None
frame_option (Some f) = Some (frame_text f)

-- what a value of the program says
abbrev pub news_text : News → NewsText
news_text n = record { source = n.source; lesson = n.lesson; frame = frame_option n.frame }

-- the rules of the format hold of the frame
abbrev pub HeardFits : Option FrameText → Type 0
HeardFits None = Unit {0}
HeardFits (Some f) = FrameFits f

-- THE RULE

-- no message of a collective operation is the core's: whoever holds collectives takes those in before
abbrev pub plane_fault : Plane → Option Refusal
plane_fault Collective = Some refusals.BadFrame
plane_fault PointToPoint = None

-- the first of two rules
abbrev pub first_of : Option Refusal → Option Refusal → Option Refusal
first_of (Some e) other = Some e
first_of None other = other

-- a bad frame, unless the test holds
abbrev pub bad_unless : Bool → Option Refusal
bad_unless true = None
bad_unless false = Some refusals.BadFrame

-- The rule by which a frame of a rank isn't taken: it is of a collective operation; it announces another transfer than
-- the next; it answers one that isn't offered; it has data of one that isn't collected, or other data than are due.
abbrev pub frame_fault : transfers.State → (rank : ℕ) → FrameText → Option Refusal
frame_fault t rank (EagerFrame f) = plane_fault f.plane
frame_fault t rank (RequestFrame f) = first_of (plane_fault f.plane) (bad_unless (is_next t.numbers rank f.transfer))
frame_fault t rank (ClearFrame f) = bad_unless (is_some (offered t rank f.transfer))
frame_fault t rank (DataFrame f) = bad_unless (is_due t.collections rank f.transfer f.offset f.bytes)

-- and of the frame that was sent, if one was
abbrev pub heard_fault : transfers.State → (rank : ℕ) → Option FrameText → Option Refusal
heard_fault t rank None = None
heard_fault t rank (Some f) = frame_fault t rank f

-- the transfers that a frame meets: with a lesson its session starts anew
abbrev pub transfers_met : Bool → transfers.State → (rank : ℕ) → transfers.State
transfers_met true t rank = after_drop t rank
transfers_met false t rank = t

-- WHAT BECOMES OF IT

-- the message of an eager frame, whose bytes are read as elements of its type
unfoldable pub message_of : Endpoint → EagerText → Message
message_of s t = record {
  sender = s;
  context = t.context;
  tag = t.tag;
  body = Whole (record { basic = t.basic; values = values_of (size_of t.basic) t.elements });
}

-- the message that an RTS announces
unfoldable pub announced_of : Endpoint → RequestText → Message
announced_of s t = record {
  sender = s;
  context = t.context;
  tag = t.tag;
  body = Announced (record { transfer = t.transfer; basic = t.basic; count = t.count });
}

-- its data are there
abbrev pub IsWhole : Body → Type 0
IsWhole (Whole elements) = Unit {0}
IsWhole (Own own) = Unit {0}
IsWhole (Announced a) = ⊥

-- the send of an offer is over, if there was one
abbrev pub sent_by : List (Option TableEntry) → Option Offer → List (Option TableEntry)
sent_by slots None = slots
sent_by slots (Some o) = after_answer slots o.request

-- the receive that waited for the message that is whole now has ended
abbrev pub delivered_by : List (Option TableEntry) → Option Collected → List (Option TableEntry)
delivered_by slots None = slots
delivered_by slots (Some m) = after_delivery slots m.request m.elements

-- WHAT AN ANNOUNCEMENT FINDS

-- the receive that a message finds, and whether it wants the data
abbrev pub match_by : List (Option TableEntry) → Option PostedReceive → Message → Option Match
match_by slots None m = None
match_by slots (Some r) m =
    Some (record { key = r.request; wanted = wants_by (slot_at slots r.request) (basic_of m.body) (count_of m.body) })

-- the answer to an announced message that found this, if it found one
abbrev pub answer_by_match : Option Match → Message → Option OutgoingText
answer_by_match None m = None
answer_by_match (Some f) m = answer_by f.wanted m m.body

-- what is collected once an announced message found this, if it found one, in a job with this limit
abbrev pub collection_by_match : MessageLimit → Option Match → Message → Option Collecting
collection_by_match limit None m = None
collection_by_match limit (Some f) m = collection_on_match limit f.wanted m m.body f.key

-- WHAT IT GIVES TO OTHERS

-- a frame that keeps the rules of the format, for a rank of the job
pub record CanGo (size : ℕ) (f : OutgoingText) : Type 0 where
  pub fits : FrameFits f.frame
  pub there : f.target < size

-- the frame of a piece of a transfer's data
abbrev pub data_frame : (rank transfer : ℕ) → ℕ × List ℕ → OutgoingText
data_frame rank transfer p = record {
  target = rank;
  frame = DataFrame (record { transfer = transfer; offset = p.0; bytes = p.1 });
}

-- a piece as it is lent, as such a frame
abbrev pub framed : (rank transfer : ℕ) → Piece → Outgoing
framed rank transfer p = record {
  target = rank;
  frame = frames.Data (record { transfer = transfer; offset = p.offset; bytes = p.bytes });
}

-- the frames of the pieces of a transfer's data
abbrev pub data_frames : (rank transfer : ℕ) → List (ℕ × List ℕ) → List OutgoingText
data_frames rank transfer ps = map (data_frame rank transfer) ps

-- the data of an offer, once its receiver wants them, in a job with this limit
abbrev pub wanted_frames : MessageLimit → (rank : ℕ) → Clearance → Option Offer → List OutgoingText
wanted_frames limit rank Drop offer = []
wanted_frames limit rank Send None = []
wanted_frames limit rank Send (Some o) =
    data_frames rank o.transfer
    (pieces_of (frame_limit_of limit) (bytes_of (size_of o.elements.basic) o.elements.values))

-- whether an answer asks for the data of an offer: it wants them, and they are offered
abbrev pub asks_for_data : Clearance → Option Offer → Bool
asks_for_data Drop offer = false
asks_for_data Send offer = is_some offer

-- WHAT IS MADE READY FOR IT

-- the message that a frame brings with it
abbrev pub message_in : Endpoint → FrameText → Option Message
message_in s (EagerFrame t) = Some (message_of s t)
message_in s (RequestFrame t) = None
message_in s (ClearFrame t) = None
message_in s (DataFrame t) = None

-- the same of the frame that came, if one did
abbrev pub message_from : Endpoint → Option FrameText → Option Message
message_from s None = None
message_from s (Some f) = message_in s f

-- whether a message comes to stand in the queues by this frame: it brings one, or announces one
abbrev pub frame_needs_message_room : FrameText → Bool
frame_needs_message_room (EagerFrame t) = true
frame_needs_message_room (RequestFrame t) = true
frame_needs_message_room (ClearFrame t) = false
frame_needs_message_room (DataFrame t) = false

-- the same of the frame that came, if one did
abbrev pub needs_message_room : Option FrameText → Bool
needs_message_room None = false
needs_message_room (Some f) = frame_needs_message_room f

-- Whether news take memory: with a lesson the keys of what ends are listed, and a message that comes or is announced
-- takes room. An answer and data without a lesson take none.
abbrev pub news_need_memory : NewsText → Bool
news_need_memory n = n.lesson || needs_message_room n.frame
