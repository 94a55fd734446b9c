-- What is heard from another rank does to the core.
use Rattle.std.specs.Prelude.{◌≡◌, ℕ, ◌<◌, ◌++◌, Bool, true, false, List, [], Option, Some, None, is_some}
use Rattle.std.specs.Global.{Vec}
use Rattle.vocabulary.specs.declared.endpoint.Endpoint.{Endpoint}
use Rattle.datagram.specs.Spellings.{RequestText, FrameText, EagerFrame, RequestFrame, ClearFrame, DataFrame}
use Rattle.datagram.specs.Spellings.{OutgoingText}
use Rattle.match_queues.specs.declared.envelope.Message.{Message}
use Rattle.match_queues.specs.Arrivals.{arrival_of}
use Rattle.match_queues.specs.State as queues
use Rattle.match_queues.specs.State.{keys_naming, receive_at, receive_for}
use Rattle.rendezvous.specs.Collections.{Collecting}
use Rattle.rendezvous.specs.PayloadState as payloads
use Rattle.rendezvous.specs.State.{after_cts, after_data, after_drop, after_rts, given, keys_with, offered}
use Rattle.requests.specs.Table.{after_replaces, keys_of_messages}
use Rattle.point_to_point_calls.specs.Frames.{as_list}
use Rattle.point_to_point_calls.specs.ReceiveMatches.{answer_on_arrival, collection_on_arrival}
use Rattle.point_to_point_calls.specs.declared.news.PreparedNews.{PreparedNews}
use Rattle.point_to_point_calls.specs.declared.news.Match.{Match}
use Rattle.point_to_point_calls.specs.declared.refusal.Refusal.{Refusal}
use Rattle.point_to_point.specs.CoreState.{CoreState, Held}
use Rattle.point_to_point.specs.Sends.{after_message}
use Rattle.point_to_point_calls.specs.FrameNews.{
  NewsText,
  heard_fault,
  transfers_met,
  message_of,
  announced_of,
  sent_by,
}
use Rattle.point_to_point_calls.specs.FrameNews.{delivered_by, match_by, asks_for_data, wanted_frames, message_from}
use Rattle.point_to_point_calls.specs.FrameNews.{needs_message_room}

-- THE RULE

-- the rule that news break
abbrev pub news_fault : CoreState → NewsText → Option Refusal
news_fault c n = heard_fault (transfers_met n.lesson c.transfers n.source.rank) n.source.rank n.frame

-- WHAT BECOMES OF IT

-- the keys of what ends when a rank was started anew: receives that name it, sends that offer to it, receives that
-- collect from it, and messages that its former incarnations sent and that were taken out
abbrev pub keys_ending : CoreState → Endpoint → List ℕ
keys_ending c s = keys_naming s.rank c.queues.posted ++
    (keys_with c.transfers s.rank ++ keys_of_messages s.rank s.incarnation c.slots)

-- The rank was started anew: those requests end, their buffers as they were; messages from its former incarnations that
-- were not received are dropped, and nothing of a message of which some data came is left (MPI 3.1 has no restarts;
-- this is our own)
abbrev pub replaced : CoreState → Endpoint → CoreState
replaced c s = record c {
  slots = after_replaces c.slots (keys_ending c s);
  queues = queues.after_drop c.queues s.rank s.incarnation;
  transfers = after_drop c.transfers s.rank;
}

-- what is left of the payloads of collectives: with a lesson of a rank nothing that was announced to it or comes from it
abbrev pub payloads_met : (lesson : Bool) → payloads.State → (rank : ℕ) → payloads.State
payloads_met true p rank = payloads.after_drop p rank
payloads_met false p rank = p

-- so it is where the incarnation is new here
abbrev pub after_lesson : Bool → CoreState → Endpoint → CoreState
after_lesson false c s = c
after_lesson true c s = replaced c s

-- an offer is answered: it is offered no more, and its send is over (3.4)
abbrev pub after_answer : CoreState → (rank transfer : ℕ) → CoreState
after_answer c rank transfer = record c {
  slots = sent_by c.slots (offered c.transfers rank transfer);
  transfers = after_cts c.transfers rank transfer;
}

-- the next data of a transfer have come
abbrev pub after_piece : CoreState → (rank transfer : ℕ) → List ℕ → CoreState
after_piece c rank transfer bytes = record c {
  slots = delivered_by c.slots (given c.transfers rank transfer bytes);
  transfers = after_data c.transfers rank transfer bytes;
}

-- an announcement has come: its transfer is counted, and its message stands in the queues like any other
abbrev pub after_announcement : CoreState → Endpoint → RequestText → CoreState
after_announcement c s t = after_message (record c { transfers = after_rts c.transfers s.rank }) (announced_of s t)

-- what a frame of an endpoint makes of the core
abbrev pub after_frame : CoreState → Endpoint → FrameText → CoreState
after_frame c s (EagerFrame t) = after_message c (message_of s t)
after_frame c s (RequestFrame t) = after_announcement c s t
after_frame c s (ClearFrame t) = after_answer c s.rank t.transfer
after_frame c s (DataFrame t) = after_piece c s.rank t.transfer t.bytes

-- the same of the frame that came, if one did
abbrev pub after_any : CoreState → Endpoint → Option FrameText → CoreState
after_any c s None = c
after_any c s (Some f) = after_frame c s f

-- first the lesson, then the frame; a blocked call is answered once the event is over
abbrev pub after_hearing : Bool → Option FrameText → CoreState → Endpoint → CoreState
after_hearing lesson frame c s = after_any (after_lesson lesson c s) s frame

-- what news make of the core
abbrev pub after_news : CoreState → NewsText → CoreState
after_news c n = after_hearing n.lesson n.frame c n.source

-- WHAT AN ANNOUNCEMENT FINDS

-- the receive that a message finds in a core, and whether it wants the data
abbrev pub match_of : CoreState → Message → Option Match
match_of c m = match_by c.slots (receive_at c.queues.posted (receive_for m c.queues.posted)) m

-- WHAT IT GIVES TO OTHERS

-- the answer to an announcement, if a receive finds it
abbrev pub answer_to_announced : CoreState → Endpoint → RequestText → Option OutgoingText
answer_to_announced c s t = answer_on_arrival c.slots (arrival_of c.queues (announced_of s t))

-- the frames that a frame of an endpoint calls for: the answer to an announcement that is matched, and the data of an
-- offer that are wanted
abbrev pub frame_calls_for : CoreState → Endpoint → FrameText → List OutgoingText
frame_calls_for c s (EagerFrame t) = []
frame_calls_for c s (RequestFrame t) = as_list (answer_to_announced c s t)
frame_calls_for c s (ClearFrame t) =
    wanted_frames c.place.message_limit s.rank t.clearance (offered c.transfers s.rank t.transfer)
frame_calls_for c s (DataFrame t) = []

-- the same of the frame that came, if one did
abbrev pub called_for : CoreState → Endpoint → Option FrameText → List OutgoingText
called_for c s None = []
called_for c s (Some f) = frame_calls_for c s f

-- whether frames answer a frame of an endpoint: it announces a message that is matched, or asks for the data of an
-- offer
abbrev pub frame_is_answered : CoreState → Endpoint → FrameText → Bool
frame_is_answered c s (EagerFrame t) = false
frame_is_answered c s (RequestFrame t) = is_some (answer_to_announced c s t)
frame_is_answered c s (ClearFrame t) = asks_for_data t.clearance (offered c.transfers s.rank t.transfer)
frame_is_answered c s (DataFrame t) = false

-- the same of the frame that came, if one did
abbrev pub any_is_answered : CoreState → Endpoint → Option FrameText → Bool
any_is_answered c s None = false
any_is_answered c s (Some f) = frame_is_answered c s f

-- whether frames answer news, once the lesson is learnt
abbrev pub news_are_answered : CoreState → NewsText → Bool
news_are_answered c n = any_is_answered (after_lesson n.lesson c n.source) n.source n.frame

-- the frames that news call for, once the lesson is learnt
abbrev pub news_frames : CoreState → NewsText → List OutgoingText
news_frames c n = called_for (after_lesson n.lesson c n.source) n.source n.frame

-- WHAT IS MADE READY FOR IT

-- the keys of the requests that end, where the incarnation of the rank is new here
abbrev pub KeysFit : Bool → Option (Vec ℕ) → CoreState → Endpoint → Type 0
KeysFit false keys c s = keys ≡ None
KeysFit true None c s = ⊥
KeysFit true (Some keys) c s = keys.items ≡ keys_ending c s

-- what is collected of the message that is announced, if a receive finds it and wants its data
abbrev pub collection_for_announced : CoreState → Endpoint → RequestText → Option Collecting
collection_for_announced c s t =
    collection_on_arrival c.place.message_limit c.slots (arrival_of c.queues (announced_of s t))

-- what is collected from then on, by the frame that came, if one did
abbrev pub collection_for : CoreState → Endpoint → Option FrameText → Option Collecting
collection_for c s None = None
collection_for c s (Some (EagerFrame t)) = None
collection_for c s (Some (RequestFrame t)) = collection_for_announced c s t
collection_for c s (Some (ClearFrame t)) = None
collection_for c s (Some (DataFrame t)) = None

-- it can be taken without memory
pub record CanTake (h : Held) (n : NewsText) (r : PreparedNews) : Type 0 where
  pub keys : KeysFit n.lesson r.keys h.state n.source
  pub message : r.message ≡ message_from n.source n.frame
  pub room : needs_message_room n.frame ≡ true → 0 < h.messages
  pub collection : r.collection ≡ collection_for (after_lesson n.lesson h.state n.source) n.source n.frame
  pub place : is_some r.collection ≡ true → 0 < h.collections
