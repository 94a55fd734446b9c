-- The frames that an event sends: that of a call, and those of a step of a collective.
use Rattle.std.specs.Prelude.{◌<◌, ◌^◌, ℕ, zero, suc, ◌==◌, ◌&&◌, ◌||◌, not, Bool, true, List, [], ◌∷◌, ◌++◌, filter}
use Rattle.std.specs.Prelude.{length, Option, Some, None, if◌then◌else◌, nat_le, nat_lt}
use Rattle.std.specs.List.{AllByRecursion}
use Rattle.collective_messages.specs.Messages.{IsWithinType, says}
use Rattle.collective_messages.specs.declared.message.CollectiveMessage.{CollectiveMessage}
use Rattle.rendezvous.specs.Payloads.{Announced}
use Rattle.datagram.specs.Spellings.{EagerFrame, FrameText, RequestFrame, OutgoingText}
use Rattle.datagram.specs.declared.kinds.Plane.TheVariants.{Collective}
use Rattle.incarnation.specs.declared.place.Place.{Place}
use Rattle.payload.specs.Spellings.{PayloadFits, spelling}
use Rattle.point_to_point_calls.specs.declared.refusal.Refusal.{Refusal}
use Rattle.point_to_point_calls.specs.declared.refusal.Refusal.TheVariants as refusals
use Rattle.rendezvous.specs.PayloadNumbers.{with_lesson}
use Rattle.rendezvous.specs.State.{is_full_to, next_to, with_begun}
use Rattle.rendezvous.specs.declared.transfers.Numbers.{Numbers}
use Rattle.sessions.specs.Events.{after_event, event_limit}
use Rattle.sessions.specs.HeardBytes.{HeardText}
use Rattle.sessions.specs.SessionsState.{SessionsState}
use Rattle.vocabulary.specs.declared.mode.Mode.TheVariants.{Standard}
use Rattle.vocabulary.specs.declared.basic_type.BasicType.TheVariants.{Byte}
use Rattle.vocabulary.specs.Limits.{greatest_limit, highest_tag}
use Rattle.vocabulary.specs.MessageLimits.{frame_limit_of}
use Rattle.vocabulary.specs.declared.message_limit.MessageLimit.{MessageLimit}
use Rattle.engine_calls.specs.Refusals.{fault_of_sessions}

-- THE FRAME OF A CALL

-- the sessions once the frame, if the call has one, is on its way
abbrev pub after_frame : SessionsState → Option OutgoingText → SessionsState
after_frame s None = s
after_frame s (Some f) = after_event s None (f ∷ [])

-- the limit that the frame meets
abbrev pub frame_limit : SessionsState → Option OutgoingText → Option Refusal
frame_limit s None = None
frame_limit s (Some f) = fault_of_sessions (event_limit s None (f ∷ []))

-- THE FRAMES OF A COLLECTIVE

-- the rank that is known at a new incarnation by what is heard, if there is one
abbrev pub lesson_in : Option HeardText → Option ℕ
lesson_in None = None
lesson_in (Some h) = if h.lesson then Some h.source.rank else None

-- the numbers of the sessions' transfers then: with a lesson those of its session start anew
abbrev pub numbers_heard : List Numbers → Option HeardText → List Numbers
numbers_heard ns heard = with_lesson (lesson_in heard) ns

-- whether a payload is too long for a frame of a job with this limit: it is announced, and goes in pieces (our own)
abbrev pub is_large : MessageLimit → CollectiveMessage → Bool
is_large limit m = nat_lt (frame_limit_of limit) (length (spelling (says m)))

-- under which number a message is announced, where these are the numbers of the sessions' transfers: the next one to
-- its rank
abbrev pub transfer_of : MessageLimit → List Numbers → CollectiveMessage → Option ℕ
transfer_of limit ns m = if is_large limit m then Some (next_to ns m.target.rank) else None

-- the numbers once the message is on its way
abbrev pub numbers_after : MessageLimit → List Numbers → CollectiveMessage → List Numbers
numbers_after limit ns m = if is_large limit m then with_begun ns m.target.rank else ns

-- the frame of a payload: its bytes, or the announcement of so many under the number of a transfer; in the context of
-- its communicator and under the number of its collective (the form is our own)
abbrev pub payload_frame : (transfer : Option ℕ) → (context number : ℕ) → List ℕ → FrameText
payload_frame None context number bytes = EagerFrame (record {
  plane = Collective;
  basic = Byte;
  tag = number;
  context = context;
  count = length bytes;
  elements = bytes;
})
payload_frame (Some transfer) context number bytes = RequestFrame (record {
  mode = Standard;
  plane = Collective;
  basic = Byte;
  tag = number;
  context = context;
  count = length bytes;
  transfer = transfer;
})

-- a message of a collective, as the sessions are to send it: a frame of bytes, which spell its payload, or their
-- announcement
abbrev pub sending_of_message : MessageLimit → List Numbers → CollectiveMessage → OutgoingText
sending_of_message limit ns m = record {
  target = m.target.rank;
  frame = payload_frame (transfer_of limit ns m) m.context m.number (spelling (says m));
}

-- those of a list, one after the other: each announcement counts
abbrev pub messages_sent : MessageLimit → List Numbers → List CollectiveMessage → List OutgoingText
messages_sent limit ns [] = []
messages_sent limit ns (m ∷ ms) = sending_of_message limit ns m ∷ messages_sent limit (numbers_after limit ns m) ms

-- the numbers once all are on their way
abbrev pub step_numbers : MessageLimit → List Numbers → List CollectiveMessage → List Numbers
step_numbers limit ns [] = ns
step_numbers limit ns (m ∷ ms) = step_numbers limit (numbers_after limit ns m) ms

-- what is kept of a payload until it is asked for: all of it, where it was announced
abbrev pub payload_kept : (transfer : Option ℕ) → (rank : ℕ) → List ℕ → List Announced
payload_kept None rank bytes = []
payload_kept (Some transfer) rank bytes = (record { target = rank; transfer = transfer; bytes = bytes }) ∷ []

-- the payloads that a step announces
abbrev pub step_payloads : MessageLimit → List Numbers → List CollectiveMessage → List Announced
step_payloads limit ns [] = []
step_payloads limit ns (m ∷ ms) = payload_kept (transfer_of limit ns m) m.target.rank (spelling (says m)) ++
    step_payloads limit (numbers_after limit ns m) ms

-- frames in the order of the ranks that they go to, of so many ranks; those for one rank stay in their order
abbrev pub by_rank : (ranks : ℕ) → List OutgoingText → List OutgoingText
by_rank zero fs = []
by_rank (suc k) fs = by_rank k fs ++ filter (λ (f : OutgoingText). f.target == k) fs

-- what a step of a collective sends
abbrev pub step_sendings : Place → List Numbers → List CollectiveMessage → List OutgoingText
step_sendings p ns ms = by_rank p.size (messages_sent p.message_limit ns ms)

-- whether so many bytes can go to a rank: in a frame; or, as many as any message may have, under a number that is left
-- for a transfer
abbrev pub is_sendable : MessageLimit → List Numbers → (rank : ℕ) → (count : ℕ) → Bool
is_sendable limit ns rank count = nat_le count (frame_limit_of limit) ||
    (nat_le count greatest_limit && not (is_full_to ns rank))

-- whether a message can go: to a rank of the job, under a number that a tag can be, as so many bytes. Each can that a
-- collective among at most 1,024 ranks brings, since a block and the 16 bytes of its record have at most as many bytes
-- as a message of the job, as long as a number is left
abbrev pub can_go : Place → List Numbers → CollectiveMessage → Bool
can_go p ns m = nat_lt m.target.rank p.size &&
    (nat_le m.number highest_tag && is_sendable p.message_limit ns m.target.rank (length (spelling (says m))))

-- whether each can, one after the other
abbrev pub all_can_go : Place → List Numbers → List CollectiveMessage → Bool
all_can_go p ns [] = true
all_can_go p ns (m ∷ ms) = can_go p ns m && all_can_go p (numbers_after p.message_limit ns m) ms

-- the limit that a step meets by what it sends, where these are the numbers of the sessions' transfers
abbrev pub step_limit : SessionsState → List Numbers → Option HeardText → List CollectiveMessage → Option Refusal
step_limit s ns heard ms =
    if all_can_go s.place ns ms then fault_of_sessions (event_limit s heard (step_sendings s.place ns ms)) else
    Some refusals.Limit

-- a message can be read as it was written, each element that it carries is within its type, and its context has 64 bits
pub record IsWhole (m : CollectiveMessage) : Type 0 where
  pub fits : PayloadFits (says m)
  pub within : IsWithinType m.given
  pub context : m.context < 2 ^ 64

-- each does
abbrev pub AreWhole : List CollectiveMessage → Type 0
AreWhole ms = AllByRecursion IsWhole ms
