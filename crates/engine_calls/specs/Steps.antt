-- A step of a collective on its way: its messages written out, and why it is stopped; and an engine of its parts.
use Rattle.std.specs.Prelude.{◌≡◌, ◌++◌, ℕ, Bool, true, List, [], ◌∷◌, Option, Some, None, if◌then◌else◌}
use Rattle.collective_messages.specs.Messages.{says}
use Rattle.collective_messages.specs.declared.message.CollectiveMessage.{CollectiveMessage}
use Rattle.collectives.specs.Calls.{lesson_ending}
use Rattle.collectives.specs.State.{State}
use Rattle.rendezvous.specs.Payloads.{Announced}
use Rattle.rendezvous.specs.PayloadState as payloads
use Rattle.communicators.specs.Members.{Held}
use Rattle.collective_steps.specs.declared.step.Ending.{Ending}
use Rattle.context_agreement.specs.Communicators.{ContextsState}
use Rattle.datagram.specs.Spellings.{EagerFrame, FrameText, RequestFrame, OutgoingText}
use Rattle.datagram.specs.declared.kinds.Plane.TheVariants.{Collective}
use Rattle.incarnation.specs.declared.place.Place.{Place}
use Rattle.payload.specs.Spellings.{spelling}
use Rattle.point_to_point_calls.specs.declared.refusal.Refusal.{Refusal}
use Rattle.point_to_point_calls.specs.declared.refusal.Refusal.TheVariants as refusals
use Rattle.point_to_point.specs.CoreState as cores
use Rattle.rendezvous.specs.declared.transfers.Numbers.{Numbers}
use Rattle.sessions.specs.SessionsState.{SessionsState}
use Rattle.vocabulary.specs.declared.mode.Mode.TheVariants.{Standard}
use Rattle.vocabulary.specs.declared.basic_type.BasicType.TheVariants.{Byte}
use Rattle.vocabulary.specs.declared.endpoint.Endpoint.{Endpoint}
use Rattle.engine_calls.specs.Asks.{engine_of, groups_of}
use Rattle.engine_calls.specs.EngineState.{EngineState}
use Rattle.engine_calls.specs.Frames.{AreWhole, IsWhole, all_can_go, can_go, messages_sent, numbers_after, payload_kept}
use Rattle.engine_calls.specs.Frames.{sending_of_message, step_numbers, step_payloads, transfer_of}
use Rattle.engine_calls.specs.declared.frames.FrameContent.{FrameContent}
use Rattle.engine_calls.specs.declared.frames.FrameContent.TheVariants as parts
use Rattle.engine_calls.specs.declared.frames.Written.{Written}

-- the engine of parts as the program holds them
abbrev pub engine_held : cores.Held → Held → Option Ending → payloads.State → SessionsState → EngineState
engine_held c g ended p s = engine_of c.state (groups_of g) (record { ended = ended; payloads = p }) s

-- the frame of a message that was written out
abbrev pub part_frame : (context number count : ℕ) → FrameContent → FrameText
part_frame context number count (parts.Whole bytes) = EagerFrame (record {
  plane = Collective;
  basic = Byte;
  tag = number;
  context = context;
  count = count;
  elements = bytes.items;
})
part_frame context number count (parts.Announced transfer) = RequestFrame (record {
  mode = Standard;
  plane = Collective;
  basic = Byte;
  tag = number;
  context = context;
  count = count;
  transfer = transfer;
})

-- what is sent of it
abbrev pub written : Written → OutgoingText
written w = record { target = w.target; frame = part_frame w.context w.number w.count w.part }

-- One more message is written out behind others: it can go, its frame stands behind theirs, its payload is kept where
-- it is announced, and it is counted then
pub record IsAdded (p : Place) (ns : List Numbers) (m : CollectiveMessage) (fs gs : List OutgoingText)
    (ps qs : List Announced) (ns2 : List Numbers) : Type 0 where
  pub goes : can_go p ns m ≡ true
  pub frames : gs ≡ fs ++ sending_of_message p.message_limit ns m ∷ []
  pub kept : qs ≡ ps ++ payload_kept (transfer_of p.message_limit ns m) m.target.rank (spelling (says m))
  pub numbers : ns2 ≡ numbers_after p.message_limit ns m
  pub whole : IsWhole m

-- all messages of a step are written out: each can go, these are their frames, these payloads are kept, and they are
-- counted
pub record AreReady (p : Place) (ns : List Numbers) (ms : List CollectiveMessage) (fs : List OutgoingText)
    (ps : List Announced) (ns2 : List Numbers) : Type 0 where
  pub go : all_can_go p ns ms ≡ true
  pub frames : fs ≡ messages_sent p.message_limit ns ms
  pub kept : ps ≡ step_payloads p.message_limit ns ms
  pub numbers : ns2 ≡ step_numbers p.message_limit ns ms
  pub whole : AreWhole ms

-- why a step isn't sent: the limit that it meets, or want of memory
abbrev pub StepStops : (limit : Option Refusal) → Refusal → Type 0
StepStops limit refusals.OutOfMemory = Unit {0}
StepStops limit refusals.Limit = limit ≡ Some refusals.Limit
StepStops limit _ = ⊥

-- why messages aren't written out: by this test they can't go, or for want of memory
abbrev pub IsLeftOut : (go : Bool) → Refusal → Type 0
IsLeftOut go e = StepStops (if go then None else Some refusals.Limit) e

-- with what the present collective ends by a lesson, where there is one and it does
abbrev pub ending_met : State → ContextsState → (lesson : Option Endpoint) → Option Ending
ending_met s h None = None
ending_met s h (Some source) = lesson_ending s h source.rank source.incarnation
