-- The parts of a rank, and what an event makes of them.
use Rattle.std.specs.Prelude.{◌≡◌, List, [], ◌∷◌, Option, Some, Result, Ok, Err}
use Rattle.collective_messages.specs.declared.message.CollectiveMessage.{CollectiveMessage}
use Rattle.collective_steps.specs.declared.step.Ending.{Ending}
use Rattle.rendezvous.specs.Payloads.{Taken, Whole}
use Rattle.rendezvous.specs.PayloadState as payloads
use Rattle.rendezvous.specs.PayloadState.{after_begin, after_return}
use Rattle.datagram.specs.Spellings.{RequestText}
use Rattle.point_to_point.specs.Arrivals.{after_news}
use Rattle.point_to_point.specs.CoreState.{CoreState, with_numbers}
use Rattle.point_to_point_calls.specs.declared.refusal.Refusal.{Refusal}
use Rattle.rendezvous.specs.State.{with_announced}
use Rattle.sessions.specs.Events.{after_event}
use Rattle.sessions.specs.HeardBytes.{HeardText}
use Rattle.sessions.specs.SessionsState.{SessionsState}
use Rattle.engine.specs.Datagrams.{IsNoticed, IsTold, WhyUnnoticed, answer_to, coming_by, lesson_alone, lesson_in}
use Rattle.engine.specs.Datagrams.{numbers_met, payloads_met}
use Rattle.engine.specs.declared.parts.Parts.{Parts}
use Rattle.engine_calls.specs.Asks.{groups_of}
use Rattle.engine_calls.specs.EngineState.{EngineState, GroupsState, or_before}
use Rattle.engine_calls.specs.Frames.{step_limit}
use Rattle.engine_calls.specs.Steps.{StepStops}

-- what the parts hold, whatever room they have for more
pub record PartsState : Type 0 where
  pub core : CoreState
  pub groups : GroupsState
  pub payloads : payloads.State
  pub sessions : SessionsState

abbrev pub state_of : Parts → PartsState
state_of p = record {
  core = p.core.state;
  groups = groups_of p.communicators;
  payloads = p.core.payloads.state;
  sessions = p.sessions;
}

-- the engine whose parts hold this, and which has this ending to hand out
abbrev pub engine_in : PartsState → (ended : Option Ending) → EngineState
engine_in s ended = record {
  core = s.core;
  groups = s.groups;
  ended = ended;
  payloads = s.payloads;
  sessions = s.sessions;
}

-- the engine of these parts
abbrev pub engine_with : Parts → (ended : Option Ending) → EngineState
engine_with p ended = engine_in (state_of p) ended

-- the engine of a core, payloads and sessions alone, whatever it holds besides
abbrev pub engine_by : CoreState → payloads.State → SessionsState → GroupsState → (ended : Option Ending) → EngineState
engine_by c p s g ended = record { core = c; groups = g; ended = ended; payloads = p; sessions = s }

-- An event of the engine, told of its parts: whatever ending the engine has to hand out, so they take the event in, and
-- with what a collective ends by it comes before that; or so they refuse it
abbrev pub PartsGive : (EngineState → Result (Unit {0}) Refusal → EngineState → Type 0) → (old : Parts) →
    Result (Option Ending) Refusal → (new : Parts) → Type 0
PartsGive gives old (Ok ending) new =
    (before : Option Ending) → gives (engine_with old before) (Ok tt) (engine_with new (or_before ending before))
PartsGive gives old (Err e) new =
    (before : Option Ending) → gives (engine_with old before) (Err e) (engine_with new before)

-- ---- messages of collectives

-- what is heard is taken in without its frame, and the others are told by these messages; or a limit or want of memory
-- stops it
abbrev pub TellingGives : (old : Parts) → HeardText → List CollectiveMessage → Result (Unit {0}) Refusal →
    (new : Parts) → Type 0
TellingGives old h ms (Ok x) new =
    IsTold old.core.state old.core.payloads.state old.sessions h ms new.core.state new.core.payloads.state new.sessions
TellingGives old h ms (Err e) new =
    StepStops (step_limit old.sessions (numbers_met old.core.state h) (Some h) ms) e

-- a message of a collective, which stands in a frame or came in pieces, is taken in; or it is refused, and nothing
-- changes
abbrev pub MessageGives : HeardText → Whole → EngineState → Result (Unit {0}) Refusal → EngineState → Type 0
MessageGives h w old (Ok x) new = IsNoticed old (payloads_met old.payloads (lesson_in h)) h w new
MessageGives h w old (Err e) new = WhyUnnoticed old h w e × (new ≡ old)

-- the message of a payload that was taken out with its last piece is taken in; or it is refused, and its payload is put
-- back
abbrev pub LastPieceGives : HeardText → Taken → EngineState → Result (Unit {0}) Refusal → EngineState → Type 0
LastPieceGives h t old (Ok x) new = IsNoticed old (payloads_met old.payloads (lesson_in h)) h t.whole new
LastPieceGives h t old (Err e) new =
    WhyUnnoticed old h t.whole e × (new ≡ record old { payloads = after_return old.payloads t })

-- ---- announcements

-- the announcement of a payload is counted, the answer to it is sent, and the payload begins to come
abbrev pub IsCounted : (old : Parts) → HeardText → RequestText → (new : Parts) → Type 0
IsCounted old h t new =
    (new.core.state ≡
    with_numbers (after_news old.core.state (lesson_alone h))
    (with_announced (numbers_met old.core.state h) h.source.rank))
    × (new.core.payloads.state ≡
    after_begin (payloads_met old.core.payloads.state (lesson_in h)) (coming_by old.core.state.place.message_limit h t))
    × (new.sessions ≡ after_event old.sessions (Some h) (answer_to h t ∷ []))
