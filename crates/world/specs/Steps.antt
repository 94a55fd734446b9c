-- What an event does to a world: the engine of one rank goes on, what it emits is numbered, and what it answers stands
-- in the history.
use Rattle.std.specs.Prelude.{◌≡◌, ℕ, ◌<◌, ◌⊎◌, false, List, [], ◌∷◌, ◌++◌, length, Option, Some, None, Result, Ok, Err}
use Rattle.std.specs.Prelude.{slice_get, slice_set, ◌==◌, if◌then◌else◌}
use Rattle.vocabulary.specs.declared.endpoint.Endpoint.{Endpoint}
use Rattle.vocabulary.specs.Endpoints.{last_incarnation}
use Rattle.incarnation.specs.declared.place.Place.{Place}
use Rattle.engine_calls.specs.Calls.{CallGives, IsStepLimited, IsTaken, OwnsData}
use Rattle.engine_calls.specs.EngineState.{EngineState, completion_of, emptied, opening}
use Rattle.engine_calls.specs.Faults.{fault_of}
use Rattle.engine_calls.specs.declared.call.Call.{Call}
use Rattle.engine_calls.specs.declared.call.Call.TheVariants as calls
use Rattle.engine_calls.specs.declared.reply.Completion.{Completion}
use Rattle.engine_calls.specs.declared.reply.Reply.{Reply}
use Rattle.engine_calls.specs.declared.reply.Reply.TheVariants as replies
use Rattle.point_to_point_calls.specs.Refusals.{IsRefusal}
use Rattle.point_to_point_calls.specs.declared.refusal.Refusal as lower
use Rattle.point_to_point_calls.specs.declared.refusal.Refusal.TheVariants as lowers
use Rattle.world.specs.declared.event.Event.{Event}
use Rattle.world.specs.declared.event.Event.TheVariants as events
use Rattle.world.specs.declared.event.HistoryEntry.{HistoryEntry}
use Rattle.world.specs.declared.event.Failed.{Failed}
use Rattle.world.specs.declared.event.FailedRun.{FailedRun}
use Rattle.world.specs.declared.event.Stepped.{Stepped}
use Rattle.world.specs.declared.refusal.WorldRefusal.{WorldRefusal}
use Rattle.world.specs.declared.refusal.WorldRefusal.TheVariants as refusals
use Rattle.proof_network_bridge.specs.WorldViews.{limit_in}
use Rattle.proof_network_bridge.specs.EventLaws.{RefusesDatagram, RefusesTick, TakesDatagram, TakesTick, next_place}
use Rattle.world.specs.Faults.{event_fault, first_fault, target_of}
use Rattle.world.specs.Headline.{IsRunOfMachine}
use Rattle.world.specs.Strays.{EngineRefuses, carries_job}
use Rattle.world.specs.WorldState.{HasRoom, WorldState}

-- WHAT AN ENGINE GIVES

-- what the engine of an endpoint gave in an event
pub record Gave : Type 0 where
  pub endpoint : Endpoint
  pub out : List (ℕ × List ℕ)
  pub reply : Option Reply
  pub completion : Option Completion

-- why an engine refused an event, and what it gave all the same: nothing, or a reset
pub record Rejection : Type 0 where
  pub refused : lower.Refusal
  pub out : List (ℕ × List ℕ)

-- what it emitted, whether it took the event or refused it
abbrev pub emitted : Result Gave Rejection → List (ℕ × List ℕ)
emitted (Ok gave) = gave.out
emitted (Err e) = e.out

-- An event took an engine from one state to `mid`, with this reply or none; what it gave was taken out of it
pub record Ran (old : EngineState) (Takes : Option Reply → EngineState → Type 0) (gave : Gave)
    (new : EngineState) : Type 0 where
  pub mid : EngineState
  pub event : Takes gave.reply mid
  pub state : new ≡ emptied mid
  pub endpoint : gave.endpoint ≡ old.sessions.place.endpoint
  pub out : gave.out ≡ mid.sessions.out
  pub completion : gave.completion ≡ completion_of mid

-- a call that is taken has a reply
abbrev pub TakesCall : EngineState → Call → Option Reply → EngineState → Type 0
TakesCall old call None new = ⊥
TakesCall old call (Some reply) new = IsTaken reply × CallGives old call reply new

-- a datagram that is taken has none
abbrev pub TakesBytes : EngineState → List ℕ → Option Reply → EngineState → Type 0
TakesBytes old bytes None new = TakesDatagram old bytes new
TakesBytes old bytes (Some reply) new = ⊥

-- nor has a tick
abbrev pub TakesTime : EngineState → ℕ → Option Reply → EngineState → Type 0
TakesTime old now None new = TakesTick old now new
TakesTime old now (Some reply) new = ⊥

-- a call is taken, or refused with nothing changed
abbrev pub CallRuns : EngineState → Call → Result Gave Rejection → EngineState → Type 0
CallRuns old call (Ok gave) new = Ran old (TakesCall old call) gave new
CallRuns old call (Err e) new =
    (new ≡ old) × (e.out ≡ []) × ((back : Call) × CallGives old call (replies.Refused e.refused back) old)

-- the engine once this was emitted, and nothing else changed
abbrev pub with_out : EngineState → List (ℕ × List ℕ) → EngineState
with_out e out = record e { sessions = record e.sessions { out = e.sessions.out ++ out } }

-- a datagram is taken in; or it is refused, and just what the engine emitted for it goes out: nothing, or one reset
abbrev pub DatagramRuns : EngineState → List ℕ → Result Gave Rejection → EngineState → Type 0
DatagramRuns old bytes (Ok gave) new = Ran old (TakesBytes old bytes) gave new
DatagramRuns old bytes (Err e) new =
    (new ≡ old) × RefusesDatagram old bytes e.refused (with_out old e.out)

-- a tick is taken, or refused with nothing changed
abbrev pub TickRuns : EngineState → ℕ → Result Gave Rejection → EngineState → Type 0
TickRuns old now (Ok gave) new = Ran old (TakesTime old now) gave new
TickRuns old now (Err e) new = (new ≡ old) × (e.out ≡ []) × RefusesTick old now e.refused old

-- there is no incarnation after the last one
abbrev pub restart_fault : Place → Option lower.Refusal
restart_fault p = if p.endpoint.incarnation == last_incarnation then Some lowers.Limit else None

-- what an engine gives that gives way to a new one: nothing
abbrev pub nothing_of : Endpoint → Gave
nothing_of e = record { endpoint = e; out = []; reply = None; completion = None }

-- the engine gives way to a new one at the next incarnation; or there is none, or memory for it was wanting
abbrev pub RestartRuns : EngineState → Result Gave Rejection → EngineState → Type 0
RestartRuns old (Ok gave) new =
    (restart_fault old.sessions.place ≡ None) × (new ≡ opening (next_place old.sessions.place)) ×
    (gave ≡ nothing_of old.sessions.place.endpoint)
RestartRuns old (Err e) new = (new ≡ old) × (e.out ≡ []) × IsRefusal (restart_fault old.sessions.place) e.refused

-- a datagram that was emitted comes to the engine; nothing does where there is none
abbrev pub DeliveryRuns : Option (ℕ × List ℕ) → EngineState → Result Gave Rejection → EngineState → Type 0
DeliveryRuns (Some (rank, bytes)) old result new = DatagramRuns old bytes result new
DeliveryRuns None old result new = ⊥

-- What an event does to the engine of its rank, by the datagrams that were emitted before. Stray bytes are to an engine
-- what a datagram is, but the world lets none come to it
abbrev pub EventRuns : (datagrams : List (ℕ × List ℕ)) → Event → EngineState → Result Gave Rejection → EngineState →
    Type 0
EventRuns datagrams (events.Call rank call) old result new = CallRuns old call result new
EventRuns datagrams (events.Deliver number) old result new = DeliveryRuns (slice_get datagrams number) old result new
EventRuns datagrams (events.Stray rank bytes) old result new = DatagramRuns old bytes result new
EventRuns datagrams (events.Tick rank now) old result new = TickRuns old now result new
EventRuns datagrams (events.Restart rank) old result new = RestartRuns old result new

-- The rule or limit by which an engine refuses an event, whatever memory there is, as far as a world asks for it before
-- it makes room: of a call and of a restart
abbrev pub asked_fault : EngineState → Event → Option lower.Refusal
asked_fault e (events.Call rank call) = fault_of e call
asked_fault e (events.Deliver number) = None
asked_fault e (events.Stray rank bytes) = None
asked_fault e (events.Tick rank now) = None
asked_fault e (events.Restart rank) = restart_fault e.sessions.place

-- the same of the engine at a place, if there is one
abbrev pub fault_by : Option EngineState → Event → Option lower.Refusal
fault_by None event = None
fault_by (Some e) event = asked_fault e event

-- and of the engine of a rank among these
abbrev pub fault_among : List EngineState → (rank : Option ℕ) → Event → Option lower.Refusal
fault_among engines None event = None
fault_among engines (Some rank) event = fault_by (slice_get engines rank) event

-- of these engines, the one of the rank that the event comes to took it or refused it, and no other changed
pub record RanAt (datagrams : List (ℕ × List ℕ)) (event : Event) (old : List EngineState)
    (result : Result Gave Rejection) (new : List EngineState) : Type 0 where
  pub rank : ℕ
  pub target : target_of datagrams event ≡ Some rank
  pub engine : EngineState
  pub there : slice_get old rank ≡ Some engine
  pub next : EngineState
  pub ran : EventRuns datagrams event engine result next
  pub others : new ≡ slice_set old rank next

-- IN THE WORLD

-- the first rule of the world that an event breaks
abbrev pub fault_in : WorldState → Event → Option WorldRefusal
fault_in w event = event_fault (length w.engines) (limit_in w.engines) w.datagrams event

-- the rule or limit by which the engine of its rank refuses it, as far as the world asks for it
abbrev pub engine_fault : WorldState → Event → Option lower.Refusal
engine_fault w event = fault_among w.engines (target_of w.datagrams event) event

-- what the history holds of an event
abbrev pub entry_of : Event → Gave → HistoryEntry
entry_of event gave =
    record { endpoint = gave.endpoint; event = event; reply = gave.reply; completion = gave.completion }

-- the event breaks no rule of the world, and the engine of its rank took it; what that emitted is numbered, and what it
-- answered stands in the history
pub record Went (old : WorldState) (event : Event) (added : Stepped) (new : WorldState) : Type 0 where
  pub allowed : fault_in old event ≡ None
  pub gave : Gave
  pub ran : RanAt old.datagrams event old.engines (Ok gave) new.engines
  pub datagrams : new.datagrams ≡ old.datagrams ++ gave.out
  pub history : new.history ≡ old.history ++ entry_of event gave ∷ []
  pub answered : added ≡ record { first = length old.datagrams; count = length gave.out; place = length old.history }
  -- the limit of messages stays
  pub limit : limit_in new.engines ≡ limit_in old.engines

-- an event with data of its own, which to copy may take memory
abbrev pub HasOwnBytes : Event → Type 0
HasOwnBytes (events.Call rank call) = OwnsData call
HasOwnBytes (events.Deliver number) = ⊥
HasOwnBytes (events.Stray rank bytes) = Unit {0}
HasOwnBytes (events.Tick rank now) = ⊥
HasOwnBytes (events.Restart rank) = ⊥

-- a call with data of its own, of which the engine takes a copy
abbrev pub IsCallWithData : Event → Type 0
IsCallWithData (events.Call rank call) = OwnsData call
IsCallWithData (events.Deliver number) = ⊥
IsCallWithData (events.Stray rank bytes) = ⊥
IsCallWithData (events.Tick rank now) = ⊥
IsCallWithData (events.Restart rank) = ⊥

-- the world needs memory for an event: it has no room for what that may add, or the event is a call with data of its
-- own, which are copied
abbrev pub NeedsMemory : WorldState → Event → Type 0
NeedsMemory w event = (HasRoom w → ⊥) ⊎ IsCallWithData event

-- Why an event is refused, and what goes out with that
pub data IsWhy (old : WorldState) (event : Event) (refused : WorldRefusal) (out : List (ℕ × List ℕ)) : Type 0 where
  -- by the first rule of the world that it breaks, before room is looked for
  ByTheWorld : fault_in old event ≡ Some refused → out ≡ [] → IsWhy old event refused out
  -- it breaks none of them, nor, if it is a call or a restart, a rule or limit of its engine; before the engine saw it,
  -- memory was wanting that the world needed
  ForRoom :
      fault_in old event ≡ None → engine_fault old event ≡ None → NeedsMemory old event →
      refused ≡ refusals.Engine lowers.OutOfMemory → out ≡ [] → IsWhy old event refused out
  -- it breaks none of them, and the engine of its rank refused it
  ByTheEngine :
      (e : Rejection) → fault_in old event ≡ None → refused ≡ refusals.Engine e.refused → out ≡ e.out →
      RanAt old.datagrams event old.engines (Err e) old.engines → IsWhy old event refused out

-- an engine's refusal, as the world's
abbrev pub of_engine : Option lower.Refusal → Option WorldRefusal
of_engine None = None
of_engine (Some fault) = Some (refusals.Engine fault)

-- it is by the fault, where there is one, and else for want of memory
abbrev pub IsFaultOrMemory : Option WorldRefusal → WorldRefusal → Type 0
IsFaultOrMemory (Some fault) refused = refused ≡ fault
IsFaultOrMemory None refused = refused ≡ refusals.Engine lowers.OutOfMemory

-- what a rank does of itself once it entered the collective that it is called to meets a limit; no other call does
-- anything so
abbrev pub IsEntryLimited : EngineState → Call → Type 0
IsEntryLimited e (calls.Enter comm entry) = IsStepLimited e comm entry
IsEntryLimited e (calls.Isend s) = ⊥
IsEntryLimited e (calls.Irecv v) = ⊥
IsEntryLimited e (calls.Wait q) = ⊥
IsEntryLimited e (calls.Test q) = ⊥
IsEntryLimited e (calls.Waitany qs) = ⊥
IsEntryLimited e (calls.Waitall qs) = ⊥
IsEntryLimited e (calls.Cancel q) = ⊥
IsEntryLimited e (calls.Ask comm question) = ⊥
IsEntryLimited e (calls.Iprobe p) = ⊥
IsEntryLimited e (calls.Improbe p) = ⊥
IsEntryLimited e (calls.Mrecv q into) = ⊥

-- so it is at the engine of this rank
pub record IsLimitedAt (engines : List EngineState) (rank : ℕ) (call : Call) : Type 0 where
  pub engine : EngineState
  pub there : slice_get engines rank ≡ Some engine
  pub limited : IsEntryLimited engine call

-- a call at a rank is refused by the fault, where there is one, else for want of memory; a collective also by a limit
-- that what the rank then does of itself meets
abbrev pub IsCallRefusedBy : Option WorldRefusal → List EngineState → (rank : ℕ) → Call → WorldRefusal → Type 0
IsCallRefusedBy (Some fault) engines rank call refused = refused ≡ fault
IsCallRefusedBy None engines rank call refused =
    (refused ≡ refusals.Engine lowers.OutOfMemory) ⊎
    ((refused ≡ refusals.Engine lowers.Limit) × IsLimitedAt engines rank call)

-- A call and a restart are refused by the first rule of the world that they break, else by the engine's rule or limit;
-- and only where there is none for want of memory, or a collective by the limit of what its rank then does of itself
abbrev pub IsFirstFault : WorldState → Event → WorldRefusal → Type 0
IsFirstFault w (events.Call rank call) refused =
    IsCallRefusedBy
    (first_fault (fault_in w (events.Call rank call)) (of_engine (engine_fault w (events.Call rank call))))
    w.engines rank call refused
IsFirstFault w (events.Restart rank) refused =
    IsFaultOrMemory (first_fault (fault_in w (events.Restart rank)) (of_engine (engine_fault w (events.Restart rank))))
    refused
IsFirstFault w (events.Deliver number) refused = Unit {0}
IsFirstFault w (events.Stray rank bytes) refused = Unit {0}
IsFirstFault w (events.Tick rank now) refused = Unit {0}

-- stray bytes of another job than the world's are refused at a rank just as its engine would refuse them
abbrev pub IsAsAtTheEngine : List EngineState → Event → WorldRefusal → Type 0
IsAsAtTheEngine engines (events.Stray rank bytes) refused =
    (e : EngineState) → slice_get engines rank ≡ Some e → carries_job bytes ≡ false → EngineRefuses e bytes refused
IsAsAtTheEngine engines (events.Call rank call) refused = Unit {0}
IsAsAtTheEngine engines (events.Deliver number) refused = Unit {0}
IsAsAtTheEngine engines (events.Tick rank now) refused = Unit {0}
IsAsAtTheEngine engines (events.Restart rank) refused = Unit {0}

-- the number of the first of these datagrams, which come behind so many others
abbrev pub first_of : (before : ℕ) → List (ℕ × List ℕ) → Option ℕ
first_of before [] = None
first_of before (d ∷ ds) = Some before

-- A refusal hands the event back and changes nothing, but that the reset that goes out with it is numbered, and that
-- there may be more room
pub record IsRefusedBy (old : WorldState) (event : Event) (failed : Failed) (new : WorldState) : Type 0 where
  pub out : List (ℕ × List ℕ)
  pub unchanged : new ≡ record old {
    datagrams = old.datagrams ++ out;
    datagram_room = new.datagram_room;
    entry_room =
        new.entry_room;
  }
  pub reset : failed.reset ≡ first_of (length old.datagrams) out
  pub back : failed.event ≡ event
  pub why : IsWhy old event failed.refused out
  pub first : IsFirstFault old event failed.refused
  pub alike : IsAsAtTheEngine old.engines event failed.refused

-- one event: it is taken, or refused
abbrev pub StepGives : WorldState → Event → Result Stepped Failed → WorldState → Type 0
StepGives old event (Ok added) new = Went old event added new
StepGives old event (Err failed) new = IsRefusedBy old event failed new

-- The events in order, each with what its step answers. Each world on the way is seen as a run of the machine of queues
-- and groups, so a call that is refused in the middle is refused for a reason that the machine has there
abbrev pub RunGives : WorldState → List Event → List (Result Stepped Failed) → WorldState → Type 0
RunGives old [] [] new = (new ≡ old) × IsRunOfMachine old
RunGives old [] (answer ∷ answers) new = ⊥
RunGives old (event ∷ events) [] new = ⊥
RunGives old (event ∷ events) (answer ∷ answers) new =
    IsRunOfMachine old × ((mid : WorldState) × StepGives old event answer mid × RunGives mid events answers new)

-- room for the answers was wanting, of which there are some: the events are handed back, and nothing happened
pub record IsNotRun (old : WorldState) (events : List Event) (failed : FailedRun) (new : WorldState) : Type 0 where
  pub some : 0 < length events
  pub refused : failed.refused ≡ refusals.Engine lowers.OutOfMemory
  pub back : failed.events.items ≡ events
  pub unchanged : new ≡ old
