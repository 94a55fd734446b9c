-- A world of engines follows the pure network with communicators, event by event.
use Rattle.std.specs.Prelude.{◌≡◌, ℕ, suc, ◌<◌, ◌≤◌, List, [], ◌∷◌, ◌++◌, Option, Some, Ok, Err, slice_get}
use Rattle.std.specs.Prelude.{slice_set, slice_index}
use Rattle.incarnation.specs.declared.place.Place.{Place}
use Rattle.point_to_point_calls.specs.declared.refusal.Refusal.{Refusal}
use Rattle.engine_calls.specs.Calls.{CallGives, IsTaken}
use Rattle.engine.specs.Datagrams.{DatagramGives}
use Rattle.engine_calls.specs.EngineState.{EngineState, completion_of, emptied, member_of, opening}
use Rattle.engine.specs.Ticks.{TickGives}
use Rattle.engine_calls.specs.declared.call.Call.{Call}
use Rattle.engine_calls.specs.declared.reply.Reply.{Reply}
use Rattle.engine_calls.specs.declared.reply.Reply.TheVariants as replies
use Rattle.perfect_groups.specs.Calls.{held_at}
use Rattle.perfect_groups.specs.Communicators.{Communicator}
use Rattle.perfect_groups.specs.Events as machine
use Rattle.perfect_groups.specs.Machine.{machine_opening}
use Rattle.perfect_groups.specs.Quiet.{CollectivesAreLeft}
use Rattle.perfect_groups.specs.Runs.{IsRun, after_run, seen}
use Rattle.vocabulary.specs.Endpoints.{last_incarnation}
use Rattle.vocabulary.specs.declared.message_limit.MessageLimit.{MessageLimit}
use Rattle.perfect_queues.specs.Quiet.{IsAtRest, ProbesFindAll}
use Rattle.observation.specs.Reasons.{IsReason}
use Rattle.link_truth.specs.Quiet.{AreQuiet}
use Rattle.proof_network_bridge.specs.WorldViews.{IsFollowed, opening_engines}
use Rattle.observation.specs.Sessions.{sessions_in}
use Rattle.observation.specs.EngineCalls.{call_meant, call_seen, told_call, told_completion}
pub use Rattle.observation.specs.Faults.{fault_in, IsFaultless, AnswersNone, LooksInVain, SearchesInVain}

-- ---- what an event is to an engine

-- the datagram that the bytes spell is taken in: the engine was `old`, and is `new`
abbrev pub TakesDatagram : (old : EngineState) → (bytes : List ℕ) → (new : EngineState) → Type 0
TakesDatagram old bytes new = DatagramGives old bytes (Ok tt) new

-- the bytes are refused for this, and leave the engine so
abbrev pub RefusesDatagram : (old : EngineState) → (bytes : List ℕ) → (why : Refusal) → (new : EngineState) → Type 0
RefusesDatagram old bytes why new = DatagramGives old bytes (Err why) new

-- the engine's clock is set to this time, and what is due goes out again
abbrev pub TakesTick : (old : EngineState) → (now : ℕ) → (new : EngineState) → Type 0
TakesTick old now new = TickGives old now (Ok tt) new

-- the tick is refused for this, and leaves the engine so
abbrev pub RefusesTick : (old : EngineState) → (now : ℕ) → (why : Refusal) → (new : EngineState) → Type 0
RefusesTick old now why new = TickGives old now (Err why) new

-- ---- what it leaves

-- what was done leaves a world in which the engine at r is the new one, out of which what it gave was taken
abbrev pub LeavesFollowed :
    (n : ℕ) → List EngineState → List (ℕ × List ℕ) → (r : ℕ) → EngineState → List machine.Entry → Type 0
LeavesFollowed n engines datagrams r mid history =
    IsFollowed n (slice_set engines r (emptied mid)) (datagrams ++ mid.sessions.out) history

-- at most 1,024 engines at their start follow the network, and nothing was seen
abbrev pub OpeningFollows : Type 0
OpeningFollows = (l : MessageLimit) (n : ℕ) → n ≤ 1024 → IsFollowed n (opening_engines l n 0 n) [] []

-- A call that a rank takes is followed, and what is seen of it is the call, its reply and what it completes
abbrev pub CallsFollow : Type 0
CallsFollow =
    (n r : ℕ) (engines : List EngineState) (datagrams : List (ℕ × List ℕ)) (history : List machine.Entry)
    (old mid : EngineState) (call : Call) (reply : Reply) →
    IsFollowed n engines datagrams history → slice_get engines r ≡ Some old → IsTaken reply →
    CallGives old call reply mid →
    LeavesFollowed n engines datagrams r mid
    (history ++
    (told_call old.sessions.place.endpoint call (Some reply) ++
    told_completion old.sessions.place.endpoint (completion_of mid)))

-- A datagram that a rank takes in is followed, and what is seen of it is the answer to a call that was blocked
abbrev pub DatagramsFollow : Type 0
DatagramsFollow =
    (n r number : ℕ) (bytes : List ℕ) (engines : List EngineState) (datagrams : List (ℕ × List ℕ))
    (history : List machine.Entry) (old mid : EngineState) →
    IsFollowed n engines datagrams history → slice_get engines r ≡ Some old →
    slice_get datagrams number ≡ Some (r, bytes) → TakesDatagram old bytes mid →
    LeavesFollowed n engines datagrams r mid
    (history ++ told_completion old.sessions.place.endpoint (completion_of mid))

-- nothing is seen of a datagram that is refused, though a reset may go out
abbrev pub RefusalsFollow : Type 0
RefusalsFollow =
    (n r number : ℕ) (bytes : List ℕ) (engines : List EngineState) (datagrams : List (ℕ × List ℕ))
    (history : List machine.Entry) (old mid : EngineState) (why : Refusal) →
    IsFollowed n engines datagrams history → slice_get engines r ≡ Some old →
    slice_get datagrams number ≡ Some (r, bytes) → RefusesDatagram old bytes why mid →
    LeavesFollowed n engines datagrams r mid history

-- A tick that a rank takes is followed, and what is seen of it is the answer to a call that was blocked
abbrev pub TicksFollow : Type 0
TicksFollow =
    (n r now : ℕ) (engines : List EngineState) (datagrams : List (ℕ × List ℕ)) (history : List machine.Entry)
    (old mid : EngineState) →
    IsFollowed n engines datagrams history → slice_get engines r ≡ Some old → TakesTick old now mid →
    LeavesFollowed n engines datagrams r mid
    (history ++ told_completion old.sessions.place.endpoint (completion_of mid))

-- the place of the next incarnation of a rank
abbrev pub next_place : Place → Place
next_place p = record {
  endpoint = record { rank = p.endpoint.rank; incarnation = suc p.endpoint.incarnation };
  size = p.size;
  job = p.job;
  message_limit = p.message_limit;
}

-- a rank is started anew
abbrev pub RestartsFollow : Type 0
RestartsFollow =
    (n r : ℕ) (engines : List EngineState) (datagrams : List (ℕ × List ℕ)) (history : List machine.Entry)
    (old : EngineState) →
    IsFollowed n engines datagrams history → slice_get engines r ≡ Some old →
    old.sessions.place.endpoint.incarnation < last_incarnation →
    IsFollowed n (slice_set engines r (opening (next_place old.sessions.place))) datagrams
    (history ++ machine.Restarted r ∷ [])

-- A history is seen of a run of the machine of queues and groups among n ranks, in a job with this limit of messages.
-- The run ends with each rank at the incarnation of its engine, which knows there what its engine knows; a call that its
-- engine refuses has a reason there, and one that it takes has no fault; and where their sessions are quiet, the run has
-- come to a state that meets the machine's quiet clauses
pub record IsSeenOfMachine (n : ℕ) (limit : MessageLimit) (engines : List EngineState) (history : List machine.Entry) :
    Type 0 where
  pub events : List machine.Event
  pub run : IsRun n (machine_opening n limit) events
  pub tells : seen (machine_opening n limit) events ≡ history
  -- each rank is at the incarnation of its engine
  pub now :
      (r : ℕ) (e : EngineState) → slice_get engines r ≡ Some e →
      (after_run (machine_opening n limit) events).queues.current r ≡ e.sessions.place.endpoint.incarnation
  -- the endpoint there knows each rank at the incarnation at which its engine knows it
  pub knows :
      (r : ℕ) (e : EngineState) → slice_get engines r ≡ Some e → (x : ℕ) →
      ((after_run (machine_opening n limit) events).queues.at e.sessions.place.endpoint).known x ≡
      slice_index e.sessions.known x
  -- a call that the engine refuses has the machine's first fault there, by its number; or the machine finds none, and
  -- the number is
  -- 13 or 14
  pub refuses :
      (r : ℕ) (e mid : EngineState) (call back : Call) (why : Refusal) → slice_get engines r ≡ Some e →
      CallGives e call (replies.Refused why back) mid →
      IsReason (fault_in (after_run (machine_opening n limit) events) e.sessions.place.endpoint
      (call_meant e.core call)) why
  -- the machine finds no fault with a call that the engine takes
  pub takes :
      (r : ℕ) (e mid : EngineState) (call : Call) (reply : Reply) → slice_get engines r ≡ Some e → IsTaken reply →
      CallGives e call reply mid →
      IsFaultless (fault_in (after_run (machine_opening n limit) events) e.sessions.place.endpoint (call_seen call))
      e.core
      call
  -- the endpoint there holds the communicators that its engine holds
  pub holds :
      (r : ℕ) (e : EngineState) → slice_get engines r ≡ Some e →
      ((after_run (machine_opening n limit) events).groups.of e.sessions.place.endpoint).held ≡
      (member_of e.groups).held
  -- one group for each context: communicators of two engines that have one context are one
  pub one_group :
      (r x : ℕ) (e d : EngineState) (first second : Option ℕ) (a b : Communicator) →
      slice_get engines r ≡ Some e → slice_get engines x ≡ Some d →
      held_at (member_of e.groups) first ≡ Some a → held_at (member_of d.groups) second ≡ Some b →
      a.context ≡ b.context → a ≡ b
  -- messages have all been handed up, and what was matched is finished
  pub quiet : AreQuiet (sessions_in engines) → IsAtRest (after_run (machine_opening n limit) events).queues
  -- a probe finds nothing only where nothing is there that such a receive would accept
  pub finds : AreQuiet (sessions_in engines) →
      ProbesFindAll (after_run (machine_opening n limit) events).queues (AnswersNone engines)
  -- a collective whose members are all current, know each other so and have all entered it alike was left by all
  pub leaves : AreQuiet (sessions_in engines) → CollectivesAreLeft n (after_run (machine_opening n limit) events)

-- wherever engines follow the network, what was seen of them is seen of a run of the machine
abbrev pub FollowingIsRun : Type 0
FollowingIsRun =
    (n : ℕ) (engines : List EngineState) (datagrams : List (ℕ × List ℕ)) (history : List machine.Entry) →
    (f : IsFollowed n engines datagrams history) → IsSeenOfMachine n f.limit engines history
