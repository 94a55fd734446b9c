-- The headline: what is seen of a world is a run of the machine of queues and groups.
--
-- Its words, and where they stand: the machine's `IsRun`, `after_run`, `seen` (perfect_groups, Runs), `fault` (Faults),
-- `IsAtRest` and `ProbesFindAll` (perfect_queues, Quiet) and `CollectivesAreLeft` (perfect_groups, Quiet); what the
-- machine sees of a call, its reply and a completion, which fault a call has and why it is refused, and the sessions of
-- all engines (`observation`); when sessions are quiet, and what they and datagrams tell of the links (`link_truth`);
-- that a call names only requests that its own engine gave, `NamesOwn` (Given); what a rank holds of communicators,
-- `member_of` (EngineState) and `held_at` (perfect_groups,
-- Calls). That a world is sound, `IsSound` below, is what its proofs carry from event to event
use Rattle.std.specs.Prelude.{◌≡◌, ℕ, ◌+◌, ◌≤◌, false, List, [], ◌∷◌, ◌++◌, length, Option, Some, None, flat_map, ◌==◌}
use Rattle.std.specs.Prelude.{slice_get, slice_index}
use Rattle.vocabulary.specs.declared.endpoint.Endpoint.{Endpoint}
use Rattle.engine_calls.specs.Calls.{CallGives, IsTaken}
use Rattle.engine_calls.specs.EngineState.{EngineState, member_of}
use Rattle.engine_calls.specs.declared.call.Call.{Call}
use Rattle.engine_calls.specs.declared.reply.Reply.{Reply}
use Rattle.engine_calls.specs.declared.reply.Reply.TheVariants as replies
use Rattle.sessions.specs.Peers.{peer_at}
use Rattle.reliable_link.specs.ReceiverState.{ReceiverState, held_at as frame_held}
use Rattle.reliable_link.specs.SenderState.{SenderState, frame_at, next_number}
use Rattle.point_to_point_calls.specs.declared.refusal.Refusal.{Refusal}
use Rattle.perfect_groups.specs.Calls.{held_at}
use Rattle.perfect_groups.specs.Communicators.{Communicator}
use Rattle.perfect_groups.specs.Events as machine
use Rattle.perfect_groups.specs.Machine.{machine_opening}
use Rattle.perfect_groups.specs.Quiet.{CollectivesAreLeft}
use Rattle.perfect_groups.specs.Runs.{IsRun, after_run, seen}
use Rattle.perfect_queues.specs.Quiet.{IsAtRest, ProbesFindAll}
use Rattle.observation.specs.Reasons.{IsReason}
use Rattle.link_truth.specs.Links.{Links}
use Rattle.link_truth.specs.Quiet.{AreQuiet}
use Rattle.link_truth.specs.Truth.{AreTrue}
use Rattle.observation.specs.Faults.{AnswersNone, IsFaultless, fault_in}
use Rattle.proof_network_bridge.specs.WorldViews.{IsFollowed, limit_in}
use Rattle.observation.specs.Sessions.{sessions_in}
use Rattle.observation.specs.EngineCalls.{call_meant, call_seen, told_call, told_completion}
use Rattle.world.specs.GivenRequests.{AreNamed, NamesOwn}
use Rattle.world.specs.WorldState.{WorldState, IsWorld}
use Rattle.world.specs.declared.event.HistoryEntry.{HistoryEntry}
use Rattle.world.specs.declared.event.Event.{Event}
use Rattle.world.specs.declared.event.Event.TheVariants as events

-- A call is seen with its reply, and a restart of a rank. Deliveries, stray bytes and ticks are not seen
abbrev pub event_seen : Endpoint → Event → Option Reply → List machine.Entry
event_seen e (events.Call r call) reply = told_call e call reply
event_seen e (events.Deliver number) reply = []
event_seen e (events.Stray r bytes) reply = []
event_seen e (events.Tick r now) reply = []
event_seen e (events.Restart r) reply = machine.Restarted r ∷ []

-- and so is the answer to a blocked call, in whatever event it comes
abbrev pub entry_seen : HistoryEntry → List machine.Entry
entry_seen e = event_seen e.endpoint e.event e.reply ++ told_completion e.endpoint e.completion

-- the visible history: calls with replies, restarts, and completions, in order
abbrev pub history_seen : List HistoryEntry → List machine.Entry
history_seen entries = flat_map entry_seen entries

-- THE HEADLINE. There is a run of the machine of queues and groups, among as many ranks, whose visible history is the
-- world's.
-- The machine knows no frames: a message is one message there, whether it went whole, or was announced and went in
-- pieces; and of a collective it knows who entered it, and who left it with what. Calls are on any communicator that
-- their rank holds: point to point, collective, or questions about it. The run ends with each rank at the incarnation
-- of its engine, which knows there what its engine knows, and holds the communicators that its engine holds, one group
-- for each context; a call that its engine refuses has a reason there, and one that it takes has no fault; and where
-- the world is quiet, the run has come to a state that meets the machine's quiet clauses: between ranks that know each
-- other as they are, no receive that waits accepts a pending message, what was matched is finished on both sides,
-- however it went, and a probe finds nothing only where no pending message is there that such a receive would accept;
-- and a collective whose members are all current, know each other so and have all entered it alike was left by all
pub record IsRunOfMachine (w : WorldState) : Type 0 where
  pub run_events : List machine.Event
  pub run : IsRun (length w.engines) (machine_opening (length w.engines) (limit_in w.engines)) run_events
  pub tells : seen (machine_opening (length w.engines) (limit_in w.engines)) run_events ≡ history_seen w.history
  pub now :
      (r : ℕ) (e : EngineState) → slice_get w.engines r ≡ Some e →
      (after_run (machine_opening (length w.engines) (limit_in w.engines)) run_events).queues.current r ≡
      e.sessions.place.endpoint.incarnation
  pub knows :
      (r : ℕ) (e : EngineState) → slice_get w.engines r ≡ Some e → (x : ℕ) →
      ((after_run (machine_opening (length w.engines) (limit_in w.engines)) run_events).queues.at
      e.sessions.place.endpoint).known x ≡
      slice_index e.sessions.known x
  -- a call that the engine refuses has the machine's first fault, by its number; or the machine finds none, and the
  -- number is
  -- 13 or 14 (`IsReason`). A request of another engine is there one that was never given (`call_meant`)
  pub refuses :
      (r : ℕ) (e mid : EngineState) (call back : Call) (why : Refusal) → slice_get w.engines r ≡ Some e →
      CallGives e call (replies.Refused why back) mid →
      IsReason (fault_in (after_run (machine_opening (length w.engines) (limit_in w.engines)) run_events)
      e.sessions.place.endpoint
      (call_meant e.core call)) why
  -- where a call names only requests that its own engine gave, it means there what is seen of it
  pub own_requests :
      (r : ℕ) (e : EngineState) (call : Call) → slice_get w.engines r ≡ Some e →
      NamesOwn w.history e.sessions.place.endpoint call → call_meant e.core call ≡ call_seen call
  -- a call that the engine takes names no request of another engine, and the machine finds no fault with it
  pub takes :
      (r : ℕ) (e mid : EngineState) (call : Call) (reply : Reply) → slice_get w.engines r ≡ Some e → IsTaken reply →
      CallGives e call reply mid →
      IsFaultless
      (fault_in (after_run (machine_opening (length w.engines) (limit_in w.engines)) run_events)
      e.sessions.place.endpoint
      (call_seen call)) e.core call
  pub holds :
      (r : ℕ) (e : EngineState) → slice_get w.engines r ≡ Some e →
      ((after_run (machine_opening (length w.engines) (limit_in w.engines)) run_events).groups.of
      e.sessions.place.endpoint).held ≡
      (member_of e.groups).held
  -- communicators of two engines, or of one, that have one context are one
  pub one_group :
      (r x : ℕ) (e d : EngineState) (first second : Option ℕ) (a b : Communicator) →
      slice_get w.engines r ≡ Some e → slice_get w.engines x ≡ Some d →
      held_at (member_of e.groups) first ≡ Some a → held_at (member_of d.groups) second ≡ Some b →
      a.context ≡ b.context → a ≡ b
  pub quiet : AreQuiet (sessions_in w.engines) →
      IsAtRest (after_run (machine_opening (length w.engines) (limit_in w.engines)) run_events).queues
  -- and then an engine answers a probe with none only where such a receive would accept no pending message of a current
  -- endpoint that the engine's rank knows as current
  pub finds : AreQuiet (sessions_in w.engines) →
      ProbesFindAll (after_run (machine_opening (length w.engines) (limit_in w.engines)) run_events).queues
      (AnswersNone w.engines)
  pub leaves : AreQuiet (sessions_in w.engines) →
      CollectivesAreLeft (length w.engines)
      (after_run (machine_opening (length w.engines) (limit_in w.engines)) run_events)

-- THE LAW OF A SESSION, for all sessions that ever were. For each two endpoints there are the frames that the one's
-- side accepted, and how many of them were handed up at the other: a beginning. Each engine's sessions hold just these,
-- all below a sender's lowest unacknowledged number was handed up, and every datagram ever emitted tells the truth of
-- them. Of former endpoints, which no engine holds any more, the datagrams pin them: where a frame was handed up, an
-- acknowledgement of just so many was emitted, and so was each of them
pub record SessionsAreTrue (w : WorldState) : Type 0 where
  pub links : Links
  pub current : ℕ → ℕ
  pub truth : AreTrue (length w.engines) (sessions_in w.engines) w.datagrams links current

-- the same in numbers, of one direction: every frame below the lowest unacknowledged number was handed up, and no more
-- than were accepted; and what is held before its turn is what the sender still keeps under its number
pub record IsInOrder (sender : SenderState) (receiver : ReceiverState) : Type 0 where
  pub acknowledged : sender.lowest ≤ receiver.next
  pub accepted : receiver.next ≤ next_number sender
  pub held : (place : ℕ) (bytes : List ℕ) → frame_held receiver.held place ≡ Some bytes →
      frame_at sender (receiver.next + place) ≡ Some bytes

-- so it is of each direction between two ranks that know each other as they are
abbrev pub SessionsAreInOrder : List EngineState → Type 0
SessionsAreInOrder engines =
    (r x : ℕ) (e d : EngineState) → slice_get engines r ≡ Some e → slice_get engines x ≡ Some d → (x == r) ≡ false →
    slice_index e.sessions.known x ≡ d.sessions.place.endpoint.incarnation →
    slice_index d.sessions.known r ≡ e.sessions.place.endpoint.incarnation →
    IsInOrder (peer_at e.sessions.peers x).sender (peer_at d.sessions.peers r).receiver

-- and where a world is quiet, nothing is held there before its turn
abbrev pub NothingIsHeld : List EngineState → Type 0
NothingIsHeld engines =
    (r x : ℕ) (e d : EngineState) → slice_get engines r ≡ Some e → slice_get engines x ≡ Some d → (x == r) ≡ false →
    slice_index e.sessions.known x ≡ d.sessions.place.endpoint.incarnation →
    slice_index d.sessions.known r ≡ e.sessions.place.endpoint.incarnation →
    (place : ℕ) → frame_held (peer_at d.sessions.peers r).receiver.held place ≡ None

-- what is true of every world: its engines know how many they are, it follows the pure network, and the requests that
-- engines gave stand under their keys
pub record IsSound (engines : List EngineState) (datagrams : List (ℕ × List ℕ)) (history : List HistoryEntry) : Type
    0 where
  pub world : IsWorld engines
  pub followed : IsFollowed (length engines) engines datagrams (history_seen history)
  pub limited : followed.limit ≡ limit_in engines
  pub named : (r : ℕ) (e : EngineState) → slice_get engines r ≡ Some e → AreNamed history e
