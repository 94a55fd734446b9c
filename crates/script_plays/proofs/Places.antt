-- Where the engines of a play stand: each at its own rank, and none was started anew.
use Rattle.std.proofs.Common.{◌≡◌, ℕ, List, [], ◌∷◌, ◌++◌, length, ◌⊎◌, Option, Some, None, inl, inr, refl, sym, ap}
use Rattle.std.proofs.Common.{ap₂, ◌∙◌, subst}
use Rattle.std.specs.Prelude.{slice_get}
use Rattle.engine_calls.specs.EngineState.{EngineState}
use Rattle.engine_calls.specs.declared.call.Call.{Call}
use Rattle.engine_calls.specs.declared.reply.Completion.{Completion}
use Rattle.engine_calls.specs.declared.reply.Completion.TheVariants as completions
use Rattle.engine_calls.specs.declared.reply.Reply.{Reply}
use Rattle.engine_calls.specs.declared.reply.Reply.TheVariants as replies
use Rattle.incarnation.specs.declared.place.Place.{Place}
use Rattle.perfect_groups.proofs.GroupRuns.{send_current}
use Rattle.perfect_groups.specs.Calls as machine
use Rattle.perfect_groups.specs.Calls.{queue_call}
use Rattle.perfect_groups.specs.Communicators.{first_endpoint}
use Rattle.perfect_groups.specs.Events as seen_events
use Rattle.perfect_groups.specs.Events.{At, Restart, after_event, call_and_reply, machine_start, ready_at, told_of}
use Rattle.perfect_groups.specs.Machine.{Differs, InQueues, Leaves, Machine, Move, after_move, after_moves}
use Rattle.perfect_groups.specs.Machine.{machine_opening}
use Rattle.perfect_groups.specs.Runs.{IsRun, after_run, seen}
use Rattle.proof_network_bridge.proofs.Halves.{sessions_there}
use Rattle.observation.specs.EngineCalls.{told_call, told_completion}
use Rattle.proof_one_meaning.specs.Plays.{HasNoRestart}
use Rattle.script_plays.specs.Events.{AreEventsOf, IsEventOf}
use Rattle.script_plays.specs.Plays.{HasHeadline}
use Rattle.script_plays.specs.declared.moves.Move as schedule
use Rattle.script_plays.specs.declared.moves.Move.TheVariants as moves
use Rattle.proof_network_bridge.specs.WorldViews.{limit_in}
use Rattle.vocabulary.specs.declared.endpoint.Endpoint.{Endpoint}
use Rattle.world.specs.Headline.{event_seen, history_seen}
use Rattle.world.specs.WorldState.{WorldState}
use Rattle.world.specs.declared.event.HistoryEntry.{HistoryEntry}
use Rattle.world.specs.declared.event.Event.{Event}
use Rattle.world.specs.declared.event.Event.TheVariants as events

-- NO RANK WAS STARTED ANEW

moves_current : (s : Machine) (e : Endpoint) (xs : List Move) → (after_moves s e xs).queues.current ≡ s.queues.current
moves_current s e [] = refl
moves_current s e (InQueues x ∷ xs) = moves_current (after_move s e (InQueues x)) e xs
moves_current s e (Leaves c k p ps ∷ xs) = moves_current (after_move s e (Leaves c k p ps)) e xs
moves_current s e (Differs c k p a b pa pb ∷ xs) = moves_current (after_move s e (Differs c k p a b pa pb)) e xs

call_current : (s : Machine) (e : Endpoint) (o : Option machine.Call) →
    (machine_start s e o).queues.current ≡ s.queues.current
call_current s e None = refl
call_current s e (Some c) = send_current s.queues e (queue_call (s.groups.of e) c)

told_behind : (e : Endpoint) (c : Option (machine.Call × Option machine.Reply)) (o : Option machine.Answer)
    (rest : List seen_events.Entry) →
    HasNoRestart (told_of e c o ++ rest) → HasNoRestart rest
told_behind e None None rest h = h
told_behind e None (Some a) rest h = h
told_behind e (Some (c, None)) None rest h = h
told_behind e (Some (c, None)) (Some a) rest h = h
told_behind e (Some (c, Some r)) o rest h = h

-- a run in which no restart is seen leaves every rank at its first incarnation
stays_first : (n : ℕ) (vs : List seen_events.Event) (s : Machine) → ((r : ℕ) → s.queues.current r ≡ 0) → IsRun n s vs →
    HasNoRestart (seen s vs) → (r : ℕ) → (after_run s vs).queues.current r ≡ 0
stays_first n [] s f run h r = f r
stays_first n (Restart x ∷ vs) s f run h r = absurd h
stays_first n (At e o xs ∷ vs) s f run h r =
    stays_first n vs (after_event s (At e o xs)) still run.1
    (told_behind e (call_and_reply e (s.queues.at e) (s.groups.of e) o)
    (ready_at (after_moves (machine_start s e o) e xs) e) (seen (after_event s (At e o xs)) vs) h) r
  where
    still : (x : ℕ) → (after_event s (At e o xs)).queues.current x ≡ 0
    still x = ap (λ (g : ℕ → ℕ). g x) (moves_current (machine_start s e o) e xs ∙ call_current s e o) ∙ f x

abbrev endpoint_of : (rank incarnation : ℕ) → Endpoint
endpoint_of r i = record { rank = r; incarnation = i }

-- an engine stands at its rank
pub placed : (w : WorldState) → HasHeadline w → (r : ℕ) (e : EngineState) → slice_get w.engines r ≡ Some e →
    e.sessions.place.endpoint.rank ≡ r
placed w h r e there =
    ap (λ (p : Place). p.endpoint.rank) (h.sessions.truth.tells r e.sessions (sessions_there w.engines r e there)).place

-- and at its first incarnation
pub at_first : (w : WorldState) → HasHeadline w → HasNoRestart (history_seen w.history) → (r : ℕ) (e : EngineState) →
    slice_get w.engines r ≡ Some e → e.sessions.place.endpoint ≡ first_endpoint r
at_first w h none r e there = ap₂ endpoint_of (placed w h r e there) (sym (h.run.now r e there) ∙ current)
  where
    current : (after_run (machine_opening (length w.engines) (limit_in w.engines)) h.run.run_events).queues.current r ≡
        0
    current = stays_first (length w.engines) h.run.run_events (machine_opening (length w.engines) (limit_in w.engines))
        (λ x. refl) h.run.run
        (subst HasNoRestart (sym h.run.tells) none) r

-- A SCHEDULE RESTARTS NONE

call_fresh : (e : Endpoint) (call : Call) (o : Option Reply) (rest : List seen_events.Entry) → HasNoRestart rest →
    HasNoRestart (told_call e call o ++ rest)
call_fresh e call None rest h = h
call_fresh e call (Some (replies.Started q)) rest h = h
call_fresh e call (Some (replies.Done a)) rest h = h
call_fresh e call (Some replies.Pending) rest h = h
call_fresh e call (Some replies.Accepted) rest h = h
call_fresh e call (Some (replies.Probed found)) rest h = h
call_fresh e call (Some (replies.Matched found)) rest h = h
call_fresh e call (Some replies.Blocked) rest h = h
call_fresh e call (Some (replies.Left a)) rest h = h
call_fresh e call (Some (replies.Fact f)) rest h = h
call_fresh e call (Some (replies.Refused why back)) rest h = h

completion_fresh : (e : Endpoint) (c : Option Completion) (rest : List seen_events.Entry) → HasNoRestart rest →
    HasNoRestart (told_completion e c ++ rest)
completion_fresh e None rest h = h
completion_fresh e (Some (completions.Requests a)) rest h = h
completion_fresh e (Some (completions.Collective a)) rest h = h

event_fresh : (m : schedule.Move) (event : Event) → IsEventOf m event →
    (e : Endpoint) (o : Option Reply) (rest : List seen_events.Entry) → HasNoRestart rest →
    HasNoRestart (event_seen e event o ++ rest)
event_fresh m (events.Call r call) is e o rest h = call_fresh e call o rest h
event_fresh m (events.Deliver number) is e o rest h = h
event_fresh m (events.Tick r now) is e o rest h = h
event_fresh m (events.Stray r bytes) is e o rest h = h
event_fresh (moves.Go r) (events.Restart x) is e o rest h = absurd is
event_fresh (moves.Deliver d) (events.Restart x) is e o rest h = absurd is
event_fresh (moves.Tick r now) (events.Restart x) is e o rest h = absurd is

pub schedule_fresh : (ms : List schedule.Move) (es : List HistoryEntry) → AreEventsOf ms es →
    HasNoRestart (history_seen es)
schedule_fresh [] [] h = tt
schedule_fresh [] (e ∷ es) h = absurd h
schedule_fresh (m ∷ ms) [] h = tt
schedule_fresh (m ∷ ms) (e ∷ es) (inl (is, h)) =
    subst HasNoRestart
    (sym (Rattle.std.proofs.Common.append_assoc (event_seen e.endpoint e.event e.reply)
    (told_completion e.endpoint e.completion) (history_seen es)))
    (event_fresh m e.event is e.endpoint e.reply (told_completion e.endpoint e.completion ++ history_seen es)
    (completion_fresh e.endpoint e.completion (history_seen es) (schedule_fresh ms es h)))
schedule_fresh (m ∷ ms) (e ∷ es) (inr h) = schedule_fresh ms (e ∷ es) h
