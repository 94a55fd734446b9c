-- The headline, event by event: the run of the machine that a world has come by is a parameter, and each event goes on
-- from it.
--
-- Its words, and where they stand: the machine's events and `IsRun` (perfect_groups, Events and Runs); that an event of
-- the machine is at an endpoint, `IsAt`, and that a run goes with what happened in the pure network, `GoesWith`
-- (proof_network_runs, Runs); that a world follows that network by just these happenings, `IsFollowedBy`
-- (proof_network_bridge, GoingOn)
use Rattle.std.specs.Prelude.{◌≡◌, ℕ, List, [], ◌∷◌, ◌++◌, length, Option, Some, None, Result, Ok, Err, slice_get}
use Rattle.std.specs.List.{AllByRecursion}
use Rattle.engine_calls.specs.EngineState.{EngineState, member_of}
use Rattle.observation.specs.EngineCalls.{call_seen}
use Rattle.perfect_groups.specs.Calls.{Call, held_at}
use Rattle.perfect_groups.specs.Communicators.{Communicator}
use Rattle.perfect_groups.specs.Events as machine
use Rattle.proof_group_network.specs.Network.{Happening}
use Rattle.proof_network_bridge.specs.WorldViews.{limit_in}
use Rattle.proof_network_bridge.specs.GoingOn.{IsFollowedBy}
use Rattle.proof_network_runs.specs.Runs.{GoesWith, IsAt, IsOneAtMost}
use Rattle.world.specs.Faults.{target_of}
use Rattle.world.specs.GivenRequests.{AreNamed}
use Rattle.world.specs.Headline.{IsRunOfMachine, history_seen}
use Rattle.world.specs.Steps.{StepGives}
use Rattle.world.specs.WorldState.{IsWorld, WorldState}
use Rattle.world.specs.declared.event.HistoryEntry.{HistoryEntry}
use Rattle.world.specs.declared.event.Event.{Event}
use Rattle.world.specs.declared.event.Event.TheVariants as events
use Rattle.world.specs.declared.event.Failed.{Failed}
use Rattle.world.specs.declared.event.Stepped.{Stepped}

-- what is true of every world, by what happened in the pure network that it follows
pub record IsSoundBy (happenings : List Happening) (engines : List EngineState) (datagrams : List (ℕ × List ℕ))
    (history : List HistoryEntry) : Type 0 where
  pub world : IsWorld engines
  pub followed : IsFollowedBy (length engines) (limit_in engines) happenings engines datagrams (history_seen history)
  pub named : (r : ℕ) (e : EngineState) → slice_get engines r ≡ Some e → AreNamed history e

-- THE RELATION THAT JOINS A WORLD TO THE MACHINE. The world has come by this run of the machine of queues and groups:
-- all that the headline says of some run it says of this one
pub record HasRun (w : WorldState) (run_events : List machine.Event) : Type 0 where
  pub headline : IsRunOfMachine w
  pub by : headline.run_events ≡ run_events
  -- and behind it stand the happenings with which the run goes, and from which it goes on
  pub happenings : List Happening
  pub goes : GoesWith (length w.engines) (limit_in w.engines) happenings run_events
  pub sound : IsSoundBy happenings w.engines w.datagrams w.history

-- One event of the machine at most, at the endpoint at which an event of the world happens: that of the engine of its
-- rank before the event. So all that is answered in an event of the world is answered in one event of the machine
pub record AreOwnSteps (w : WorldState) (event : Event) (more : List machine.Event) : Type 0 where
  pub rank : ℕ
  pub target : target_of w.datagrams event ≡ Some rank
  pub engine : EngineState
  pub there : slice_get w.engines rank ≡ Some engine
  pub own : AllByRecursion (IsAt engine.sessions.place.endpoint) more
  pub one : IsOneAtMost more

-- one event of the machine, of this call
abbrev pub IsCallOf : Call → List machine.Event → Type 0
IsCallOf c [] = ⊥
IsCallOf c (machine.At e None moves ∷ []) = ⊥
IsCallOf c (machine.At e (Some d) moves ∷ []) = d ≡ c
IsCallOf c (machine.Restart r ∷ []) = ⊥
IsCallOf c (v ∷ (u ∷ vs)) = ⊥

-- none, or one without a call: steps, and what is answered then
abbrev pub IsWithoutCall : List machine.Event → Type 0
IsWithoutCall [] = Unit {0}
IsWithoutCall (machine.At e None moves ∷ []) = Unit {0}
IsWithoutCall (machine.At e (Some d) moves ∷ []) = ⊥
IsWithoutCall (machine.Restart r ∷ []) = ⊥
IsWithoutCall (v ∷ (u ∷ vs)) = ⊥

-- WHICH EVENT OF THE MACHINE AN EVENT OF THE WORLD IS: a call is one, of the same call; a restart is one; a delivery is
-- one without a call, or none; a tick is none
abbrev pub IsOneFor : Event → List machine.Event → Type 0
IsOneFor (events.Call rank call) more = IsCallOf (call_seen call) more
IsOneFor (events.Deliver number) more = IsWithoutCall more
IsOneFor (events.Stray rank bytes) more = IsWithoutCall more
IsOneFor (events.Tick rank now) more = more ≡ []
IsOneFor (events.Restart rank) more = more ≡ machine.Restart rank ∷ []

-- what an event adds to the run: one event at most, at its own endpoint, and none where it is refused
abbrev pub AreStepsOf : WorldState → Event → Result Stepped Failed → List machine.Event → Type 0
AreStepsOf w event (Ok added) more = AreOwnSteps w event more × IsOneFor event more
AreStepsOf w event (Err failed) more = more ≡ []

-- an event goes on from the run: the new world has come by the old run and the event's own steps
abbrev pub StepGoesOn : WorldState → List machine.Event → Event → Result Stepped Failed → WorldState → Type 0
StepGoesOn old run_events event answer new =
    (more : List machine.Event) × AreStepsOf old event answer more × HasRun new (run_events ++ more)

-- so it is from whatever run the world had come by
abbrev pub GoesOn : WorldState → Event → Result Stepped Failed → WorldState → Type 0
GoesOn old event answer new = (run_events : List machine.Event) → HasRun old run_events →
    StepGoesOn old run_events event answer new

-- so do all events of a list, one after the other. `way` are the worlds after each of them
abbrev pub RunGoesOn : WorldState → List machine.Event → List Event → List (Result Stepped Failed) →
    (way : List WorldState) → WorldState → Type 0
RunGoesOn old run_events [] [] [] new = (new ≡ old) × HasRun old run_events
RunGoesOn old run_events [] [] (mid ∷ way) new = ⊥
RunGoesOn old run_events [] (answer ∷ answers) way new = ⊥
RunGoesOn old run_events (event ∷ events) [] way new = ⊥
RunGoesOn old run_events (event ∷ events) (answer ∷ answers) [] new = ⊥
RunGoesOn old run_events (event ∷ events) (answer ∷ answers) (mid ∷ way) new =
    HasRun old run_events × StepGives old event answer mid ×
    ((more : List machine.Event) × AreStepsOf old event answer more ×
    RunGoesOn mid (run_events ++ more) events answers way new)

-- ONE GROUP FOR EACH CONTEXT, of two worlds: communicators of an engine of the one and of an engine of the other that
-- have one context are one, members and their order. Where a rank was started anew between them, its engine of the one
-- is a former one
abbrev pub ShareGroups : WorldState → WorldState → Type 0
ShareGroups w v =
    (r x : ℕ) (e d : EngineState) (first second : Option ℕ) (a b : Communicator) →
    slice_get w.engines r ≡ Some e → slice_get v.engines x ≡ Some d →
    held_at (member_of e.groups) first ≡ Some a → held_at (member_of d.groups) second ≡ Some b → a.context ≡ b.context →
    a ≡ b

-- so it is of any two of these
abbrev pub AllShareGroups : List WorldState → Type 0
AllShareGroups worlds = (i j : ℕ) (w v : WorldState) → slice_get worlds i ≡ Some w → slice_get worlds j ≡ Some v →
    ShareGroups w v

-- a way of worlds, from whatever run the first one had come by
pub record GoesOnFrom (old : WorldState) (events : List Event) (answers : List (Result Stepped Failed))
    (new : WorldState) : Type 0 where
  pub from :
      (run_events : List machine.Event) → HasRun old run_events →
      (way : List WorldState) × RunGoesOn old run_events events answers way new

-- and any two worlds on the way share their groups
abbrev pub GoesAllTheWay : WorldState → List Event → List (Result Stepped Failed) → WorldState → Type 0
GoesAllTheWay old events answers new =
    (run_events : List machine.Event) → HasRun old run_events →
    (way : List WorldState) × RunGoesOn old run_events events answers way new × AllShareGroups (old ∷ way)

-- a world and any other one of as many ranks that has come by a run which goes on from its own share their groups
abbrev pub SharesGroupsOnwards : WorldState → Type 0
SharesGroupsOnwards w =
    (run_events more : List machine.Event) (later : WorldState) → length later.engines ≡ length w.engines →
    limit_in later.engines ≡ limit_in w.engines →
    HasRun w run_events → HasRun later (run_events ++ more) → ShareGroups w later

-- every world has come by some run
pub record HasSomeRun (w : WorldState) : Type 0 where
  pub run_events : List machine.Event
  pub has : HasRun w run_events
