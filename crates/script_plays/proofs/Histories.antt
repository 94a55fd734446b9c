-- The history is of the schedule.
use Rattle.std.proofs.Common.{◌≡◌, ℕ, List, [], ◌∷◌, ◌++◌, inl, inr, Option, Some, None, Result, Ok, Err, slice_get}
use Rattle.std.proofs.Common.{refl, sym, ap, ◌∙◌, subst, append-nil, append_assoc}
use Rattle.engine_calls.specs.declared.call.Call.{Call}
use Rattle.event_loop.specs.declared.runner.RunnerStep.{RunnerStep}
use Rattle.event_loop.specs.declared.runner.RunnerStep.TheVariants as steps
use Rattle.script_runner.specs.ScriptSteps.{ScriptState}
use Rattle.script_plays.specs.Events.{AreEventsOf, HistoriesAreOfSchedules, IsEventOf, WorldsHaveHistories}
use Rattle.script_players.specs.Players.{PlayerState}
use Rattle.script_plays.specs.Plays.{CallMoves, EventGives, GoGives, GoesBy, MoveGives, PlayState, ScheduleGives}
use Rattle.script_plays.specs.Plays.{StepMoves}
use Rattle.event_loop.specs.declared.loop_state.RunnerState.{RunnerState}
use Rattle.event_loop.specs.declared.loop_state.RunnerState.TheVariants.{Blocked, Over, Ready}
use Rattle.script_plays.specs.declared.moves.Move.{Move}
use Rattle.script_plays.specs.declared.moves.Move.TheVariants as moves
use Rattle.world.specs.Steps.{entry_of}
use Rattle.world.specs.declared.event.HistoryEntry.{HistoryEntry}
use Rattle.world.specs.declared.event.Event.{Event}
use Rattle.world.specs.declared.event.Event.TheVariants as events
use Rattle.world.specs.declared.event.Failed.{Failed}
use Rattle.world.specs.declared.event.Stepped.{Stepped}

pub worlds_have_histories : WorldsHaveHistories
worlds_have_histories w run = (run.run_events, run.run, run.tells)

-- what a move adds to the history: nothing, or its own event's entry
data Adds (m : Move) (old new : PlayState) : Type 0 where
  Nothing : new.world.history ≡ old.world.history → Adds m old new
  One : (e : HistoryEntry) → IsEventOf m e.event → new.world.history ≡ old.world.history ++ e ∷ [] → Adds m old new

call_adds : (old : PlayState) (r : ℕ) (p : PlayerState) (s : ScriptState) (call : Call) (result : Result Stepped Failed)
    (new : PlayState) → CallMoves old r p s call result new → Adds (moves.Go r) old new
call_adds old r p s call (Ok added) new g =
    One (entry_of (events.Call r call) g.1.gave) refl (ap (λ (x : PlayState). x.world.history) g.4 ∙ g.1.history)
call_adds old r p s call (Err failed) new g =
    Nothing (ap (λ (x : PlayState). x.world.history) g.4 ∙
    ap (λ (x : Rattle.world.specs.WorldState.WorldState). x.history) g.2.unchanged)

step_adds : (old : PlayState) (r : ℕ) (p : PlayerState) (s : ScriptState) (step : RunnerStep) (new : PlayState) →
    StepMoves old r p s step new → Adds (moves.Go r) old new
step_adds old r p s (steps.Print line) new g = Nothing (ap (λ (x : PlayState). x.world.history) g)
step_adds old r p s (steps.End status line) new g = Nothing (ap (λ (x : PlayState). x.world.history) g)
step_adds old r p s (steps.Call call) new g = call_adds old r p s call g.0 new g.1

go_adds : (old : PlayState) (r : ℕ) (p : PlayerState) (state : RunnerState Call) (new : PlayState) →
    GoesBy old r p state new →
    Adds (moves.Go r) old new
go_adds old r p (Ready reply) new g = step_adds old r p g.1 g.0 new g.3
go_adds old r p (Blocked call) new g = Nothing (ap (λ (x : PlayState). x.world.history) g)
go_adds old r p (Over status line) new g = Nothing (ap (λ (x : PlayState). x.world.history) g)

may_add : (old : PlayState) (r : ℕ) (p : Option PlayerState) (new : PlayState) → GoGives old r p new →
    Adds (moves.Go r) old new
may_add old r None new g = Nothing (ap (λ (x : PlayState). x.world.history) g)
may_add old r (Some p) new g = go_adds old r p p.state new g

event_adds : (m : Move) (event : Event) → IsEventOf m event →
    (old : PlayState) (result : Result Stepped Failed) (new : PlayState) → EventGives old event result new →
    Adds m old new
event_adds m event is old (Ok added) new g =
    One (entry_of event g.1.gave) is (ap (λ (x : PlayState). x.world.history) g.2 ∙ g.1.history)
event_adds m event is old (Err failed) new g =
    Nothing (ap (λ (x : PlayState). x.world.history) g.2 ∙
    ap (λ (x : Rattle.world.specs.WorldState.WorldState). x.history) g.1.unchanged)

adds : (m : Move) (old new : PlayState) → MoveGives old m new → Adds m old new
adds (moves.Go r) old new g = may_add old r (slice_get old.players r) new g
adds (moves.Deliver d) old new g = event_adds (moves.Deliver d) (events.Deliver d) refl old g.0 new g.1
adds (moves.Tick r now) old new g = event_adds (moves.Tick r now) (events.Tick r now) (refl, refl) old g.0 new g.1

skip : (m : Move) (ms : List Move) (es : List HistoryEntry) → AreEventsOf ms es → AreEventsOf (m ∷ ms) es
skip m ms [] h = tt
skip m ms (e ∷ es) h = inr h

pub added : (ms : List Move) (old new : PlayState) → ScheduleGives old ms new →
    (es : List HistoryEntry) × (new.world.history ≡ old.world.history ++ es) × AreEventsOf ms es
added [] old new g = ([], ap (λ (x : PlayState). x.world.history) g.0 ∙ sym (append-nil old.world.history), tt)
added (m ∷ ms) old new g = joins (adds m old g.1.0 g.1.1) (added ms g.1.0 new g.1.2)
  where
    joins : Adds m old g.1.0 → (es : List HistoryEntry) × (new.world.history ≡ g.1.0.world.history ++ es) ×
        AreEventsOf ms es → (es : List HistoryEntry) × (new.world.history ≡ old.world.history ++ es) ×
        AreEventsOf (m ∷ ms) es
    joins (Nothing same) rest =
        (rest.0, rest.1 ∙ ap (λ (h : List HistoryEntry). h ++ rest.0) same, skip m ms rest.0 rest.2)
    joins (One e is more) rest = (
      e ∷ rest.0,
      rest.1 ∙
          (ap (λ (h : List HistoryEntry). h ++ rest.0) more ∙ append_assoc old.world.history (e ∷ []) rest.0),
      inl (is, rest.2),
    )

pub histories_are_of_schedules : HistoriesAreOfSchedules
histories_are_of_schedules scripts schedule new g =
    let a = added schedule (Rattle.script_plays.specs.Plays.play_opening scripts) new g in subst
    (AreEventsOf schedule) (sym a.1) a.2
