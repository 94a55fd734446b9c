-- A world keeps its engines, and a play its players: as many as there are scripts.
use Rattle.std.proofs.Common.{◌≡◌, ℕ, zero, suc, List, [], ◌∷◌, length, Option, Some, None, Result, Ok, Err, slice_get}
use Rattle.std.proofs.Common.{slice_set, refl, ap, ◌∙◌}
use Rattle.vocabulary.specs.declared.message_limit.MessageLimit.{MessageLimit}
use Rattle.vocabulary.specs.MessageLimits.{least}
use Rattle.engine_calls.specs.EngineState.{EngineState}
use Rattle.engine_calls.specs.declared.reply.Completion.{Completion}
use Rattle.proof_network_bridge.specs.WorldViews.{limit_in, opening_engines}
use Rattle.event_loop.specs.declared.runner.RunnerStep.{RunnerStep}
use Rattle.event_loop.specs.declared.runner.RunnerStep.TheVariants as steps
use Rattle.script_runner.specs.ScriptSteps.{ScriptState}
use Rattle.script_files.specs.declared.script.ScriptLine.{ScriptLine}
use Rattle.script_players.specs.Players.{PlayerState, told_completion}
use Rattle.script_plays.specs.Plays.{CallMoves, EventGives, GoGives, GoesBy, MoveGives, PlayState, ScheduleGives}
use Rattle.script_plays.specs.Plays.{StepMoves, play_opening, players_of, with_told}
use Rattle.engine_calls.specs.declared.call.Call.{Call}
use Rattle.event_loop.specs.declared.loop_state.RunnerState.{RunnerState}
use Rattle.event_loop.specs.declared.loop_state.RunnerState.TheVariants.{Blocked, Over, Ready}
use Rattle.script_plays.specs.declared.moves.Move.{Move}
use Rattle.script_plays.specs.declared.moves.Move.TheVariants as moves
use Rattle.world.specs.Steps.{IsRefusedBy, Went}
use Rattle.world.specs.WorldState.{WorldState}
use Rattle.world.specs.declared.event.Event.{Event}
use Rattle.world.specs.declared.event.Event.TheVariants as events
use Rattle.world.specs.declared.event.Failed.{Failed}
use Rattle.world.specs.declared.event.Stepped.{Stepped}

as_long : (es : List EngineState) (k : ℕ) (e : EngineState) → length (slice_set es k e) ≡ length es
as_long [] k e = refl
as_long (x ∷ es) zero e = refl
as_long (x ∷ es) (suc k) e = ap suc (as_long es k e)

went_size : (old : WorldState) (event : Event) (added : Stepped) (new : WorldState) → Went old event added new →
    length new.engines ≡ length old.engines
went_size old event added new w = ap length w.ran.others ∙ as_long old.engines w.ran.rank w.ran.next

-- what of a world's engines no event changes
abbrev IsKept : {A : Type 0} → (List EngineState → A) → Type 0
IsKept f =
    (old : WorldState) (event : Event) (added : Stepped) (new : WorldState) → Went old event added new →
    f new.engines ≡ f old.engines

refused_kept : {A : Type 0} (f : List EngineState → A) → IsKept f →
    (old : WorldState) (event : Event) (failed : Failed) (new : WorldState) →
    IsRefusedBy old event failed new → f new.engines ≡ f old.engines
refused_kept f kept old event failed new h = ap (λ (w : WorldState). f w.engines) h.unchanged

call_kept : {A : Type 0} (f : List EngineState → A) → IsKept f →
    (old : PlayState) (r : ℕ) (p : PlayerState) (s : ScriptState) (call : _) (result : Result Stepped Failed)
    (new : PlayState) → CallMoves old r p s call result new → f new.world.engines ≡ f old.world.engines
call_kept f kept old r p s call (Ok added) new g = ap (λ (x : PlayState). f x.world.engines) g.4 ∙
    kept old.world (events.Call r call) added g.0 g.1
call_kept f kept old r p s call (Err failed) new g = ap (λ (x : PlayState). f x.world.engines) g.4 ∙
    refused_kept f kept old.world (events.Call r call) failed g.0 g.2

step_kept : {A : Type 0} (f : List EngineState → A) → IsKept f →
    (old : PlayState) (r : ℕ) (p : PlayerState) (s : ScriptState) (step : RunnerStep) (new : PlayState) →
    StepMoves old r p s step new → f new.world.engines ≡ f old.world.engines
step_kept f kept old r p s (steps.Print line) new g = ap (λ (x : PlayState). f x.world.engines) g
step_kept f kept old r p s (steps.End status line) new g = ap (λ (x : PlayState). f x.world.engines) g
step_kept f kept old r p s (steps.Call call) new g = call_kept f kept old r p s call g.0 new g.1

go_kept : {A : Type 0} (f : List EngineState → A) → IsKept f →
    (old : PlayState) (r : ℕ) (p : PlayerState) (state : RunnerState Call) (new : PlayState) →
    GoesBy old r p state new →
    f new.world.engines ≡ f old.world.engines
go_kept f kept old r p (Ready reply) new g = step_kept f kept old r p g.1 g.0 new g.3
go_kept f kept old r p (Blocked call) new g = ap (λ (x : PlayState). f x.world.engines) g
go_kept f kept old r p (Over status line) new g = ap (λ (x : PlayState). f x.world.engines) g

may_kept : {A : Type 0} (f : List EngineState → A) → IsKept f →
    (old : PlayState) (r : ℕ) (p : Option PlayerState) (new : PlayState) → GoGives old r p new →
    f new.world.engines ≡ f old.world.engines
may_kept f kept old r None new g = ap (λ (x : PlayState). f x.world.engines) g
may_kept f kept old r (Some p) new g = go_kept f kept old r p p.state new g

event_kept : {A : Type 0} (f : List EngineState → A) → IsKept f →
    (event : Event) (old : PlayState) (result : Result Stepped Failed) (new : PlayState) →
    EventGives old event result new → f new.world.engines ≡ f old.world.engines
event_kept f kept event old (Ok added) new g = ap (λ (x : PlayState). f x.world.engines) g.2 ∙
    kept old.world event added g.0 g.1
event_kept f kept event old (Err failed) new g = ap (λ (x : PlayState). f x.world.engines) g.2 ∙
    refused_kept f kept old.world event failed g.0 g.1

move_kept : {A : Type 0} (f : List EngineState → A) → IsKept f →
    (m : Move) (old new : PlayState) → MoveGives old m new →
    f new.world.engines ≡ f old.world.engines
move_kept f kept (moves.Go r) old new g = may_kept f kept old r (slice_get old.players r) new g
move_kept f kept (moves.Deliver d) old new g = event_kept f kept (events.Deliver d) old g.0 new g.1
move_kept f kept (moves.Tick r now) old new g = event_kept f kept (events.Tick r now) old g.0 new g.1

schedule_kept : {A : Type 0} (f : List EngineState → A) → IsKept f →
    (ms : List Move) (old new : PlayState) → ScheduleGives old ms new →
    f new.world.engines ≡ f old.world.engines
schedule_kept f kept [] old new g = ap (λ (x : PlayState). f x.world.engines) g.0
schedule_kept f kept (m ∷ ms) old new g = schedule_kept f kept ms g.1.0 new g.1.2 ∙ move_kept f kept m old g.1.0 g.1.1

-- as many engines as there were
pub move_size : (m : Move) (old new : PlayState) → MoveGives old m new →
    length new.world.engines ≡ length old.world.engines
move_size m old new g = move_kept (λ es. length es) went_size m old new g

-- and their limit of messages
went_limit : (old : WorldState) (event : Event) (added : Stepped) (new : WorldState) → Went old event added new →
    limit_in new.engines ≡ limit_in old.engines
went_limit old event added new w = w.limit

-- that of scripts
opening_limit : (n k : ℕ) → limit_in (opening_engines least n 0 k) ≡ least
opening_limit n zero = refl
opening_limit n (suc k) = refl

pub limit_is : (scripts : List (List ScriptLine)) (schedule : List Move) (st : PlayState) →
    ScheduleGives (play_opening scripts) schedule st → limit_in st.world.engines ≡ least
limit_is scripts schedule st g =
    schedule_kept (λ es. limit_in es) went_limit schedule (play_opening scripts) st g ∙
    opening_limit (length scripts) (length scripts)

pub opening_size : (l : MessageLimit) (n rank k : ℕ) → length (opening_engines l n rank k) ≡ k
opening_size l n rank zero = refl
opening_size l n rank (suc k) = ap suc (opening_size l n (suc rank) k)

pub size_is : (scripts : List (List ScriptLine)) (schedule : List Move) (st : PlayState) →
    ScheduleGives (play_opening scripts) schedule st → length st.world.engines ≡ length scripts
size_is scripts schedule st g = schedule_kept (λ es. length es) went_size schedule (play_opening scripts) st g ∙
    opening_size least (length scripts) 0 (length scripts)

-- THE PLAYERS

set_long : (players : List PlayerState) (k : ℕ) (p : PlayerState) → length (slice_set players k p) ≡ length players
set_long [] k p = refl
set_long (x ∷ xs) zero p = refl
set_long (x ∷ xs) (suc k) p = ap suc (set_long xs k p)

told_long : (players : List PlayerState) (r : ℕ) (c : Option Completion) (o : Option PlayerState) →
    length (with_told players r c o) ≡ length players
told_long players r c None = refl
told_long players r c (Some p) = set_long players r (told_completion c p)

abbrev long : PlayState → ℕ
long x = length x.players

call_players : (old : PlayState) (r : ℕ) (p : PlayerState) (s : ScriptState) (call : _) (result : Result Stepped Failed)
    (new : PlayState) → CallMoves old r p s call result new → length new.players ≡ length old.players
call_players old r p s call (Ok added) new g = ap long g.4 ∙ set_long old.players r _
call_players old r p s call (Err failed) new g = ap long g.4 ∙ set_long old.players r _

step_players : (old : PlayState) (r : ℕ) (p : PlayerState) (s : ScriptState) (step : RunnerStep) (new : PlayState) →
    StepMoves old r p s step new → length new.players ≡ length old.players
step_players old r p s (steps.Print line) new g = ap long g ∙ set_long old.players r _
step_players old r p s (steps.End status line) new g = ap long g ∙ set_long old.players r _
step_players old r p s (steps.Call call) new g = call_players old r p s call g.0 new g.1

go_players : (old : PlayState) (r : ℕ) (p : PlayerState) (state : RunnerState Call) (new : PlayState) →
    GoesBy old r p state new →
    length new.players ≡ length old.players
go_players old r p (Ready reply) new g = step_players old r p g.1 g.0 new g.3
go_players old r p (Blocked call) new g = ap long g
go_players old r p (Over status line) new g = ap long g

may_players : (old : PlayState) (r : ℕ) (p : Option PlayerState) (new : PlayState) → GoGives old r p new →
    length new.players ≡ length old.players
may_players old r None new g = ap long g
may_players old r (Some p) new g = go_players old r p p.state new g

event_players : (event : Event) (old : PlayState) (result : Result Stepped Failed) (new : PlayState) →
    EventGives old event result new → length new.players ≡ length old.players
event_players event old (Ok added) new g =
    ap long g.2 ∙
    told_long old.players g.1.gave.endpoint.rank g.1.gave.completion (slice_get old.players g.1.gave.endpoint.rank)
event_players event old (Err failed) new g = ap long g.2

pub move_players : (m : Move) (old new : PlayState) → MoveGives old m new → length new.players ≡ length old.players
move_players (moves.Go r) old new g = may_players old r (slice_get old.players r) new g
move_players (moves.Deliver d) old new g = event_players (events.Deliver d) old g.0 new g.1
move_players (moves.Tick r now) old new g = event_players (events.Tick r now) old g.0 new g.1

pub begin_players : (k : ℕ) (scripts : List (List ScriptLine)) → length (players_of k scripts) ≡ length scripts
begin_players k [] = refl
begin_players k (script ∷ scripts) = ap suc (begin_players (suc k) scripts)
