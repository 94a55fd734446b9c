-- A rank that goes on, as a move.
use Rattle.std.proofs.Common.{◌≡◌, ℕ, zero, suc, ◌<◌, List, [], ◌∷◌, ◌++◌, length, Option, Some, None, Result, Ok, Err}
use Rattle.std.proofs.Common.{slice_get, slice_set, refl, sym, ap, ap₂, ◌∙◌, arith}
use Rattle.std.proofs.lemmas.Option.{none-some, same_Some}
use Rattle.engine_calls.specs.declared.call.Call.{Call}
use Rattle.event_loop.specs.declared.runner.RunnerStep.{RunnerStep}
use Rattle.event_loop.specs.declared.runner.RunnerStep.TheVariants as steps
use Rattle.script_players.specs.Players.{CallGoes, GoesFrom, PlayerGoes, PlayerState, StepGoes}
use Rattle.script_plays.specs.Plays.{CallMoves, GoGives, GoesBy, PlayState, StepMoves}
use Rattle.event_loop.specs.declared.loop_state.RunnerState.{RunnerState}
use Rattle.event_loop.specs.declared.loop_state.RunnerState.TheVariants.{Blocked, Over, Ready}
use Rattle.script_runner.specs.ScriptSteps.{ScriptState}
use Rattle.world.specs.WorldState.{WorldState}
use Rattle.world.specs.declared.event.Failed.{Failed}
use Rattle.world.specs.declared.event.Stepped.{Stepped}

pub set_same : (players : List PlayerState) (r : ℕ) (a : PlayerState) → slice_get players r ≡ Some a →
    slice_set players r a ≡ players
set_same [] r a h = refl
set_same (x ∷ xs) zero a h = ap (λ (y : PlayerState). y ∷ xs) (sym (same_Some x a h))
set_same (x ∷ xs) (suc r) a h = ap (λ (ys : List PlayerState). x ∷ ys) (set_same xs r a h)

-- a play in which the player of a rank stands so
abbrev pub put : List PlayerState → ℕ → WorldState → PlayerState → PlayState
put players r w q = record { world = w; players = slice_set players r q }

call_moves : (w v : WorldState) (players : List PlayerState) (r : ℕ) (p q : PlayerState) (s : ScriptState) (call : Call)
    (answer : Result Stepped Failed) →
    CallGoes w r call answer (record p { runner = s; state = Ready None }) v q →
    CallMoves (record { world = w; players = players }) r p s call answer (put players r v q)
call_moves w v players r p q s call (Ok added) g = (v, g.0, g.1, g.2, ap (put players r v) g.3)
call_moves w v players r p q s call (Err failed) g = (v, g.0, g.1, g.2, ap (put players r v) g.3)

step_moves : (w v : WorldState) (players : List PlayerState) (r : ℕ) (p q : PlayerState) (s : ScriptState)
    (step : RunnerStep) →
    StepGoes w r step (record p { runner = s; state = Ready None }) v q →
    StepMoves (record { world = w; players = players }) r p s step (put players r v q)
step_moves w v players r p q s (steps.Print line) g = ap₂ (put players r) g.0 g.1
step_moves w v players r p q s (steps.End status line) g = ap₂ (put players r) g.0 g.1
step_moves w v players r p q s (steps.Call call) g = (g.0, call_moves w v players r p q s call g.0 g.1)

pub goes_so : (w v : WorldState) (players : List PlayerState) (r : ℕ) (p q : PlayerState) →
    slice_get players r ≡ Some p → PlayerGoes w r p v q →
    GoGives (record { world = w; players = players }) r (Some p) (put players r v q)
goes_so w v players r p q is g = by p.state g
  where
    by : (state : RunnerState Call) → GoesFrom w r p state v q →
        GoesBy (record { world = w; players = players }) r p state (put players r v q)
    by (Ready told) h = (h.0, h.1, h.2, step_moves w v players r p q h.1 h.0 h.3)
    by (Blocked call) h = ap₂ (put players r) h.0 h.1 ∙ ap (λ (ps : List PlayerState). record { world = w; players = ps })
        (set_same players r p is)
    by (Over status line) h = ap₂ (put players r) h.0 h.1 ∙
        ap (λ (ps : List PlayerState). record { world = w; players = ps }) (set_same players r p is)
