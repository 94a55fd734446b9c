-- What a turn of a rank is.
use Rattle.std.specs.Prelude.{◌≡◌, ℕ, suc, ◌<◌, ◌⊎◌, List, [], ◌∷◌, ◌++◌, map, take, length, Bool, true, false, ◌||◌}
use Rattle.std.specs.Prelude.{is_some, Option, Some, None, Result, Ok, Err}
use Rattle.point_to_point_calls.specs.declared.refusal.Refusal.{Refusal}
use Rattle.engine_calls.specs.declared.reply.Reply.{Reply}
use Rattle.engine_calls.specs.declared.reply.Reply.TheVariants as replies
use Rattle.engine_calls.specs.EngineState.{EngineState, completion_of, without_completion, without_out}
use Rattle.engine_calls.specs.Calls.{CallGives}
use Rattle.engine.specs.Ticks.{TickGives, after_wait}
use Rattle.engine_calls.specs.declared.reply.Completion.{Completion}
use Rattle.replies.specs.Copies.{reply_of}
use Rattle.event_loop.specs.declared.exchange.Exchange.{Exchange}
use Rattle.event_loop.specs.declared.exchange.Exchange.TheVariants.{Nothing, Printed, Failed}
use Rattle.event_loop.specs.declared.runner.RunnerStep.{RunnerStep}
use Rattle.event_loop.specs.declared.runner.RunnerStep.TheVariants as steps
use Rattle.event_loop.specs.declared.loop_state.RunnerState.{RunnerState}
use Rattle.event_loop.specs.declared.loop_state.RunnerState.TheVariants.{Ready, Blocked, Over}
use Rattle.event_loop.specs.declared.loop_state.LoopState.{LoopState}
use Rattle.event_loop.specs.declared.loop_state.TurnResult.{TurnResult}
use Rattle.event_loop.specs.declared.transport.TransportFault.{TransportFault}
use Rattle.event_loop.specs.Input.{TakesIn, Word, after_all, nothing_heard, received}
use Rattle.event_loop.specs.RunnerLines.{Speaks}
use Rattle.event_loop.specs.Output.{sent}

-- the engine whose frames to each rank, from this one on, wait so long for their acknowledgements
abbrev pub with_waits : EngineState → (rank : ℕ) → List ℕ → EngineState
with_waits e rank [] = e
with_waits e rank (wait ∷ waits) = with_waits (after_wait e rank wait) (suc rank) waits

-- the same where these waits were told, of which those of the ranks of its job count
abbrev pub told_waits : EngineState → List ℕ → EngineState
told_waits e waits = with_waits e 0 (take e.sessions.place.size waits)

-- the clock of the engine ticks; a tick that is refused is dropped
abbrev pub TickLeaves : EngineState → ℕ → EngineState → Type 0
TickLeaves old now new = (r : Result (Unit {0}) Refusal) × TickGives old now r new

-- what the runner of a rank's loop waits for: of a blocked call nothing is kept
abbrev pub LoopRunner : Type 0
LoopRunner = RunnerState (Unit {0})

-- what the runner waits for, once this answer of a blocked call, or none, has come
abbrev pub state_with : LoopRunner → Option Completion → LoopRunner
state_with state None = state
state_with state (Some completion) = Ready (Some (reply_of completion))

-- a datagram came last, and something moved last, when they did before
abbrev pub IsSameTime : LoopState → LoopState → Type 0
IsSameTime old new = (new.heard ≡ old.heard) × (new.moved ≡ old.moved)

-- what a runner waits for whose call got this reply; where it is blocked, this is kept of it
abbrev pub state_after : {C : Type 0} → C → Reply → RunnerState C
state_after call replies.Blocked = Blocked call
state_after call reply = Ready (Some reply)

abbrev pub is_ready : LoopRunner → Bool
is_ready (Ready reply) = true
is_ready (Blocked call) = false
is_ready (Over status line) = false

-- the runner's call goes to the engine; its end is the end
abbrev pub TakesStep : EngineState → RunnerStep → LoopRunner → EngineState → Type 0
TakesStep old (steps.Call call) state new =
    (reply : Reply) × CallGives old call reply new × (state ≡ state_after tt reply)
TakesStep old (steps.Print line) state new = ⊥
TakesStep old (steps.End status line) state new = (state ≡ Over status line) × (new ≡ old)

-- where a call is blocked, or the runner has ended, nothing is done; else its lines come, and its next call or its end
abbrev pub GoesOn : {P : Type 0} → (P → Option Reply → RunnerStep → P → Type 0) → P → LoopRunner → List (List ℕ) →
    EngineState → LoopRunner → P → EngineState → Type 0
GoesOn does p (Ready reply) lines e state p' e' = (step : RunnerStep) × Speaks does p reply lines step p' ×
    TakesStep e step state e'
GoesOn does p (Blocked call) lines e state p' e' = (lines ≡ []) × (state ≡ Blocked call) × (p' ≡ p) × (e' ≡ e)
GoesOn does p (Over status line) lines e state p' e' = (lines ≡ []) × (state ≡ Over status line) × (p' ≡ p) × (e' ≡ e)

-- A line of a runner that goes on can't be printed
abbrev pub StopsAtLine : {P : Type 0} → (P → Option Reply → RunnerStep → P → Type 0) → P → LoopRunner → List (List ℕ) →
    P → Type 0
StopsAtLine does p (Ready reply) lines p' = (line : List ℕ) × Speaks does p reply lines (steps.Print line) p'
StopsAtLine does p (Blocked call) lines p' = ⊥
StopsAtLine does p (Over status line) lines p' = ⊥

abbrev pub GoesOnTo : {P T : Type 0} → (P → Option Reply → RunnerStep → P → Type 0) → (T → List Exchange → T → Type 0)
    → EngineState → P → LoopRunner → T → Result (Unit {0}) TransportFault → EngineState → P → LoopRunner → T → Type 0
GoesOnTo does passed e p state t (Ok x) e' p' state' t' =
    (lines : List (List ℕ)) × GoesOn does p state lines e state' p' e' × passed t (map Printed lines) t'
GoesOnTo does passed e p state t (Err f) e' p' state' t' =
    (lines : List (List ℕ)) × StopsAtLine does p state lines p' × (e' ≡ e) × (state' ≡ Ready None) ×
    passed t (map Printed lines ++ Failed ∷ []) t'

-- The engine up to its next call: it was told how long frames wait, its clock ticked, and it took in these datagrams.
pub record Listened (waits : List ℕ) (e : EngineState) (now : ℕ) (words : List Word) (e' : EngineState) : Type 0 where
  pub ticked : EngineState
  pub tick : TickLeaves (told_waits e waits) now ticked
  pub takes : TakesIn ticked words e'

-- A turn: how long frames wait is told, and the clock ticks; the datagrams that are there are taken in; the runner goes
-- on, unless its call is blocked; what the engine emitted is sent.
pub record IsTurn {P T : Type 0} (does : P → Option Reply → RunnerStep → P → Type 0) (passed : T → List Exchange → T →
    Type 0)
    (waits : T → List ℕ)
    (e : EngineState) (p : P) (state : LoopRunner) (t : T) (now : ℕ) (turned : TurnResult) (e' : EngineState) (p' : P)
    (state' : LoopRunner) (t' : T) : Type 0 where
  pub words : List Word
  pub heard : EngineState
  pub lines : List (List ℕ)
  pub called : EngineState
  pub listened : Listened (waits t) e now words heard
  pub goes : GoesOn does p (state_with state (completion_of heard)) lines (without_completion heard) state' p' called
  pub engine : e' ≡ without_out called
  pub passes : passed t ((map received words ++ Nothing ∷ []) ++ map Printed lines ++ map sent called.sessions.out) t'
  pub came : turned.came ≡ (after_all nothing_heard words).any
  pub moved : turned.moved ≡
      ((after_all nothing_heard words).accepted || is_some (completion_of heard) || is_ready state')

-- a turn that stops short: a receive failed
pub record StopsListening {P T : Type 0} (passed : T → List Exchange → T → Type 0)
    (waits : T → List ℕ)
    (e : EngineState) (p : P) (state : LoopRunner) (t : T) (now : ℕ) (e' : EngineState) (p' : P) (state' : LoopRunner)
    (t' : T) : Type 0 where
  pub words : List Word
  pub listened : Listened (waits t) e now words e'
  pub runner : p' ≡ p
  pub stays : state' ≡ state
  pub passes : passed t (map received words ++ Failed ∷ []) t'

-- a line can't be printed; its runner was told what it waited for
pub record StopsSpeaking {P T : Type 0} (does : P → Option Reply → RunnerStep → P → Type 0) (passed : T →
    List Exchange → T → Type 0)
    (waits : T → List ℕ)
    (e : EngineState) (p : P) (state : LoopRunner) (t : T) (now : ℕ) (e' : EngineState) (p' : P) (state' : LoopRunner)
    (t' : T) : Type 0 where
  pub words : List Word
  pub heard : EngineState
  pub lines : List (List ℕ)
  pub listened : Listened (waits t) e now words heard
  pub speaks : StopsAtLine does p (state_with state (completion_of heard)) lines p'
  pub engine : e' ≡ without_completion heard
  pub told : state' ≡ Ready None
  pub passes : passed t ((map received words ++ Nothing ∷ []) ++ map Printed lines ++ Failed ∷ []) t'

-- a datagram can't be sent
pub record StopsSending {P T : Type 0} (does : P → Option Reply → RunnerStep → P → Type 0) (passed : T → List Exchange →
    T → Type 0)
    (waits : T → List ℕ)
    (e : EngineState) (p : P) (state : LoopRunner) (t : T) (now : ℕ) (e' : EngineState) (p' : P) (state' : LoopRunner)
    (t' : T) : Type 0 where
  pub words : List Word
  pub heard : EngineState
  pub lines : List (List ℕ)
  pub called : EngineState
  pub gone : ℕ
  pub listened : Listened (waits t) e now words heard
  pub goes : GoesOn does p (state_with state (completion_of heard)) lines (without_completion heard) state' p' called
  pub engine : e' ≡ without_out called
  pub rest : gone < length called.sessions.out
  pub passes : passed t ((map received words ++ Nothing ∷ []) ++ map Printed lines ++
      map sent (take gone called.sessions.out) ++ Failed ∷ []) t'

-- what a turn gives: a whole one, or one that a fault stops short
abbrev pub TurnGives : {P T : Type 0} → (P → Option Reply → RunnerStep → P → Type 0) → (T → List Exchange → T → Type 0)
    → (T → List ℕ) → EngineState → P → LoopRunner → T → ℕ → Result TurnResult TransportFault → EngineState → P →
    LoopRunner → T → Type 0
TurnGives does passed waits e p state t now (Ok turned) e' p' state' t' =
    IsTurn does passed waits e p state t now turned e' p' state' t'
TurnGives does passed waits e p state t now (Err f) e' p' state' t' =
    StopsListening passed waits e p state t now e' p' state' t' ⊎
    (StopsSpeaking does passed waits e p state t now e' p' state' t' ⊎
    StopsSending does passed waits e p state t now e' p' state' t')
