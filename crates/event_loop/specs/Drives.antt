-- What it is to drive a rank: turn after turn, until it ends.
use Rattle.std.specs.Prelude.{◌≡◌, ℕ, ◌-◌, ◌⊎◌, ◌↔◌, ◌==◌, nat_le, min, max, List, [], ◌∷◌, ◌++◌, Bool, true, ◌&&◌, All}
use Rattle.std.specs.Prelude.{IsTrue, Option, Some, None, Result, Ok, Err, IsOk, if◌then◌else◌}
use Rattle.engine_calls.specs.declared.reply.Reply.{Reply}
use Rattle.engine_calls.specs.EngineState.{EngineState}
use Rattle.sessions.specs.Peers.{IsIdlePeer}
use Rattle.event_loop.specs.declared.exchange.Exchange.{Exchange}
use Rattle.event_loop.specs.declared.runner.RunnerStep.{RunnerStep}
use Rattle.event_loop.specs.declared.round.Ended.{Ended}
use Rattle.event_loop.specs.declared.round.Ended.TheVariants as ends
use Rattle.event_loop.specs.declared.loop_state.RunnerState.TheVariants.{Ready, Blocked, Over}
use Rattle.event_loop.specs.declared.loop_state.LoopState.{LoopState}
use Rattle.event_loop.specs.declared.loop_state.TurnResult.{TurnResult}
use Rattle.event_loop.specs.declared.transport.TransportFault.{TransportFault}
use Rattle.event_loop.specs.Exchanges.{rested}
use Rattle.event_loop.specs.Turns.{IsTurn, LoopRunner, TurnGives, is_ready}

-- it gives up once nothing moved for so long
abbrev pub patience_ends : (patience still : ℕ) → Option Ended
patience_ends patience still = if nat_le patience still then Some ends.Patience else None

-- the status of the program of a rank that ended so
abbrev pub status_of : Ended → ℕ
status_of (ends.Runner status line) = status
status_of ends.Patience = 4

-- Whether a rank ends, where no datagram came for `quiet` and nothing moved for `still` milliseconds. Where its script
-- came to its end it stays until nothing is unacknowledged and no datagram came for 100 ms; any other end of the runner
-- is at once.
abbrev pub ending_of : LoopRunner → (idle : Bool) → (patience quiet still : ℕ) → Option Ended
ending_of (Ready reply) idle patience quiet still = patience_ends patience still
ending_of (Blocked call) idle patience quiet still = patience_ends patience still
ending_of (Over status line) idle patience quiet still =
    if status == 0 then
    (if idle && nat_le 100 quiet then Some (ends.Runner status line) else patience_ends patience still)
    else Some (ends.Runner status line)

-- how long a rank of which nothing is unacknowledged waits at most, whose patience lasts so long: a script that came to
-- its end until no datagram came for 100 ms
abbrev pub wait_at_rest : LoopRunner → (over quiet : ℕ) → ℕ
wait_at_rest (Ready reply) over quiet = over
wait_at_rest (Blocked call) over quiet = over
wait_at_rest (Over status line) over quiet = min (max (100 - quiet) 1) over

-- For how many milliseconds a rank that goes on waits at most for a datagram: while something is unacknowledged for 5,
-- so that it is sent again in time, and never for longer than its patience lasts.
abbrev pub wait_of : LoopRunner → (idle : Bool) → (patience quiet still : ℕ) → ℕ
wait_of state idle patience quiet still =
    if idle then wait_at_rest state (max (patience - still) 1) quiet else min 5 (max (patience - still) 1)

-- by whether no frame of the engine waits or is unacknowledged
abbrev pub EndsAs : (patience : ℕ) → EngineState → LoopState → (now : ℕ) → Option Ended → Type 0
EndsAs patience e s now ended =
    (idle : Bool) × (IsTrue idle ↔ All IsIdlePeer e.sessions.peers) ×
    (ending_of s.runner idle patience (now - s.heard) (now - s.moved) ≡ ended)

-- a rank between two turns
pub record Course (P T : Type 0) : Type 0 where
  pub engine : EngineState
  pub runner : P
  pub state : LoopState
  pub transport : T

-- a rank makes a turn at this time
pub record MakesTurn {P T : Type 0} (does : P → Option Reply → RunnerStep → P → Type 0) (passed : T → List Exchange →
    T → Type 0)
    (waits : T → List ℕ) (a : Course P T) (now : ℕ) (b : Course P T) : Type 0 where
  pub turned : TurnResult
  pub turn : IsTurn does passed waits a.engine a.runner a.state.runner a.transport now turned b.engine b.runner
      b.state.runner b.transport
  pub heard : b.state.heard ≡ (if turned.came then now else a.state.heard)
  pub moved : b.state.moved ≡ (if turned.moved then now else a.state.moved)

-- A rank goes on behind a turn that left its transport so: at once where its runner may, and else once it has waited for
-- a datagram.
pub record Rests {T : Type 0} (passed : T → List Exchange → T → Type 0) (patience : ℕ) (e : EngineState) (s : LoopState)
    (now : ℕ) (mid : T) (result : Result (Unit {0}) TransportFault) (t : T) : Type 0 where
  pub idle : Bool
  pub is_idle : IsTrue idle ↔ All IsIdlePeer e.sessions.peers
  pub lasts : ending_of s.runner idle patience (now - s.heard) (now - s.moved) ≡ None
  pub passes : passed mid
      (rested (is_ready s.runner) (wait_of s.runner idle patience (now - s.heard) (now - s.moved)) result) t
  pub at_once : is_ready s.runner ≡ true → (t ≡ mid) × IsOk result

-- A turn, after which the rank ends, or goes on. A fault of the transport stops the turn short, or comes in the wait
-- behind it.
abbrev pub RoundGives : {P T : Type 0} → (P → Option Reply → RunnerStep → P → Type 0) → (T → List Exchange → T → Type 0)
    → (T → List ℕ) → (patience : ℕ) → Course P T → (now : ℕ) → Result (Option Ended) TransportFault → EngineState → P →
    LoopState → T → Type 0
RoundGives {T = T} does passed waits patience a now (Ok None) e p s t =
    (mid : T) × MakesTurn does passed waits a now (record { engine = e; runner = p; state = s; transport = mid })
    × Rests passed patience e s now mid (Ok tt) t
RoundGives does passed waits patience a now (Ok (Some ended)) e p s t =
    MakesTurn does passed waits a now (record { engine = e; runner = p; state = s; transport = t }) ×
    EndsAs patience e s now (Some ended)
RoundGives {T = T} does passed waits patience a now (Err f) e p s t =
    (TurnGives does passed waits a.engine a.runner a.state.runner a.transport now (Err f) e p s.runner t
    × (s.heard ≡ a.state.heard) × (s.moved ≡ a.state.moved)) ⊎
    ((mid : T) × MakesTurn does passed waits a now (record { engine = e; runner = p; state = s; transport = mid })
    × Rests passed patience e s now mid (Err f) t)

-- a clock told these times, in order
abbrev pub Tells : {C : Type 0} → (C → ℕ → C → Type 0) → C → List ℕ → C → Type 0
Tells told a [] b = b ≡ a
Tells {C = C} told a (now ∷ nows) b = (mid : C) × told a now mid × Tells told mid nows b

-- rounds at these times, one after the other
abbrev pub Rounds : {P T : Type 0} → (P → Option Reply → RunnerStep → P → Type 0) → (T → List Exchange → T → Type 0)
    → (T → List ℕ) → ℕ → Course P T → List ℕ → Course P T → Type 0
Rounds does passed waits patience a [] b = b ≡ a
Rounds {P = P} {T = T} does passed waits patience a (now ∷ nows) b =
    (mid : Course P T) ×
    RoundGives does passed waits patience a now (Ok None) mid.engine mid.runner mid.state mid.transport
    × Rounds does passed waits patience mid nows b

-- a rank at its start, at this time
abbrev pub course_at : {P T : Type 0} → ℕ → EngineState → P → T → Course P T
course_at now e p t =
    record { engine = e; runner = p; state = record { runner = Ready None; heard = now; moved = now }; transport = t }

-- what the last round gave
abbrev pub last_of : Result Ended TransportFault → Result (Option Ended) TransportFault
last_of (Ok ended) = Ok (Some ended)
last_of (Err f) = Err f

-- From this course on the clock tells the time of each round; there are rounds that go on, and a last one.
pub record DrivesOn {P T C : Type 0} (does : P → Option Reply → RunnerStep → P → Type 0) (passed : T → List Exchange →
    T → Type 0)
    (waits : T → List ℕ) (told : C → ℕ → C → Type 0) (patience : ℕ)
    (from : Course P T) (c : C) (result : Result Ended TransportFault)
    (e' : EngineState) (p' : P) (s' : LoopState) (t' : T) (c' : C) : Type 0 where
  pub times : List ℕ
  pub now : ℕ
  pub course : Course P T
  pub clock : Tells told c (times ++ now ∷ []) c'
  pub rounds_on : Rounds does passed waits patience from times course
  pub last : RoundGives does passed waits patience course now (last_of result) e' p' s' t'

-- The clock tells the time of the start and of each round; there are rounds that go on, and a last one.
pub record Drives {P T C : Type 0} (does : P → Option Reply → RunnerStep → P → Type 0) (passed : T → List Exchange → T →
    Type 0)
    (waits : T → List ℕ) (told : C → ℕ → C → Type 0) (patience : ℕ) (e : EngineState) (p : P) (t : T) (c : C)
    (result : Result Ended TransportFault)
    (e' : EngineState) (p' : P) (t' : T) (c' : C) : Type 0 where
  pub start : ℕ
  pub times : List ℕ
  pub now : ℕ
  pub course : Course P T
  pub state : LoopState
  pub clock : Tells told c ((start ∷ times) ++ now ∷ []) c'
  pub rounds_on : Rounds does passed waits patience (course_at start e p t) times course
  pub last : RoundGives does passed waits patience course now (last_of result) e' p' state t'
