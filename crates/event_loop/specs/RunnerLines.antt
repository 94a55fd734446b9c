-- What it is that a runner goes on until its next call or its end.
use Rattle.std.specs.Prelude.{ℕ, List, [], ◌∷◌, ◌++◌, map, Option, None, Result, Ok, Err}
use Rattle.engine_calls.specs.declared.reply.Reply.{Reply}
use Rattle.event_loop.specs.declared.exchange.Exchange.{Exchange}
use Rattle.event_loop.specs.declared.exchange.Exchange.TheVariants.{Printed, Failed}
use Rattle.event_loop.specs.declared.runner.RunnerStep.{RunnerStep}
use Rattle.event_loop.specs.declared.runner.RunnerStep.TheVariants as steps
use Rattle.event_loop.specs.declared.transport.TransportFault.{TransportFault}

-- told a reply or none, a runner printed these lines and then did this
abbrev pub Speaks : {P : Type 0} → (P → Option Reply → RunnerStep → P → Type 0) → P → Option Reply → List (List ℕ) →
    RunnerStep → P → Type 0
Speaks does old reply [] step new = does old reply step new
Speaks {P = P} does old reply (line ∷ lines) step new =
    (mid : P) × does old reply (steps.Print line) mid × Speaks does mid None lines step new

abbrev pub IsNoLine : RunnerStep → Type 0
IsNoLine (steps.Call c) = Unit {0}
IsNoLine (steps.Print line) = ⊥
IsNoLine (steps.End status line) = Unit {0}

-- The lines go to the transport, in order, until a call or the end comes, or a line can't be printed
abbrev pub SpeaksTo : {P T : Type 0} → (P → Option Reply → RunnerStep → P → Type 0) → (T → List Exchange → T → Type 0)
    → P → T → Option Reply → Result RunnerStep TransportFault → P → T → Type 0
SpeaksTo does passed p t reply (Ok step) p' t' =
    (lines : List (List ℕ)) × Speaks does p reply lines step p' × IsNoLine step × passed t (map Printed lines) t'
SpeaksTo does passed p t reply (Err f) p' t' =
    (lines : List (List ℕ)) × ((line : List ℕ) × Speaks does p reply lines (steps.Print line) p') ×
    passed t (map Printed lines ++ Failed ∷ []) t'
