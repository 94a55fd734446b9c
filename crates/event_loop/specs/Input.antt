-- What it is to take in the datagrams that are there.
use Rattle.std.specs.Prelude.{◌≡◌, ℕ, List, [], ◌∷◌, ◌++◌, map, Bool, true, false, ◌||◌, Result, Ok, Err}
use Rattle.point_to_point_calls.specs.declared.refusal.Refusal.{Refusal}
use Rattle.engine_calls.specs.EngineState.{EngineState}
use Rattle.engine.specs.Datagrams.{DatagramGives}
use Rattle.event_loop.specs.declared.exchange.Exchange.{Exchange}
use Rattle.event_loop.specs.declared.exchange.Exchange.TheVariants.{Received, Nothing, Failed}
use Rattle.event_loop.specs.declared.transport.TransportFault.{TransportFault}
use Rattle.event_loop.specs.declared.input.Input.{Input}

-- a datagram that came, and what the engine answered
abbrev pub Word : Type 0
Word = List ℕ × Result (Unit {0}) Refusal

abbrev pub is_taken : Result (Unit {0}) Refusal → Bool
is_taken (Ok x) = true
is_taken (Err e) = false

-- the engine took in these datagrams, in order; those that it refused are dropped
abbrev pub TakesIn : EngineState → List Word → EngineState → Type 0
TakesIn old [] new = new ≡ old
TakesIn old (w ∷ ws) new = (mid : EngineState) × DatagramGives old w.0 w.1 mid × TakesIn mid ws new

-- what came, once one more has
abbrev pub after_one : Input → Result (Unit {0}) Refusal → Input
after_one h r = record { any = true; accepted = h.accepted || is_taken r }

-- what came, once these have
abbrev pub after_all : Input → List Word → Input
after_all h [] = h
after_all h (w ∷ ws) = after_all (after_one h w.1) ws

abbrev pub nothing_heard : Input
nothing_heard = record { any = false; accepted = false }

abbrev pub received : Word → Exchange
received w = Received w.0

-- the transport gave these datagrams and then this, and the engine took the datagrams in
pub record Hears {T : Type 0} (passed : T → List Exchange → T → Type 0) (e : EngineState) (t : T) (words : List Word)
    (last : Exchange) (e' : EngineState) (t' : T) : Type 0 where
  pub takes : TakesIn e words e'
  pub passes : passed t (map received words ++ last ∷ []) t'

-- All datagrams that are there are taken in, until there is none, or a receive fails
abbrev pub ListensTo : {T : Type 0} → (T → List Exchange → T → Type 0) → EngineState → T → Result Input TransportFault →
    EngineState → T → Type 0
ListensTo passed e t (Ok h) e' t' = (words : List Word) × Hears passed e t words Nothing e' t' ×
    (h ≡ after_all nothing_heard words)
ListensTo passed e t (Err f) e' t' = (words : List Word) × Hears passed e t words Failed e' t'
