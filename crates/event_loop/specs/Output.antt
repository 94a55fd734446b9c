-- What it is to send what an engine emitted.
use Rattle.std.specs.Prelude.{ℕ, ◌<◌, List, [], ◌∷◌, ◌++◌, map, take, length, Result, Ok, Err}
use Rattle.event_loop.specs.declared.exchange.Exchange.{Exchange}
use Rattle.event_loop.specs.declared.exchange.Exchange.TheVariants.{Sent, Failed}
use Rattle.event_loop.specs.declared.transport.TransportFault.{TransportFault}

abbrev pub sent : ℕ × List ℕ → Exchange
sent d = Sent d.0 d.1

-- All of it goes to the transport, in order; or those before one that can't be sent
abbrev pub SendsAll : {T : Type 0} → (T → List Exchange → T → Type 0) → T → List (ℕ × List ℕ) →
    Result (Unit {0}) TransportFault → T → Type 0
SendsAll passed t out (Ok x) t' = passed t (map sent out) t'
SendsAll passed t out (Err f) t' = (k : ℕ) × (k < length out) × passed t (map sent (take k out) ++ Failed ∷ []) t'
