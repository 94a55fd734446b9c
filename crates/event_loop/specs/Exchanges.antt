-- What passes between a rank and its transport.
use Rattle.std.specs.Prelude.{◌≡◌, ℕ, ◌<◌, Bool, true, false, List, [], ◌∷◌, take, Option, Some, None, Result, Ok, Err}
use Rattle.event_loop.specs.declared.exchange.Exchange.{Exchange}
use Rattle.event_loop.specs.declared.exchange.Exchange.TheVariants.{Received, Nothing, Waited, Failed}
use Rattle.event_loop.specs.declared.transport.TransportFault.{TransportFault}

-- what passed in a receive
abbrev pub receipt : Result (Option ℕ) TransportFault → List ℕ → Exchange
receipt (Ok (Some n)) buffer = Received (take n buffer)
receipt (Ok None) buffer = Nothing
receipt (Err e) buffer = Failed

-- what passed in a call that does this
abbrev pub parcel : Result (Unit {0}) TransportFault → Exchange → Exchange
parcel (Ok x) handed = handed
parcel (Err e) handed = Failed

-- what passed where a rank goes on at once, or else waits for a datagram, for so many milliseconds at most
abbrev pub rested : (at_once : Bool) → (most : ℕ) → Result (Unit {0}) TransportFault → List Exchange
rested true most result = []
rested false most result = parcel result (Waited most) ∷ []

-- the number of failures rises exactly where a fault is answered
abbrev pub FailsWith : {X : Type 0} → Result X TransportFault → ℕ → ℕ → Type 0
FailsWith (Ok x) before after = after ≡ before
FailsWith (Err e) before after = before < after
