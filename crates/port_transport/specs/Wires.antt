-- What a wire did.
use Rattle.std.specs.Prelude.{ℕ, List, [], ◌∷◌, take, Option, Some, None}
use Rattle.port_transport.specs.declared.wire.WireEvent.{WireEvent}
use Rattle.port_transport.specs.declared.wire.WireEvent.TheVariants.{Went, Came, Wrote}

-- what came in a receive
abbrev pub arrived : Option ℕ → List ℕ → List WireEvent
arrived None buffer = []
arrived (Some n) buffer = Came (take n buffer) ∷ []

-- a datagram: its port, or the rank that it goes to, and its bytes
abbrev pub Parcel : Type 0
Parcel = ℕ × List ℕ

-- the datagrams that went, in order
abbrev pub gone : List WireEvent → List Parcel
gone [] = []
gone (Went port bytes ∷ events) = (port, bytes) ∷ gone events
gone (Came bytes ∷ events) = gone events
gone (Wrote text ∷ events) = gone events

-- what came, in order
abbrev pub come : List WireEvent → List (List ℕ)
come [] = []
come (Went port bytes ∷ events) = come events
come (Came bytes ∷ events) = bytes ∷ come events
come (Wrote text ∷ events) = come events

-- what was written, in order
abbrev pub written : List WireEvent → List (List ℕ)
written [] = []
written (Went port bytes ∷ events) = written events
written (Came bytes ∷ events) = written events
written (Wrote text ∷ events) = text ∷ written events
