-- What the engine of a rank is told of the time, and what goes out by the round trips that were measured.
use Rattle.std.specs.Prelude.{ℕ, suc, Bool, true, false, List, [], ◌∷◌, filter, map, take, Result, Ok, Err}
use Rattle.datagram.specs.ByteMeanings.{datagram_of}
use Rattle.engine.specs.Ticks.{after_wait}
use Rattle.engine_calls.specs.EngineState.{EngineState}
use Rattle.point_to_point_calls.specs.declared.refusal.Refusal.{Refusal}
use Rattle.port_transport.specs.Wires.{Parcel}
use Rattle.round_trips.specs.Trips.{after_came, after_sent, may_go, wait_now}
use Rattle.round_trips.specs.declared.round_trip.RoundTrip.{RoundTrip}

-- how long frames to a rank wait for their acknowledgements: without end where nothing may go again
abbrev pub wait_told : (may_repeat : Bool) → RoundTrip → ℕ
wait_told true t = wait_now t
wait_told false t = 18446744073709551615

-- the same to each rank, from rank 0 on
abbrev pub waits_in : (may_repeat : Bool) → List RoundTrip → List ℕ
waits_in may_repeat trips = map (wait_told may_repeat) trips

-- frames to the ranks from this one on wait so long
abbrev pub with_waits : EngineState → (rank : ℕ) → List ℕ → EngineState
with_waits e rank [] = e
with_waits e rank (wait ∷ waits) = with_waits (after_wait e rank wait) (suc rank) waits

-- frames to the ranks of the job wait so long
abbrev pub told_waits : EngineState → List ℕ → EngineState
told_waits e waits = with_waits e 0 (take e.sessions.place.size waits)

-- the datagrams that may go now: all but frames that go again and are to wait
abbrev pub going : List RoundTrip → List Parcel → List Parcel
going trips out = filter (λ p. may_go trips (datagram_of p.1)) out

-- what is known of round trips once these datagrams went out, at this time in microseconds
abbrev pub after_all : List RoundTrip → List Parcel → (now : ℕ) → List RoundTrip
after_all trips [] now = trips
after_all trips (p ∷ out) now = after_all (after_sent trips (datagram_of p.1) now) out now

-- what is known of them behind a datagram that the engine took or refused
abbrev pub trips_behind : Result (Unit {0}) Refusal → List RoundTrip → (bytes : List ℕ) → (now : ℕ) → List RoundTrip
trips_behind (Ok done) trips bytes now = after_came trips (datagram_of bytes) now
trips_behind (Err refused) trips bytes now = trips
