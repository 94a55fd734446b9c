-- How long frames wait by the round trips that were measured.
use Rattle.std.proofs.Common.{◌≡◌, ℕ, List, map, sym}
use Rattle.std.specs.Prelude.{slice_get}
use Rattle.std.specs.Option.{option_map}
use Rattle.std.proofs.lemmas.Option.{slice_get-map}
use Rattle.round_trips.specs.Trips.{wait_now}
use Rattle.round_trips.specs.declared.round_trip.RoundTrip.{RoundTrip}

-- how long frames to each rank are to wait, from rank 0 on
abbrev pub waits_in : List RoundTrip → List ℕ
waits_in trips = map wait_now trips

-- what is told of a rank stands in its place there
pub wait_there : (trips : List RoundTrip) (rank : ℕ) → option_map wait_now (slice_get trips rank) ≡
    slice_get (waits_in trips) rank
wait_there trips rank = sym (slice_get-map wait_now trips rank)
