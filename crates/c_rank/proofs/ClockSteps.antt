-- How long frames wait, told rank by rank; datagrams that go out, one after the other.
use Rattle.std.proofs.Common.{◌≡◌, ℕ, zero, suc, ◌+◌, ◌<◌, ◌≤◌, Bool, List, [], ◌∷◌, ◌++◌, length, take, arith}
use Rattle.std.proofs.Common.{refl, sym, ap, ◌∙◌}
use Rattle.std.specs.Prelude.{slice_get, slice_index_or, Some, None}
use Rattle.std.proofs.lemmas.List.{length-take, take_all, take_more}
use Rattle.std.specs.Option.{option_map}
use Rattle.std.proofs.lemmas.Option.{get_or_from_slice_get, slice_get-map, slice_get_within}
use Rattle.datagram.specs.ByteMeanings.{datagram_of}
use Rattle.engine.specs.Ticks.{after_wait}
use Rattle.engine_calls.specs.EngineState.{EngineState}
use Rattle.port_transport.specs.Wires.{Parcel}
use Rattle.round_trips.specs.Trips.{after_sent}
use Rattle.round_trips.specs.declared.round_trip.RoundTrip.{RoundTrip}
use Rattle.c_rank.specs.Clocks.{after_all, wait_told, waits_in, with_waits}

-- what is told of a rank stands in its place
pub wait_there : (b : Bool) (trips : List RoundTrip) (rank : ℕ) → option_map (wait_told b) (slice_get trips rank) ≡
    slice_get (waits_in b trips) rank
wait_there b trips rank = sym (slice_get-map (wait_told b) trips rank)

with_more : (e : EngineState) (r : ℕ) (ws : List ℕ) (w : ℕ) →
    with_waits e r (ws ++ w ∷ []) ≡ after_wait (with_waits e r ws) (r + length ws) w
with_more e r [] w = ap (λ (n : ℕ). after_wait e n w) (omega arith)
with_more e r (v ∷ ws) w =
    with_more (after_wait e r v) (suc r) ws w
    ∙ ap (λ (n : ℕ). after_wait (with_waits (after_wait e r v) (suc r) ws) n w) (omega arith)

-- one rank more was told
pub told_more : (e : EngineState) (ws : List ℕ) (i w : ℕ) → slice_get ws i ≡ Some w →
    with_waits e 0 (take (i + 1) ws) ≡ after_wait (with_waits e 0 (take i ws)) i w
told_more e ws i w is =
    let within : i < length ws = slice_get_within ws i w is in
    let count : 0 + length (take i ws) ≡ i = omega (arith, length-take i ws) in
    let last : List ℕ → List ℕ = λ vs. take i ws ++ vs in
    let front : take (i + 1) ws ≡ take i ws ++ w ∷ [] =
    take_more ws i w within ∙ ap (λ (v : ℕ). last (v ∷ [])) (get_or_from_slice_get ws i w w is) in
    ap (with_waits e 0) front
    ∙ with_more e 0 (take i ws) w
    ∙ ap (λ (n : ℕ). after_wait (with_waits e 0 (take i ws)) n w) count

past : (ws : List ℕ) (i : ℕ) → slice_get ws i ≡ None → length ws ≤ i
past [] i none = omega arith
past (w ∷ ws) zero none = absurd cc
past (w ∷ ws) (suc i) none =
    let le : length ws ≤ i = past ws i none in
    omega arith

-- all ranks were told of which something is known
pub told_all : (e : EngineState) (ws : List ℕ) (i n : ℕ) → i ≤ n → slice_get ws i ≡ None →
    with_waits e 0 (take i ws) ≡ with_waits e 0 (take n ws)
told_all e ws i n le none =
    let far : length ws ≤ i = past ws i none in
    ap (with_waits e 0) (take_all i ws far ∙ sym (take_all n ws (omega arith)))

all_more : (trips : List RoundTrip) (out : List Parcel) (p : Parcel) (now : ℕ) →
    after_all trips (out ++ p ∷ []) now ≡ after_sent (after_all trips out now) (datagram_of p.1) now
all_more trips [] p now = refl
all_more trips (q ∷ out) p now = all_more (after_sent trips (datagram_of q.1) now) out p now

-- one datagram more went out
pub sent_more : (trips : List RoundTrip) (out : List Parcel) (i : ℕ) (p : Parcel) (now : ℕ) → i < length out →
    p ≡ slice_index_or out i p →
    after_all trips (take (i + 1) out) now ≡ after_sent (after_all trips (take i out) now) (datagram_of p.1) now
sent_more trips out i p now within is =
    let last : List Parcel → List Parcel = λ vs. take i out ++ vs in
    let front : take (i + 1) out ≡ take i out ++ p ∷ [] =
    take_more out i p within ∙ ap (λ (v : Parcel). last (v ∷ [])) (sym is) in
    ap (λ (l : List Parcel). after_all trips l now) front
    ∙ all_more trips (take i out) p now
