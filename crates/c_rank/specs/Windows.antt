-- What goes out of what the engine of a rank emitted, where windows bound what is on its way. `None`: nothing does.
use Rattle.std.specs.Prelude.{◌==◌, ℕ, zero, suc, List, [], ◌∷◌, filter, not, slice_get, Bool, true, false, if◌then◌else◌}
use Rattle.std.specs.Prelude.{Option, Some, None, Result, Ok, Err, ◌+◌, ◌-◌, ◌*◌, ◌||◌, min, nat_le}
use Rattle.congestion_windows.specs.Flights as flights
use Rattle.congestion_windows.specs.Flights.{WindowsState, after_offer, asked, asks_in, is_new, withholds}
use Rattle.congestion_windows.specs.Windows.{limits_of}
use Rattle.datagram.specs.ByteMeanings.{datagram_of}
use Rattle.engine.specs.Ticks.{after_wait}
use Rattle.engine_calls.specs.EngineState.{EngineState}
use Rattle.point_to_point_calls.specs.declared.refusal.Refusal.{Refusal}
use Rattle.port_transport.specs.Wires.{Parcel}
use Rattle.round_trips.specs.declared.round_trip.RoundTrip.{RoundTrip}
use Rattle.c_rank.specs.Clocks.{going}
use Rattle.c_rank.specs.declared.records.PlaceRecord.{PlaceRecord}

-- ---- which there are

-- a rank has windows, in which nothing is on its way, where it is told how many bytes its socket keeps
abbrev pub opened : PlaceRecord → Option WindowsState
opened p = if p.room == 0 then None else Some (flights.opening (limits_of p.frame_limit p.room p.size) p.size)

-- so many bytes are on their way to a rank at most: each other one has 64 frames out, of as many bytes as a datagram has
abbrev pub most_under_way : (frame size : ℕ) → ℕ
most_under_way frame size = (frame + 208) * 64 * (size - 1)

-- What a rank is told that its socket keeps. Of ranks at several addresses it is what the system says, or 0. On one
-- machine nothing but the sockets loses what came: there is no need of windows where a socket keeps all that may be on
-- its way to a rank; where it doesn't, they are bounded by what is lost alone.
abbrev pub room_told : (is_apart : Bool) → (kept frame size : ℕ) → ℕ
room_told true kept frame size = kept
room_told false kept frame size =
    if kept == 0 || nat_le (most_under_way frame size) kept then 0 else min (most_under_way frame size) 4294967295

-- ---- what goes now

-- what is on its way once these datagrams were offered, one after the other
abbrev pub offered_all : WindowsState → List Parcel → WindowsState
offered_all w [] = w
offered_all w (p ∷ out) = offered_all (after_offer w p.1) out

-- the datagrams that go of them: all but those that are answered or deferred then
abbrev pub admitted_within : WindowsState → List Parcel → List Parcel
admitted_within w out = filter (λ p. not (withholds (offered_all w out) (datagram_of p.1))) out

-- the same of a rank that may have no windows: then all go, and nothing else is said
abbrev pub offered : Option WindowsState → List Parcel → Option WindowsState
offered None out = None
offered (Some w) out = Some (offered_all w out)

abbrev pub admitted : Option WindowsState → List Parcel → List Parcel
admitted None out = out
admitted (Some w) out = admitted_within w out

-- ---- what comes

-- an acknowledgement that the engine takes tells what isn't on its way any more
abbrev pub came : Option WindowsState → (bytes : List ℕ) → Option WindowsState
came None bytes = None
came (Some w) bytes = Some (flights.after_came w (datagram_of bytes))

abbrev pub windows_behind : Result (Unit {0}) Refusal → Option WindowsState → (bytes : List ℕ) → Option WindowsState
windows_behind (Ok done) windows bytes = came windows bytes
windows_behind (Err refused) windows bytes = windows

-- ---- what was deferred

-- whether acknowledgements made room for what is deferred
abbrev pub asks : Option WindowsState → Bool
asks None = false
asks (Some w) = w.asks

-- frames to a rank don't wait, if there may be room for those that are deferred
abbrev pub with_ask : EngineState → (rank : ℕ) → Bool → EngineState
with_ask e rank true = after_wait e rank 0
with_ask e rank false = e

-- the same of the first ranks
abbrev pub with_asks : EngineState → WindowsState → (count : ℕ) → EngineState
with_asks e w zero = e
with_asks e w (suc rank) = with_ask (with_asks e w rank) rank (asks_in (slice_get w.flights rank))

-- the same of all ranks of its job
abbrev pub told_asks : EngineState → Option WindowsState → EngineState
told_asks e None = e
told_asks e (Some w) = with_asks e w e.sessions.place.size

-- the datagrams that are no frames that went before
abbrev pub new_in : WindowsState → List Parcel → List Parcel
new_in w out = filter (λ p. is_new w (datagram_of p.1)) out

-- what goes of what the engine emits once it was asked for what is deferred: what didn't go before and has room
abbrev pub released : Option WindowsState → List Parcel → List Parcel
released None out = out
released (Some w) out = admitted_within (asked w) (new_in (asked w) out)

-- and what is on its way then
abbrev pub released_to : Option WindowsState → List Parcel → Option WindowsState
released_to None out = None
released_to (Some w) out = Some (offered_all (asked w) (new_in (asked w) out))

-- What goes of what was emitted: since the engine was asked for what is deferred; or else no frames that are to wait
-- before they go again, nor, where the rank has windows, those that have no room there.
abbrev pub sifted : (is_asked : Bool) → List RoundTrip → Option WindowsState → List Parcel → List Parcel
sifted true trips windows out = released windows out
sifted false trips windows out = admitted windows (going trips out)

-- and what is on its way then
abbrev pub windows_sifted : (is_asked : Bool) → List RoundTrip → Option WindowsState → List Parcel → Option WindowsState
windows_sifted true trips windows out = released_to windows out
windows_sifted false trips windows out = offered windows (going trips out)
