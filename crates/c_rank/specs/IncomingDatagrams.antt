-- What a rank makes of a datagram that came.
use Rattle.std.specs.Prelude.{◌≡◌, ◌/◌, ℕ, List, Result}
use Rattle.c_rank.specs.Clocks.{trips_behind}
use Rattle.c_rank.specs.State.{RankState, number_of_result}
use Rattle.c_rank.specs.Windows.{windows_behind}
use Rattle.engine.specs.Datagrams.{DatagramGives}
use Rattle.point_to_point_calls.specs.declared.refusal.Refusal.{Refusal}

-- The engine takes it or refuses it, and the number says which. One that it takes tells of round trips, and of what is on
-- its way. Neither the data of the last answer nor what goes out is another, nor the time: it isn't a tick.
abbrev pub TakesIn : (old : RankState) → (bytes : List ℕ) → (number : ℕ) → (new : RankState) → Type 0
TakesIn old bytes number new =
    ((gone : Result (Unit {0}) Refusal) ×
    (DatagramGives old.engine bytes gone new.engine × (number ≡ number_of_result gone)
    × (new.trips ≡ trips_behind gone old.trips bytes (old.sending.time / 1000))
    × (new.windows ≡ windows_behind gone old.windows bytes)))
    × (new.received ≡ old.received)
    × (new.sending ≡ old.sending)
    × (new.told ≡ old.told)
