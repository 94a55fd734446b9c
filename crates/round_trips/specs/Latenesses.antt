-- How late ranks on one machine answer.
use Rattle.std.specs.Prelude.{ℕ, ◌+◌, ◌-◌, ◌*◌, ◌/◌, min, max, nat_lt, nat_le, ◌||◌, if◌then◌else◌}
use Rattle.round_trips.specs.Estimates.{timeout}
use Rattle.round_trips.specs.declared.estimate.Estimate.{Estimate}
use Rattle.round_trips.specs.declared.lateness.Lateness.{Lateness}

-- of the ranks that share a processor each waits for the others, 4 ms for each
abbrev pub crowded : (ranks processors : ℕ) → Estimate
crowded ranks processors = record { smoothed = (ranks / max processors 1 - 1) * 4000; variation = 0 }

-- RTO in microseconds, as far as 64 bits hold it
abbrev pub micros_waited : Estimate → ℕ
micros_waited e = min (timeout e) 18446744073709551615

-- what an engine learned takes the place of what was known where it is higher, or 10 ms after the last time
abbrev pub lateness_behind : Lateness → Estimate → (now : ℕ) → Lateness
lateness_behind l learned now =
    if nat_lt (micros_waited l.estimate) (micros_waited learned) || nat_le 10000000 (now - l.since)
    then record { estimate = learned; since = now } else l
