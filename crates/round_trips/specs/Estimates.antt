-- The smoothed round trip time (SRTT), its variation (RTTVAR) and the time to send again (RTO) of RFC 6298, section 2.
-- Round trips are in microseconds, waits in milliseconds.
use Rattle.std.specs.Prelude.{ℕ, ◌+◌, ◌-◌, ◌*◌, ◌/◌, ◌^◌, min, max, Option, Some, None}
use Rattle.round_trips.specs.declared.estimate.Estimate.{Estimate}

-- how far two times are from one another
abbrev pub distance : ℕ → ℕ → ℕ
distance a b = (a - b) + (b - a)

-- round trips take no time
abbrev pub no_time : Estimate
no_time = record { smoothed = 0; variation = 0 }

-- after the first round trip SRTT is that, and RTTVAR half of it (2.2)
abbrev pub first_estimate : ℕ → Estimate
first_estimate r = record { smoothed = r; variation = r / 2 }

-- after one more RTTVAR has moved by a quarter towards how far it is from SRTT, and SRTT by an eighth towards it (2.3);
-- parts of a microsecond are dropped
abbrev pub estimate_with : Estimate → ℕ → Estimate
estimate_with e r = record {
  smoothed = e.smoothed - e.smoothed / 8 + r / 8;
  variation = e.variation - e.variation / 4 + distance e.smoothed r / 4;
}

-- after a round trip, where one was measured before, or none
abbrev pub estimate_behind : Option Estimate → ℕ → Estimate
estimate_behind None r = first_estimate r
estimate_behind (Some e) r = estimate_with e r

-- the granularity of clocks, G
abbrev pub granularity : ℕ
granularity = 20000

-- RTO is SRTT and four times RTTVAR, or SRTT and G where that is more (2.3)
abbrev pub timeout : Estimate → ℕ
timeout e = e.smoothed + max (4 * e.variation) granularity

-- whole milliseconds, rounded up
abbrev pub millis : ℕ → ℕ
millis time = (time + 999) / 1000

-- how long a frame waits before it is sent again the first time: RTO, but no less than 20 ms (2.4) and no more than a
-- second (2.5); 200 ms where no round trip was measured (2.1)
abbrev pub wait_by : Option Estimate → ℕ
wait_by None = 200
wait_by (Some e) = max (min (millis (timeout e)) 1000) 20

-- so long behind so many repeats: twice as long behind each but the first two (5.5 has each), up to a second
abbrev pub backed_off : (wait repeats : ℕ) → ℕ
backed_off wait repeats = min (wait * 2 ^ (repeats - 2)) 1000
