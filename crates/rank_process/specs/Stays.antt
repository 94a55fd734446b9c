-- How long a rank stays for the others behind its end.
use Rattle.std.specs.Prelude.{ℕ, zero, suc, ◌*◌, min, max, Bool, true, false, List, slice_get, Option, Some, None}
use Rattle.round_trips.specs.Trips.{measured_wait, troubled_wait}
use Rattle.round_trips.specs.declared.round_trip.RoundTrip.{RoundTrip}

-- so many times the wait, up to 4,000 milliseconds; none where nothing is known
abbrev pub stay_times : ℕ → Option ℕ → ℕ
stay_times factor None = 0
stay_times factor (Some wait) = min (factor * wait) 4000

-- for another rank: for one that is near by four repeats, where frames to it were late or lost; else by six
abbrev pub stay_by : (is_near : Bool) → Option RoundTrip → ℕ
stay_by true trip = stay_times 8 (troubled_wait trip)
stay_by false trip = stay_times 32 (measured_wait trip)

-- a rank of a job on several hosts stays for the least wait, 20 milliseconds, at least
abbrev pub least_stay : (is_near : Bool) → ℕ
least_stay true = 0
least_stay false = 640

-- as long as for any of the first so many ranks
abbrev pub longest_stay : (is_near : Bool) → List RoundTrip → (count : ℕ) → ℕ
longest_stay is_near trips zero = least_stay is_near
longest_stay is_near trips (suc count) =
    max (longest_stay is_near trips count) (stay_by is_near (slice_get trips count))
