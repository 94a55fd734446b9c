-- The congestion window of RFC 5681, in bytes, within a budget. What 64 bits don't hold is the greatest number that they
-- hold.
use Rattle.std.specs.Prelude.{ℕ, ◌+◌, ◌-◌, ◌*◌, ◌/◌, min, max, ◌==◌, nat_le, nat_lt, if◌then◌else◌}
use Rattle.congestion_windows.specs.declared.limits.WindowLimits.{WindowLimits}
use Rattle.congestion_windows.specs.declared.window.CongestionWindow.{CongestionWindow}

-- as far as 64 bits hold it
abbrev pub in_64 : ℕ → ℕ
in_64 n = min n 18446744073709551615

-- the bytes of a longest datagram of a job whose frames have so many bytes of data at most
abbrev pub longest_of : (frame : ℕ) → ℕ
longest_of frame = min (frame + 208) 4294967295

-- without a bound: more than 64 longest datagrams of any job
abbrev pub unbounded : (longest : ℕ) → ℕ
unbounded longest = max 4294967295 (2 * longest)

-- the part of each other rank in the room of one, and two longest datagrams at least
abbrev pub budget_of : (longest room size : ℕ) → ℕ
budget_of longest room size = max (room / max (size - 1) 1) (2 * longest)

-- what a window begins with: up to ten longest datagrams that are 14,600 bytes at most, or two (RFC 6928, 2)
abbrev pub first_of : (longest budget : ℕ) → ℕ
first_of longest budget = min (min (max (2 * longest) 14600) (10 * longest)) budget

abbrev pub bounded : (longest budget : ℕ) → WindowLimits
bounded longest budget = record { longest = longest; first = first_of longest budget; budget = budget }

-- the limits of a job of so many ranks, whose sockets keep so many bytes that came, or 0 where that isn't known
abbrev pub limits_of : (frame room size : ℕ) → WindowLimits
limits_of frame room size =
    if room == 0
    then record {
      longest = longest_of frame;
      first = unbounded (longest_of frame);
      budget = unbounded (longest_of frame);
    }
    else bounded (longest_of frame) (budget_of (longest_of frame) room size)

-- a window as it begins
abbrev pub opened : WindowLimits → CongestionWindow
opened l = record { bytes = l.first; threshold = l.budget }

-- By how much it grows where so many bytes are acknowledged: by as many below the threshold (slow start; RFC 3465 counts
-- bytes), from there on by a longest datagram for each window that is acknowledged (equation 3), and by one byte at least.
abbrev pub growth : WindowLimits → CongestionWindow → (bytes : ℕ) → ℕ
growth l w bytes = if nat_lt w.bytes w.threshold then bytes else max (in_64 (l.longest * bytes) / max w.bytes 1) 1

abbrev pub acknowledged : WindowLimits → CongestionWindow → (bytes : ℕ) → CongestionWindow
acknowledged l w bytes = record w { bytes = min (in_64 (w.bytes + growth l w bytes)) l.budget }

-- half of what was unanswered, and two longest datagrams at least (equation 4)
abbrev pub halved : WindowLimits → (unanswered : ℕ) → ℕ
halved l unanswered = max (unanswered / 2) (2 * l.longest)

-- later frames told of a loss
abbrev pub lost : WindowLimits → CongestionWindow → (unanswered : ℕ) → CongestionWindow
lost l w unanswered = record { bytes = min (halved l unanswered) l.budget; threshold = halved l unanswered }

-- a time was over; a frame alone fills no queue
abbrev pub timed_out : WindowLimits → CongestionWindow → (unanswered : ℕ) → CongestionWindow
timed_out l w unanswered = record {
  bytes = min (2 * l.longest) l.budget;
  threshold = if nat_le unanswered l.longest then w.threshold else halved l unanswered;
}
