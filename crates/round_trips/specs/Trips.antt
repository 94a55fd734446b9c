-- What datagrams that go out and come tell of round trips.
use Rattle.std.specs.Prelude.{ℕ, ◌+◌, ◌-◌, ◌*◌, ◌/◌, ◌%◌, ◌^◌, min, max, ◌==◌, nat_le, nat_lt, count_ones, ◌&&◌, ◌||◌, Bool}
use Rattle.std.specs.Prelude.{true, false, if◌then◌else◌, List, length, slice_index, slice_get, slice_set, replicate, Option, Some, None}
use Rattle.std.specs.Prelude.{is_none, Result, Ok, Err}
use Rattle.std.specs.Int.{leading_zeros, w64}
use Rattle.datagram.specs.declared.datagram.Header.{Header}
use Rattle.datagram.specs.declared.refusal.DatagramRefusal.{DatagramRefusal}
use Rattle.datagram.specs.Spellings.{DatagramText, BodyText, FrameBody, AckBody, ResetBody}
use Rattle.round_trips.specs.Estimates.{backed_off, estimate_behind, millis, no_time, wait_by}
use Rattle.round_trips.specs.declared.estimate.Estimate.{Estimate}
use Rattle.round_trips.specs.declared.round_trip.TimedFrame.{TimedFrame}
use Rattle.round_trips.specs.declared.round_trip.RoundTrip.{RoundTrip}
use Rattle.round_trips.specs.declared.round_trip.Gap.{Gap}
use Rattle.round_trips.specs.declared.round_trip.Gap.TheVariants.{Unseen, Seen, Mended}

-- ---- sessions

-- a session in which no frame went out, with an incarnation of a rank to which frames take so long
abbrev pub begun : (incarnation : ℕ) → Option Estimate → (repeats : ℕ) → RoundTrip
begun incarnation estimate repeats = record {
  incarnation = incarnation;
  estimate = estimate;
  repeats = repeats;
  timed = None;
  newest = None;
  awaited = 0;
  gap = Unseen;
  resent = 0;
  doubtful = 0;
  allowance = 1;
  seen = 0;
  counts_repeats = false;
}

-- what is known where a frame goes to this incarnation: a session with another one has ended
abbrev pub with_incarnation : RoundTrip → ℕ → RoundTrip
with_incarnation t incarnation =
    if t.incarnation == incarnation then t else
    record (begun incarnation t.estimate t.repeats) { counts_repeats = t.counts_repeats }

-- ---- frames that go out

-- a frame of this number went out before, where `newest` is the highest number that did
abbrev pub is_repeat : Option ℕ → (number : ℕ) → Bool
is_repeat None number = false
is_repeat (Some newest) number = nat_le number newest

-- a frame goes out the first time: its round trip is measured, unless another one's is
abbrev pub timed_from : Option TimedFrame → (number now : ℕ) → Option TimedFrame
timed_from None number now = Some (record { number = number; since = now; again = now })
timed_from (Some f) number now = Some f

-- the round trip of a frame that goes out again isn't measured (Karn's rule, RFC 6298, 3)
abbrev pub timed_without : Option TimedFrame → (number : ℕ) → Option TimedFrame
timed_without None number = None
timed_without (Some f) number = if f.number == number then None else Some f

-- the same where repeats count, and so the time from when it went out first: then it still is
abbrev pub timed_again : Option TimedFrame → (number now : ℕ) → Option TimedFrame
timed_again None number now = None
timed_again (Some f) number now = if f.number == number then Some (record f { again = now }) else Some f

abbrev pub timed_behind : RoundTrip → (number now : ℕ) → Option TimedFrame
timed_behind t number now =
    if t.counts_repeats then timed_again t.timed number now else timed_without t.timed number

-- behind the highest number that went out, as far as 64 bits hold it
abbrev pub behind : Option ℕ → ℕ
behind None = 0
behind (Some newest) = min (newest + 1) 18446744073709551615

-- the frame that the rank waits for goes again, so that all that went out are doubtful: soon, since it is known to be
-- missing, or since its time was over: then that is doubled (RFC 6298, 5.5)
abbrev pub repeated : RoundTrip → Gap → RoundTrip
repeated t Seen = record t { gap = Mended; doubtful = behind t.newest }
repeated t Unseen = record t { repeats = min (t.repeats + 1) 4294967295; doubtful = behind t.newest }
repeated t Mended = record t { repeats = min (t.repeats + 1) 4294967295; doubtful = behind t.newest }

-- a frame goes again
abbrev pub after_repeat : RoundTrip → (number now : ℕ) → RoundTrip
after_repeat t number now =
    let unmeasured : RoundTrip = record t {
      timed = timed_behind t number now;
      resent = max t.resent (min (number + 1) 18446744073709551615);
    } in
    if t.awaited == number then repeated unmeasured t.gap else unmeasured

-- a frame goes the first time
abbrev pub after_first : RoundTrip → (number now : ℕ) → RoundTrip
after_first t number now = record t { timed = timed_from t.timed number now; newest = Some number }

abbrev pub after_number : RoundTrip → (number now : ℕ) → RoundTrip
after_number t number now = if is_repeat t.newest number then after_repeat t number now else after_first t number now

-- a frame of this number goes out to this incarnation
abbrev pub after_frame : RoundTrip → (incarnation number now : ℕ) → RoundTrip
after_frame t incarnation number now = after_number (with_incarnation t incarnation) number now

-- ---- acknowledgements that come

-- whether an acknowledgement of all frames below `next` says that a frame came, where the bits of `held` tell of those
-- behind `next`
abbrev pub tells_of : (number next held : ℕ) → Bool
tells_of number next held =
    nat_lt number next || (nat_lt (number - next) 64 && held / 2 ^ (number - next) % 2 == 1)

-- a round trip was measured: the time to send again is by it alone
abbrev pub measured : RoundTrip → (round_trip : ℕ) → RoundTrip
measured t round_trip = record t {
  estimate = Some (estimate_behind t.estimate round_trip);
  repeats = 0;
  timed = None;
}

-- its frame went again less than 10 ms before, or less than a quarter of the time since it went first: so the answer may
-- be that of the repeat
abbrev pub is_doubtful : TimedFrame → (now : ℕ) → Bool
is_doubtful f now = nat_lt f.since f.again && nat_lt (now - f.again) (max ((now - f.since) / 4) 10000)

-- the acknowledgement of a frame whose round trip is measured comes: one that is doubtful says nothing
abbrev pub answered : RoundTrip → TimedFrame → (now : ℕ) → RoundTrip
answered t f now = if is_doubtful f now then record t { timed = None } else measured t (now - f.since)

-- the round trip of the frame that is measured is over, if an acknowledgement tells of it
abbrev pub with_sample : RoundTrip → Option TimedFrame → (next held now : ℕ) → RoundTrip
with_sample t None next held now = t
with_sample t (Some f) next held now = if tells_of f.number next held then answered t f now else t

-- three frames behind the one that a rank waits for came
abbrev pub gap_by : (held : ℕ) → Gap
gap_by held = if nat_le 3 (count_ones held) then Seen else Unseen

-- the same where the rank waited for that frame before
abbrev pub gap_with : Gap → (held : ℕ) → Gap
gap_with Unseen held = gap_by held
gap_with Seen held = Seen
gap_with Mended held = Mended

-- The rank waits for this frame, a later one than before. Just behind those that went again, among those that went out
-- before, it is lost, too, and twice as many may go again; further behind, frames came that didn't go again.
abbrev pub moved_on : RoundTrip → (next held : ℕ) → RoundTrip
moved_on t next held =
    if nat_lt t.resent next || nat_le t.doubtful next
    then record t { awaited = next; gap = gap_by held; allowance = 1 } else
    (if nat_lt next t.resent
    then record t { awaited = next; gap = gap_by held }
    else record t { awaited = next; gap = Seen; allowance = min (t.allowance * 2) 18446744073709551615 })

-- the rank waits for this frame, unless it is known to wait for a later one
abbrev pub with_awaited : RoundTrip → (next held : ℕ) → RoundTrip
with_awaited t next held =
    if nat_lt t.awaited next then moved_on t next held else
    (if t.awaited == next then record t { gap = gap_with t.gap held } else t)

-- behind the highest frame that an acknowledgement tells of
abbrev pub held_end : (next held : ℕ) → ℕ
held_end next held = min (next + (64 - leading_zeros w64 held)) 18446744073709551615

-- the rank is known to hold the frame below this number
abbrev pub with_seen : RoundTrip → (next held : ℕ) → RoundTrip
with_seen t next held = record t { seen = max t.seen (held_end next held) }

-- an acknowledgement of this incarnation comes; one of another incarnation says nothing of this session
abbrev pub after_acknowledgement : RoundTrip → (incarnation next held now : ℕ) → RoundTrip
after_acknowledgement t incarnation next held now =
    if t.incarnation == incarnation
    then with_seen (with_awaited (with_sample t t.timed next held now) next held) next held else t

-- ---- what others learned

-- frames to the rank take as long as this says
abbrev pub with_estimate : RoundTrip → Estimate → RoundTrip
with_estimate t e = record t { estimate = Some e }

-- ---- frames that may go

-- a frame may go the first time; again where it is missing below one that came, and so may as many as are allowed from
-- the one on that the rank waits for
abbrev pub lets_go : RoundTrip → (incarnation number : ℕ) → Bool
lets_go t incarnation number =
    if (t.incarnation == incarnation) && is_repeat t.newest number
    then nat_lt number t.seen || nat_lt number (min (t.awaited + t.allowance) 18446744073709551615) else true

-- ---- how long frames wait

-- where a frame is missing below three that came: no longer than a round trip
abbrev pub hasty : (wait : ℕ) → Option Estimate → ℕ
hasty wait None = wait
hasty wait (Some e) = min wait (max (millis e.smoothed) 1)

abbrev pub wait_with : (wait : ℕ) → Gap → Option Estimate → ℕ
wait_with wait Unseen estimate = wait
wait_with wait Seen estimate = hasty wait estimate
wait_with wait Mended estimate = wait

-- how long frames wait for their acknowledgements now
abbrev pub wait_now : RoundTrip → ℕ
wait_now t = wait_with (backed_off (wait_by t.estimate) t.repeats) t.gap t.estimate

-- frames were late or lost: they wait longer than the least by what was measured, or the one that the rank waited for
-- went again behind the first one
abbrev pub is_troubled : RoundTrip → Bool
is_troubled t = nat_lt 1 t.doubtful || nat_lt 20 (wait_by t.estimate)

-- ---- all ranks

-- one rank's round trips change so, if there is such a rank
abbrev pub changed : List RoundTrip → (rank : ℕ) → (RoundTrip → RoundTrip) → List RoundTrip
changed trips rank f = changed_at trips rank f (slice_get trips rank)
  where
    changed_at : List RoundTrip → ℕ → (RoundTrip → RoundTrip) → Option RoundTrip → List RoundTrip
    changed_at trips rank f None = trips
    changed_at trips rank f (Some t) = slice_set trips rank (f t)

-- what was learned of a rank, if there is one and a round trip to it was measured
abbrev pub estimate_in : Option RoundTrip → Option Estimate
estimate_in None = None
estimate_in (Some t) = t.estimate

-- how long frames to a rank wait, if there is one and a round trip to it was measured
abbrev pub measured_wait : Option RoundTrip → Option ℕ
measured_wait None = None
measured_wait (Some t) = if is_none t.estimate then None else Some (wait_now t)

-- how long frames to a rank wait, if there is one and they were late or lost
abbrev pub troubled_wait : Option RoundTrip → Option ℕ
troubled_wait None = None
troubled_wait (Some t) = if is_troubled t then Some (wait_now t) else None

-- bytes may spell a datagram of the kind that has this code
abbrev pub may_be : List ℕ → (code : ℕ) → Bool
may_be bytes code = nat_lt 5 (length bytes) && slice_index bytes 5 == code

-- a datagram goes out: a frame alone tells something
abbrev pub sent_with : List RoundTrip → Header → BodyText → (now : ℕ) → List RoundTrip
sent_with trips h (FrameBody f) now =
    changed trips h.target.rank (λ t. after_frame t h.target.incarnation h.sequence now)
sent_with trips h (AckBody held) now = trips
sent_with trips h ResetBody now = trips

abbrev pub after_sent : List RoundTrip → Result DatagramText DatagramRefusal → (now : ℕ) → List RoundTrip
after_sent trips (Ok d) now = sent_with trips d.header d.body now
after_sent trips (Err e) now = trips

-- a datagram comes: an acknowledgement alone tells something
abbrev pub came_with : List RoundTrip → Header → BodyText → (now : ℕ) → List RoundTrip
came_with trips h (FrameBody f) now = trips
came_with trips h (AckBody held) now =
    changed trips h.source.rank (λ t. after_acknowledgement t h.source.incarnation h.sequence held now)
came_with trips h ResetBody now = trips

abbrev pub after_came : List RoundTrip → Result DatagramText DatagramRefusal → (now : ℕ) → List RoundTrip
after_came trips (Ok d) now = came_with trips d.header d.body now
after_came trips (Err e) now = trips

-- a datagram may go; a frame alone may not, and of a rank of the job
abbrev pub goes_to : Option RoundTrip → (incarnation number : ℕ) → Bool
goes_to None incarnation number = true
goes_to (Some t) incarnation number = lets_go t incarnation number

abbrev pub goes_with : List RoundTrip → Header → BodyText → Bool
goes_with trips h (FrameBody f) = goes_to (slice_get trips h.target.rank) h.target.incarnation h.sequence
goes_with trips h (AckBody held) = true
goes_with trips h ResetBody = true

abbrev pub may_go : List RoundTrip → Result DatagramText DatagramRefusal → Bool
may_go trips (Ok d) = goes_with trips d.header d.body
may_go trips (Err e) = true

-- at first nothing is known of so many ranks
abbrev pub unknown : (size : ℕ) → List RoundTrip
unknown size = replicate size (begun 0 None 0)

-- of ranks that are near it is thought at first that round trips take no time
abbrev pub near : (size : ℕ) → List RoundTrip
near size = replicate size (begun 0 (Some no_time) 0)

-- ranks on one machine: it is thought at first that round trips take no time, and repeats count
abbrev pub late : (size : ℕ) → List RoundTrip
late size = replicate size (record (begun 0 (Some no_time) 0) { counts_repeats = true })
