-- What is on its way to each rank: what a frame that is to go and an acknowledgement that comes make of it.
use Rattle.std.specs.Prelude.{ℕ, ◌+◌, ◌-◌, ◌*◌, ◌/◌, ◌%◌, ◌^◌, min, max, ◌==◌, nat_le, nat_lt, count_ones, not, ◌&&◌, ◌||◌, Bool}
use Rattle.std.specs.Prelude.{true, false, if◌then◌else◌, List, map, length, slice_get, slice_set, replicate, Option, Some, None}
use Rattle.std.specs.Prelude.{Result, Ok, Err}
use Rattle.datagram.specs.declared.datagram.Header.{Header}
use Rattle.datagram.specs.declared.refusal.DatagramRefusal.{DatagramRefusal}
use Rattle.datagram.specs.ByteMeanings.{datagram_of}
use Rattle.datagram.specs.Spellings.{DatagramText, BodyText, FrameBody, AckBody, ResetBody}
use Rattle.congestion_windows.specs.Windows.{acknowledged, in_64, lost, opened, timed_out}
use Rattle.congestion_windows.specs.declared.limits.WindowLimits.{WindowLimits}
use Rattle.congestion_windows.specs.declared.flight.Flight.{Flight}
use Rattle.congestion_windows.specs.declared.flight.TimedOut.{TimedOut}
use Rattle.congestion_windows.specs.declared.window.CongestionWindow.{CongestionWindow}

-- ---- what frames count

-- a datagram of so many bytes counts as a longest one
abbrev pub is_long : WindowLimits → (size : ℕ) → Bool
is_long l size = nat_lt (l.longest / 8) size

-- what it counts: the bytes of a longest one, or an eighth of them
abbrev pub weight : WindowLimits → (size : ℕ) → ℕ
weight l size = if is_long l size then l.longest else l.longest / 8

-- what so many frames count, of which the marked ones are long
abbrev pub counted : WindowLimits → (count long : ℕ) → ℕ
counted l count long =
    in_64 (in_64 (count_ones long * l.longest) + in_64 ((count - count_ones long) * (l.longest / 8)))

-- the marks of the last frames, of so many
abbrev pub left_of : (long count : ℕ) → ℕ
left_of long count = if nat_lt count 64 then long % 2 ^ count else long

-- what is unanswered counts so much
abbrev pub unanswered : WindowLimits → Flight → ℕ
unanswered l f = counted l f.count f.long

-- ---- sessions

-- a session in which no frame was offered
abbrev pub begun : WindowLimits → (incarnation : ℕ) → Flight
begun l incarnation = record {
  incarnation = incarnation;
  first = 0;
  count = 0;
  long = 0;
  end = 0;
  recover = 0;
  window = opened l;
  ahead = false;
  late = None;
  asks = false;
}

-- where a frame goes to this incarnation: a session with another one has ended
abbrev pub with_incarnation : WindowLimits → Flight → ℕ → Flight
with_incarnation l f incarnation = if f.incarnation == incarnation then f else begun l incarnation

-- behind the last frame that went
abbrev pub went_end : Flight → ℕ
went_end f = in_64 (f.first + f.count)

-- ---- frames that are to go

-- One more may go: nothing is unanswered, or fewer than 64 frames are, and with it no more than the window has.
abbrev pub allows : WindowLimits → Flight → (size : ℕ) → Bool
allows l f size =
    f.count == 0 || (nat_lt f.count 64 && nat_le (in_64 (unanswered l f + weight l size)) f.window.bytes)

-- the next one goes
abbrev pub gone : WindowLimits → Flight → (number size : ℕ) → Flight
gone l f number size = record f {
  count = min (f.count + 1) 4294967295;
  long = f.long % 2 ^ 63 * 2 + (if is_long l size then 1 else 0);
  end = max f.end (in_64 (number + 1));
}

-- it has no room, and is deferred
abbrev pub deferred : Flight → (number : ℕ) → Flight
deferred f number = record f { end = in_64 (number + 1) }

-- one whose time was over, unless later ones are known to have come, may have been late alone
abbrev pub late_by : Flight → (number : ℕ) → Option TimedOut
late_by f number = if f.ahead then None else Some (record { number = number; window = f.window })

-- whether it is that one that goes again once more
abbrev pub late_with : Option TimedOut → (number : ℕ) → Option TimedOut
late_with None number = None
late_with (Some t) number = if t.number == number then Some t else None

-- one goes again: where the rank waits for it, its time was over, unless the window was made smaller for it before
abbrev pub repeated : WindowLimits → Flight → (number : ℕ) → Flight
repeated l f number =
    if (f.first == number) && nat_le f.recover number
    then record f {
      window = timed_out l f.window (unanswered l f);
      recover = went_end f;
      late = late_by f number;
    }
    else record f { late = late_with f.late number }

-- One that went goes again. The next one goes or is deferred; so is one behind those that are deferred.
abbrev pub passed_over : WindowLimits → Flight → (number size : ℕ) → Flight
passed_over l f number size =
    if nat_lt number (went_end f) then repeated l f number else
    (if (went_end f == number) && allows l f size then gone l f number size else
    (if f.end == number then deferred f number else f))

abbrev pub offered : WindowLimits → Flight → (incarnation number size : ℕ) → Flight
offered l f incarnation number size = passed_over l (with_incarnation l f incarnation) number size

-- a frame isn't to go: it is answered, or was offered and had no room
abbrev pub is_withheld : Flight → (incarnation number : ℕ) → Bool
is_withheld f incarnation number =
    (f.incarnation == incarnation)
    && (nat_lt number f.first || (nat_le (went_end f) number && nat_lt number f.end))

-- a frame didn't go yet
abbrev pub is_fresh : Flight → (incarnation number : ℕ) → Bool
is_fresh f incarnation number = not (f.incarnation == incarnation) || nat_le (went_end f) number

-- ---- acknowledgements that come

-- The window behind an acknowledgement of all frames below `next`: where it tells of one behind the one whose time was
-- over, and which didn't go again, that one was late and not lost, and the window is as it was (F-RTO, RFC 5682; RFC 4015).
abbrev pub window_behind : Option TimedOut → CongestionWindow → (next : ℕ) → CongestionWindow
window_behind None w next = w
window_behind (Some t) w next = if nat_lt (in_64 (t.number + 1)) next then t.window else w

abbrev pub late_behind : Option TimedOut → (next : ℕ) → Option TimedOut
late_behind None next = None
late_behind (Some t) next = if nat_lt (in_64 (t.number + 1)) next then None else Some t

-- so many of the first frames are answered: the window grows by what they counted
abbrev pub answered : WindowLimits → Flight → (frames : ℕ) → Flight
answered l f frames =
    if frames == 0 then f else record f {
      first = in_64 (f.first + frames);
      count = f.count - frames;
      long = left_of f.long (f.count - frames);
      window = acknowledged l (window_behind f.late f.window (in_64 (f.first + frames)))
          (unanswered l f - counted l (f.count - frames) (left_of f.long (f.count - frames)));
      late = late_behind f.late (in_64 (f.first + frames));
      asks = f.asks || nat_lt (went_end f) f.end;
    }

-- the rank tells whether frames came behind the one that it waits for
abbrev pub with_ahead : Flight → (next held : ℕ) → Flight
with_ahead f next held = if f.first == next then record f { ahead = not (held == 0) } else f

-- three frames came behind the one that the rank waits for: the window is halved, once for all that are unanswered then
abbrev pub with_gap : WindowLimits → Flight → (held : ℕ) → Flight
with_gap l f held =
    if (f.count == 0) || nat_lt (count_ones held) 3 || nat_lt f.first f.recover then f else
    record f { window = lost l f.window (unanswered l f); recover = went_end f; late = None }

-- an acknowledgement of all frames below `next` comes from this incarnation; one of another says nothing of this session
abbrev pub acknowledged_by : WindowLimits → Flight → (incarnation next held : ℕ) → Flight
acknowledged_by l f incarnation next held =
    if f.incarnation == incarnation
    then with_gap l (with_ahead (answered l f (min (next - f.first) f.count)) next held) held else f

-- ---- all ranks

-- what bounds the windows, what is on its way to each rank, and whether there may be room for what is deferred
pub record WindowsState : Type 0 where
  pub limits : WindowLimits
  pub flights : List Flight
  pub asks : Bool

-- at first nothing is on its way
abbrev pub opening : WindowLimits → (size : ℕ) → WindowsState
opening l size = record { limits = l; flights = replicate size (begun l 0); asks = false }

-- what is on its way to one rank changes so, if there is such a rank
abbrev pub changed : List Flight → (rank : ℕ) → (Flight → Flight) → List Flight
changed flights rank f = changed_at flights rank f (slice_get flights rank)
  where
    changed_at : List Flight → ℕ → (Flight → Flight) → Option Flight → List Flight
    changed_at flights rank f None = flights
    changed_at flights rank f (Some t) = slice_set flights rank (f t)

-- a datagram is to go: a frame alone tells something
abbrev pub offer_with : WindowsState → Header → BodyText → (size : ℕ) → WindowsState
offer_with w h (FrameBody f) size = record w {
  flights = changed w.flights h.target.rank (λ t. offered w.limits t h.target.incarnation h.sequence size);
}
offer_with w h (AckBody held) size = w
offer_with w h ResetBody size = w

abbrev pub offer_of : WindowsState → Result DatagramText DatagramRefusal → (size : ℕ) → WindowsState
offer_of w (Ok d) size = offer_with w d.header d.body size
offer_of w (Err e) size = w

abbrev pub after_offer : WindowsState → (bytes : List ℕ) → WindowsState
after_offer w bytes = offer_of w (datagram_of bytes) (length bytes)

-- there may be room for what is deferred of a rank, if there is such a rank
abbrev pub asks_in : Option Flight → Bool
asks_in None = false
asks_in (Some f) = f.asks

-- a datagram comes: an acknowledgement alone tells something
abbrev pub acknowledged_from : WindowsState → (rank incarnation next held : ℕ) → WindowsState
acknowledged_from w rank incarnation next held =
    let flights : List Flight = changed w.flights rank (λ t. acknowledged_by w.limits t incarnation next held) in
    record w { flights = flights; asks = w.asks || asks_in (slice_get flights rank) }

abbrev pub came_with : WindowsState → Header → BodyText → WindowsState
came_with w h (FrameBody f) = w
came_with w h (AckBody held) = acknowledged_from w h.source.rank h.source.incarnation h.sequence held
came_with w h ResetBody = w

abbrev pub after_came : WindowsState → Result DatagramText DatagramRefusal → WindowsState
after_came w (Ok d) = came_with w d.header d.body
after_came w (Err e) = w

-- a frame to a rank isn't to go, if there is such a rank
abbrev pub withheld_in : Option Flight → (incarnation number : ℕ) → Bool
withheld_in None incarnation number = false
withheld_in (Some f) incarnation number = is_withheld f incarnation number

-- a datagram isn't to go: a frame alone may be withheld
abbrev pub withheld_with : List Flight → Header → BodyText → Bool
withheld_with flights h (FrameBody f) =
    withheld_in (slice_get flights h.target.rank) h.target.incarnation h.sequence
withheld_with flights h (AckBody held) = false
withheld_with flights h ResetBody = false

abbrev pub withholds : WindowsState → Result DatagramText DatagramRefusal → Bool
withholds w (Ok d) = withheld_with w.flights d.header d.body
withholds w (Err e) = false

-- a frame to a rank didn't go yet
abbrev pub fresh_in : Option Flight → (incarnation number : ℕ) → Bool
fresh_in None incarnation number = true
fresh_in (Some f) incarnation number = is_fresh f incarnation number

-- a datagram is no frame that went before
abbrev pub fresh_with : List Flight → Header → BodyText → Bool
fresh_with flights h (FrameBody f) = fresh_in (slice_get flights h.target.rank) h.target.incarnation h.sequence
fresh_with flights h (AckBody held) = true
fresh_with flights h ResetBody = true

abbrev pub is_new : WindowsState → Result DatagramText DatagramRefusal → Bool
is_new w (Ok d) = fresh_with w.flights d.header d.body
is_new w (Err e) = true

-- what is deferred was asked for
abbrev pub settled : Flight → Flight
settled f = record f { asks = false }

abbrev pub asked : WindowsState → WindowsState
asked w = record w { flights = map settled w.flights; asks = false }
