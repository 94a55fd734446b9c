-- What a rank is: its engine, the data of its last answer, and what it sends.
use Rattle.std.specs.Prelude.{◌≡◌, ◌⊎◌, ◌/◌, ◌%◌, ◌<◌, ◌==◌, ◌&&◌, not, if◌then◌else◌, ℕ, List, [], map, slice_get, Bool, true, false, Option, None, Result, Ok, Err}
use Rattle.incarnation.specs.declared.place.Place.{Place}
use Rattle.engine.specs.Places.{place_fault}
use Rattle.engine.specs.Ticks.{TickGives}
use Rattle.engine_calls.specs.EngineState.{EngineState, opening}
use Rattle.point_to_point_calls.specs.Refusals.{IsRefusal, number_of_refusal}
use Rattle.point_to_point_calls.specs.declared.refusal.Refusal.{Refusal}
use Rattle.vocabulary.specs.MessageLimits.{frame_limit_of, limit_of}
use Rattle.vocabulary.specs.declared.message_limit.MessageLimit.{MessageLimit}
use Rattle.outgoing_datagrams.specs.HandedDatagrams.{SendingState}
use Rattle.congestion_windows.specs.Flights.{WindowsState}
use Rattle.round_trips.specs.Trips.{changed, estimate_in, late, near, with_estimate}
use Rattle.round_trips.specs.declared.estimate.Estimate.{Estimate}
use Rattle.round_trips.specs.declared.round_trip.RoundTrip.{RoundTrip}
use Rattle.c_rank.specs.Clocks.{told_waits, waits_in}
use Rattle.c_rank.specs.Windows.{opened}
use Rattle.c_rank.specs.declared.rank.ReceivedData.{ReceivedData}
use Rattle.c_rank.specs.declared.records.PlaceRecord.{PlaceRecord}

pub record RankState : Type 0 where
  pub engine : EngineState
  -- the data of the last answer that brought any
  pub received : Option ReceivedData
  -- what was emitted and isn't handed out, or is kept back
  pub sending : SendingState
  -- what is known of round trips
  pub trips : List RoundTrip
  -- what is on its way to each rank, and how much may be, where that is bounded
  pub windows : Option WindowsState
  -- the millisecond that the engine was told last
  pub told : ℕ

-- ---- its place

-- no job has this message limit
abbrev pub IsNoLimit : ℕ → Type 0
IsNoLimit bytes = (bytes < 1048576) ⊎ (2147483647 < bytes)

-- no job has frames of so many bytes of data at most
abbrev pub IsNoFrame : ℕ → Type 0
IsNoFrame bytes = (bytes < 1024) ⊎ ((61440 < bytes) ⊎ (0 < bytes % 8))

-- no job has such limits
abbrev pub HasNoLimits : PlaceRecord → Type 0
HasNoLimits p = IsNoLimit p.message_limit ⊎ IsNoFrame p.frame_limit

-- the limits that the numbers say
pub record AreLimits (p : PlaceRecord) (limit : MessageLimit) : Type 0 where
  pub bytes : limit_of limit ≡ p.message_limit
  pub frame : frame_limit_of limit ≡ p.frame_limit

-- the place that the numbers say, in a job of these limits
abbrev pub place_said : PlaceRecord → MessageLimit → Place
place_said p limit = record {
  endpoint = record { rank = p.rank; incarnation = p.incarnation };
  size = p.size;
  job = p.job;
  message_limit = limit;
}

-- round trips are thought to take no time; where all ranks are on one machine a frame that goes again is measured from
-- the time on when it went first
abbrev pub trips_of : PlaceRecord → List RoundTrip
trips_of p = if p.is_near then late p.size else near p.size

-- a rank at its start: its engine is at its start, no data are there, nothing is to be sent, nothing is known of round
-- trips yet, nothing is on its way, and its clock is at 0
pub record IsOpening (p : PlaceRecord) (r : RankState) : Type 0 where
  pub limit : MessageLimit
  pub limits : AreLimits p limit
  pub engine : r.engine ≡ opening (place_said p limit)
  pub received : r.received ≡ None
  pub waiting : r.sending.waiting ≡ []
  pub kept : r.sending.kept ≡ None
  pub trips : r.trips ≡ trips_of p
  pub windows : r.windows ≡ opened p
  pub told : r.told ≡ 0

-- the numbers by which it is told how an event of the engine went: 0, or that of the refusal
abbrev pub number_of_result : Result (Unit {0}) Refusal → ℕ
number_of_result (Ok done) = 0
number_of_result (Err refused) = number_of_refusal refused

-- why there is no rank: no job has such limits (84), or the engine has no such place
abbrev pub IsNoPlace : PlaceRecord → ℕ → Type 0
IsNoPlace p n =
    (HasNoLimits p × (n ≡ 84)) ⊎
    ((limit : MessageLimit) × (AreLimits p limit × ((why : Refusal)
    × (IsRefusal (place_fault (place_said p limit)) why × (n ≡ number_of_refusal why)))))

-- ---- what others learned

-- frames to a rank take as long as this says; nothing else changes
abbrev pub Learns : RankState → (rank : ℕ) → Estimate → RankState → Type 0
Learns old rank estimate new = new ≡ record old { trips = changed old.trips rank (λ t. with_estimate t estimate) }

-- frames to all ranks do
abbrev pub LearnsAll : RankState → Estimate → RankState → Type 0
LearnsAll old estimate new = new ≡ record old { trips = map (λ t. with_estimate t estimate) old.trips }

-- what was learned of the round trips to a rank, if there is one and something was
abbrev pub learned : RankState → (rank : ℕ) → Option Estimate
learned r rank = estimate_in (slice_get r.trips rank)

-- ---- its clock

-- what goes out, what is known of round trips, what is on its way and the time that the engine was told are the same
abbrev pub IsSameTime : RankState → RankState → Type 0
IsSameTime old new =
    (new.sending ≡ old.sending) × (new.trips ≡ old.trips) × (new.windows ≡ old.windows) × (new.told ≡ old.told)

-- the millisecond that the engine was told last, behind a tick that went so
abbrev pub told_behind : Result (Unit {0}) Refusal → (before millisecond : ℕ) → ℕ
told_behind (Ok done) before millisecond = millisecond
told_behind (Err refused) before millisecond = before

-- the engine is told how long frames wait, and the time
abbrev pub TellsTime : RankState → (millisecond : ℕ) → (may_repeat : Bool) → ℕ → RankState → Type 0
TellsTime old millisecond may_repeat n new =
    (gone : Result (Unit {0}) Refusal)
    × (TickGives (told_waits old.engine (waits_in may_repeat old.trips)) millisecond gone new.engine
    × (n ≡ number_of_result gone) × (new.told ≡ told_behind gone old.told millisecond))

-- unless it was told this millisecond, and no frames may go again
abbrev pub EngineTicks : (is_told : Bool) → RankState → (millisecond : ℕ) → (may_repeat : Bool) → ℕ → RankState → Type 0
EngineTicks true old millisecond may_repeat n new = (n ≡ 0) × (new.engine ≡ old.engine) × (new.told ≡ old.told)
EngineTicks false old millisecond may_repeat n new = TellsTime old millisecond may_repeat n new

-- the clock says a time, in nanoseconds, and frames may go again or not
abbrev pub Ticks : RankState → (now : ℕ) → (may_repeat : Bool) → ℕ → RankState → Type 0
Ticks old now may_repeat n new =
    EngineTicks (now / 1000000 == old.told && not may_repeat) old (now / 1000000) may_repeat n new
    × (new.received ≡ old.received)
    × (new.trips ≡ old.trips)
    × (new.windows ≡ old.windows)
    × (new.sending ≡ record old.sending { time = now })
