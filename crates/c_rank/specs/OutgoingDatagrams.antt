-- What a rank hands out: the datagrams that its engine emitted, in order.
use Rattle.std.specs.Prelude.{◌≡◌, ◌⊎◌, ◌≤◌, ◌<◌, ◌/◌, ℕ, Bool, true, false, nat_lt, List, [], ◌++◌, length, max, None}
use Rattle.std.specs.Prelude.{Result, Ok, Err}
use Rattle.std.specs.Prelude.{Option}
use Rattle.congestion_windows.specs.Flights.{WindowsState}
use Rattle.engine.specs.Ticks.{TickGives}
use Rattle.engine_calls.specs.EngineState.{without_out}
use Rattle.point_to_point_calls.specs.declared.refusal.Refusal.{Refusal}
use Rattle.port_transport.specs.Wires.{Parcel}
use Rattle.outgoing_datagrams.specs.HandedDatagrams.{HandsOn, KeepsFrom, NoneFits, late_at}
use Rattle.outgoing_datagrams.specs.Runs.{Stands}
use Rattle.outgoing_datagrams.specs.declared.record.OutgoingRecord.{OutgoingRecord}
use Rattle.round_trips.specs.declared.round_trip.RoundTrip.{RoundTrip}
use Rattle.c_rank.specs.Clocks.{after_all, going}
use Rattle.c_rank.specs.State.{RankState}
use Rattle.c_rank.specs.Windows.{admitted, asks, offered, sifted, told_asks, windows_sifted}

-- of what was emitted that which may go now: no frames that are to wait before they go again, nor, where the rank has
-- windows, those that have no room there
abbrev pub emitted : RankState → List Parcel
emitted r = admitted r.windows (going r.trips r.engine.sessions.out)

-- what was emitted and isn't handed out, but for what is kept back and for frames that may not go now
abbrev pub pending : RankState → List Parcel
pending r = r.sending.waiting ++ emitted r

-- the round trips of frames begin that are handed out now
abbrev pub trips_begun : RankState → List RoundTrip
trips_begun r = after_all r.trips (emitted r) (r.sending.time / 1000)

-- all that was emitted is offered to the windows
abbrev pub windows_offered : RankState → Option WindowsState
windows_offered r = offered r.windows (going r.trips r.engine.sessions.out)

-- what was emitted is taken over, or not
abbrev pub TakesOver : RankState → RankState → Type 0
TakesOver old new =
    ((new.engine ≡ old.engine) × (new.trips ≡ old.trips) × (new.windows ≡ old.windows))
    ⊎ ((new.engine ≡ without_out old.engine) × (new.trips ≡ trips_begun old) × (new.windows ≡ windows_offered old))

-- nothing else changes but what is to be sent
abbrev pub KeepsRest : RankState → RankState → Type 0
KeepsRest old new =
    TakesOver old new
    × (new.received ≡ old.received)
    × (new.told ≡ old.told)
    × (new.sending.time ≡ old.sending.time)

-- These were handed out: they stand in the slice, `most` at most; none only where nothing is there that fits. Of what was
-- kept back and pending they went in order: none but acknowledgements of which the next one says all stay out for good.
-- One is kept back for no longer, and for no more others, than one may be.
pub record HandsFirst (old : RankState) (most len : ℕ) (o : OutgoingRecord) (into_old into_new : List ℕ) (new : RankState) :
    Type 0 where
  pub went : List Parcel
  pub hands : HandsOn old.sending.kept (pending old) went new.sending.kept (pending new)
  pub stands : Stands went o len into_old into_new
  pub few : length went ≤ max most 1
  pub none : o.count ≡ 0 → NoneFits (pending new) (length into_old)
  pub rest : KeepsRest old new
  pub keeps : KeepsFrom old.sending (pending old) new.sending (pending new)

-- where nothing pends, nothing is handed out, and what is kept back stays
abbrev pub StaysSo : RankState → OutgoingRecord → RankState → Type 0
StaysSo old o new = pending old ≡ [] → (o.count ≡ 0) × (new.sending ≡ old.sending)

-- WHAT IS KEPT BACK STAYS: where nothing pends, not all is to go and what is kept back isn't late, nothing is handed out
abbrev pub KeepsBack : (old : RankState) (kept_too : Bool) → OutgoingRecord → RankState → Type 0
KeepsBack old kept_too o new =
    pending old ≡ [] → kept_too ≡ false →
    nat_lt old.sending.time (late_at old.sending.kept old.sending.since) ≡ true →
    (o.count ≡ 0) × (new.sending ≡ old.sending)

-- the same where what is kept back goes too, if nothing else does and it is late or all is to go; and it is told when
-- what is kept back is late
abbrev pub HandsAll : (old : RankState) (most : ℕ) (kept_too : Bool) (len : ℕ) (o : OutgoingRecord) (into_old into_new : List ℕ)
    (new : RankState) → Type 0
HandsAll old most kept_too len o into_old into_new new =
    HandsFirst old most len o into_old into_new new
    × (o.count ≡ 0 → kept_too ≡ true → new.sending.kept ≡ None)
    × (o.kept_until ≡ late_at new.sending.kept new.sending.since)
    × KeepsBack old kept_too o new

-- ---- what was deferred

-- acknowledgements made room for frames that are deferred, and all is handed out that was emitted
abbrev pub MayAsk : RankState → Type 0
MayAsk r = (asks r.windows ≡ true) × (r.sending.waiting ≡ []) × (r.engine.sessions.out ≡ [])

-- the engine is told that frames to ranks for which there may be room don't wait, and emits what is due then
abbrev pub AsksEngine : RankState → Result (Unit {0}) Refusal → RankState → Type 0
AsksEngine old gone new =
    TickGives (told_asks old.engine old.windows) old.told gone new.engine
    × (new ≡ record old { engine = new.engine })

-- what is to go of what it emitted waits from now on, and its round trips begin
abbrev pub after_taking : (is_asked : Bool) → RankState → RankState
after_taking is_asked r =
    let goes : List Parcel = sifted is_asked r.trips r.windows r.engine.sessions.out in
    record r {
      engine = without_out r.engine;
      windows = windows_sifted is_asked r.trips r.windows r.engine.sessions.out;
      trips = after_all r.trips goes (r.sending.time / 1000);
      sending = record r.sending { waiting = goes };
    }

-- Of what it emitted then the frames go that didn't go before and have room, and all but frames; what still has no room
-- stays deferred. Where memory is wanting to it nothing goes, and it is asked once more the next time.
abbrev pub released_behind : Result (Unit {0}) Refusal → RankState → RankState
released_behind (Ok done) r = after_taking true r
released_behind (Err refused) r = r

-- what was deferred is asked for, if there may be room for it
abbrev pub Releases : RankState → RankState → Type 0
Releases old new =
    ((MayAsk old → ⊥) × (new ≡ old))
    ⊎ (MayAsk old × ((gone : Result (Unit {0}) Refusal) × (mid : RankState) × AsksEngine old gone mid
    × (new ≡ released_behind gone mid)))

-- what was deferred is asked for, and then all is handed out
abbrev pub HandsReleased : (old : RankState) (most : ℕ) (kept_too : Bool) (len : ℕ) (o : OutgoingRecord)
    (into_old into_new : List ℕ) (new : RankState) → Type 0
HandsReleased old most kept_too len o into_old into_new new =
    (mid : RankState) × Releases old mid × HandsAll mid most kept_too len o into_old into_new new

-- Where the slice may be too short for a datagram, nothing goes and nothing changes.
pub record HandsNext (old : RankState) (most : ℕ) (kept_too : Bool) (len : ℕ) (o : OutgoingRecord)
    (into_old into_new : List ℕ) (new : RankState) : Type 0 where
  pub short : length into_old < 61648 → (len ≡ 0) × (o.count ≡ 0) × (into_new ≡ into_old) × (new ≡ old)
  pub enough : 61648 ≤ length into_old → HandsReleased old most kept_too len o into_old into_new new

-- WITHOUT WINDOWS NOTHING IS DEFERRED: all goes but frames that are to wait before they go again, the engine is asked for
-- nothing, and no windows come into being
abbrev pub DefersNothing : Type 0
DefersNothing =
    (r : RankState) → r.windows ≡ None →
    (pending r ≡ r.sending.waiting ++ going r.trips r.engine.sessions.out)
    × (windows_offered r ≡ None)
    × ((mid : RankState) → Releases r mid → mid ≡ r)
