-- Datagrams that are put into a slice, one behind the other.
use Rattle.std.specs.Prelude.{◌≡◌, ◌≢◌, ◌⊎◌, ◌+◌, ◌-◌, ◌≤◌, ◌<◌, ◌^◌, ℕ, zero, suc, true, false, nat_lt, min, List, []}
use Rattle.std.specs.Prelude.{◌++◌, length, take, drop, slice_get, Option, Some, None}
use Rattle.port_transport.specs.Wires.{Parcel}
use Rattle.outgoing_datagrams.specs.declared.record.OutgoingRecord.{OutgoingRecord}
use Rattle.outgoing_datagrams.specs.declared.run.Run.{Run}

-- bytes are put from a place on; where they don't fit, nothing is
abbrev pub PutsBehind : (at : ℕ) → (bytes old : List ℕ) → Option ℕ → (new : List ℕ) → Type 0
PutsBehind at bytes old None new = (new ≡ old) × (length old < at + length bytes)
PutsBehind at bytes old (Some end) new =
    (end ≡ at + length bytes) × (end ≤ length old) × (new ≡ take at old ++ bytes ++ drop (at + length bytes) old)

-- a run goes on with a datagram that is for its rank, no longer than the others and fits, and is no acknowledgement
-- behind others; behind a shorter one, and where the next isn't so, it is over
abbrev pub RunGoesOn : Run → (target : ℕ) → (bytes old : List ℕ) → Run → (new : List ℕ) → Type 0
RunGoesOn before target bytes old after new =
    ((after ≡ record before { is_over = true }) × (new ≡ old)) ⊎
    ((before.is_over ≡ false)
    × (target ≡ before.target)
    × (length bytes ≤ before.each)
    × ((before.count ≡ 0) ⊎ (length bytes ≢ 40))
    × (before.len + length bytes ≤ length old)
    × (after ≡ record before {
      count = before.count + 1;
      len = before.len + length bytes;
      is_over = nat_lt (length bytes) before.each;
    })
    × (new ≡ take before.len old ++ bytes ++ drop (before.len + length bytes) old))

-- the bytes of a datagram, if there is one
abbrev pub bytes_in : Option Parcel → List ℕ
bytes_in None = []
bytes_in (Some d) = d.1

-- the bytes of the first datagrams, one behind the other
abbrev pub joined : List Parcel → (count : ℕ) → List ℕ
joined list zero = []
joined list (suc count) = joined list count ++ bytes_in (slice_get list count)

-- a datagram is for this rank
abbrev pub IsFor : (target : ℕ) → Option Parcel → Type 0
IsFor target None = ⊥
IsFor target (Some d) = d.0 ≡ target

-- the first datagrams are
abbrev pub AreFor : (target : ℕ) → List Parcel → (count : ℕ) → Type 0
AreFor target list zero = Unit {0}
AreFor target list (suc count) = AreFor target list count × IsFor target (slice_get list count)

-- the first datagrams have this length
abbrev pub AreLong : (each : ℕ) → List Parcel → (count : ℕ) → Type 0
AreLong each list zero = Unit {0}
AreLong each list (suc count) = AreLong each list count × (length (bytes_in (slice_get list count)) ≡ each)

-- all but the last have this length, and that is no longer
abbrev pub AreEven : (each : ℕ) → List Parcel → (count : ℕ) → Type 0
AreEven each list zero = Unit {0}
AreEven each list (suc count) = AreLong each list count × (length (bytes_in (slice_get list count)) ≤ each)

-- of the first datagrams none but the very first is as long as an acknowledgement
abbrev pub NoneIsShort : List Parcel → (count : ℕ) → Type 0
NoneIsShort list zero = Unit {0}
NoneIsShort list (suc count) =
    NoneIsShort list count × ((count ≡ 0) ⊎ (length (bytes_in (slice_get list count)) ≢ 40))

-- the first datagrams of a list were put into a slice
pub record IsRun (most : ℕ) (list : List Parcel) (r : Run) (old new : List ℕ) : Type 0 where
  pub count : r.count ≤ length list
  pub few : r.count ≤ most
  pub len : r.len ≡ length (joined list r.count)
  pub bytes : new ≡ joined list r.count ++ drop r.len old
  pub targets : AreFor r.target list r.count
  pub lengths : AreEven r.each list r.count
  pub plain : NoneIsShort list r.count
  pub some : (r.count ≡ 0) → (most ≡ 0) ⊎ ((list ≡ []) ⊎ (length old < length (bytes_in (slice_get list 0))))

-- these datagrams, which go together, stand in front in a slice, and the record tells of them
pub record Stands (went : List Parcel) (o : OutgoingRecord) (len : ℕ) (old new : List ℕ) : Type 0 where
  pub count : o.count ≡ length went
  pub size : len ≡ length (joined went (length went))
  pub bytes : new ≡ joined went (length went) ++ drop len old
  pub targets : AreFor o.target went (length went)
  pub each : ℕ
  pub told : o.each ≡ min each (2 ^ 32 - 1)
  pub lengths : AreEven each went (length went)
