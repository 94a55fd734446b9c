-- What C is handed: numbers alone.
use Rattle.std.specs.Prelude.{◌≡◌, ◌≤◌, ◌<◌, ◌++◌, ◌==◌, ℕ, List, drop, length, is_some, unwrap_or}
use Rattle.std.specs.Prelude.{Option, Some, None, if◌then◌else◌}
use Rattle.std.specs.Net.Addr.{IsIpv4OfBits, ipv4_bits}
use Rattle.launcher_words.specs.declared.answer.Answer.{Answer}
use Rattle.launcher_words.specs.declared.answer.Answer.TheVariants.{Given, Failed, Other}
use Rattle.launcher_words.specs.declared.answer.Wire.{Wire}
use Rattle.launcher_words.specs.declared.answer.Wire.TheVariants.{Lines, Records}
use Rattle.launcher_words.specs.declared.place.ToldPlace.{ToldPlace}
use Rattle.launcher_words.specs.declared.ports.PortRange.{PortRange}
use Rattle.launcher_words.specs.declared.records.ToldPlaceRecord.{ToldPlaceRecord}
use Rattle.launcher_words.specs.declared.records.WayRecord.{WayRecord}
use Rattle.launcher_words.specs.declared.way.Fault.{Fault}
use Rattle.launcher_words.specs.declared.way.Fault.TheVariants as faults
use Rattle.launcher_words.specs.declared.way.LauncherPlace.{LauncherPlace}
use Rattle.launcher_words.specs.declared.way.Way.{Way}
use Rattle.launcher_words.specs.declared.way.Way.TheVariants as ways

abbrev pub fault_number : Fault → ℕ
fault_number faults.Descriptor = 1
fault_number faults.Size = 2
fault_number faults.Rank = 3
fault_number faults.Order = 4
fault_number faults.Wire = 5
fault_number faults.Ports = 6
fault_number faults.Network = 7
fault_number faults.Patience = 8
fault_number faults.Slurm = 9
fault_number faults.OpenMpi = 10
fault_number faults.Pmix = 11

abbrev pub answer_number : Answer → ℕ
answer_number Given = 0
answer_number Failed = 1
answer_number Other = 2

abbrev pub wire_number : Wire → ℕ
wire_number Lines = 1
wire_number Records = 2

abbrev pub wire_of_number : ℕ → Wire
wire_of_number number = if number == 2 then Records else Lines

-- the ends of a range, or twice 0
abbrev pub ends_of : Option PortRange → ℕ × ℕ
ends_of None = (0, 0)
ends_of (Some range) = (range.first, range.last)

-- a way of which no more is told
abbrev pub told_by : (kind fault : ℕ) → WayRecord
told_by kind fault =
    record {
      kind = kind;
      fault = fault;
      descriptor = 0;
      wire = 0;
      towards = 0;
      patience = 0;
      rank = 0;
      size = 0;
      first_port = 0;
      last_port = 0;
    }

-- a place that a launcher tells
abbrev pub launcher_record : LauncherPlace → WayRecord
launcher_record place =
    record {
      kind = 3;
      fault = 0;
      descriptor = place.descriptor;
      wire = wire_number place.wire;
      towards = ipv4_bits place.towards;
      patience = unwrap_or place.patience 0;
      rank = place.rank;
      size = place.size;
      first_port = (ends_of place.ports).0;
      last_port = (ends_of place.ports).1;
    }

abbrev pub way_record : Way → WayRecord
way_record ways.Words = told_by 1 0
way_record ways.Variables = told_by 2 0
way_record (ways.Launcher place) = launcher_record place
way_record ways.Alone = told_by 4 0
way_record (ways.Refused fault) = told_by 5 (fault_number fault)

-- a rank's place as numbers
abbrev pub place_record : ToldPlace → ToldPlaceRecord
place_record place =
    record {
      job = unwrap_or place.job 0;
      address = ipv4_bits place.host;
      port = place.port;
      has_job = is_some place.job;
    }

-- the place that these numbers tell
pub record IsPlaceOf (numbers : ToldPlaceRecord) (place : ToldPlace) : Type 0 where
  pub host : IsIpv4OfBits place.host numbers.address
  pub port : place.port ≡ numbers.port
  pub job : place.job ≡ (if numbers.has_job then Some numbers.job else None)

-- the text stands over the first bytes, where there are so many; else nothing is put
pub record IsPut (text old new : List ℕ) (len : ℕ) : Type 0 where
  pub fits : length text ≤ length old → (len ≡ length text) × (new ≡ text ++ drop (length text) old)
  pub small : length old < length text → (len ≡ 0) × (new ≡ old)
