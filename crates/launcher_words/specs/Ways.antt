-- By which way a process has its place in a job.
use Rattle.std.specs.Prelude.{◌≡◌, ℕ, ◌<◌, ◌≤◌, Bool, true, false, not, ◌&&◌, ◌||◌, ◌==◌, List, [], ◌∷◌, codes, is_some}
use Rattle.std.specs.Prelude.{Option, Some, None, if◌then◌else◌}
use Rattle.std.specs.Net.Addr.{IsIpv4Addr, ipv4_octets}
use Rattle.std.specs.declared.net.ipv4_addr.Ipv4Addr.{Ipv4Addr}
use Rattle.numerals.specs.Numbers.{number_between}
use Rattle.launcher_words.specs.declared.answer.Wire.{Wire}
use Rattle.launcher_words.specs.declared.answer.Wire.TheVariants.{Lines, Records}
use Rattle.launcher_words.specs.declared.ports.PortRange.{PortRange}
use Rattle.launcher_words.specs.declared.way.Fault.{Fault}
use Rattle.launcher_words.specs.declared.way.Fault.TheVariants as faults
use Rattle.launcher_words.specs.declared.way.LauncherPlace.{LauncherPlace}
use Rattle.launcher_words.specs.declared.way.Way.{Way}
use Rattle.launcher_words.specs.declared.way.Way.TheVariants as ways
use Rattle.launcher_words.specs.Places.{address_text}
use Rattle.launcher_words.specs.Ports.{IsRange, range_text}
use Rattle.launcher_words.specs.Words.{value_of}

-- the value of a variable: the environment is `NAME=value` each, with a byte 0 behind each
abbrev pub variable : (environment name : List ℕ) → Option (List ℕ)
variable environment name = value_of name 0 environment

abbrev pub is_there : (environment name : List ℕ) → Bool
is_there environment name = is_some (variable environment name)

-- the number between these bounds that a value spells
abbrev pub number_by : Option (List ℕ) → (low high : ℕ) → Option ℕ
number_by None low high = None
number_by (Some text) low high = number_between text low high

abbrev pub number_in : (environment name : List ℕ) (low high : ℕ) → Option ℕ
number_in environment name low high = number_by (variable environment name) low high

-- a variable that tells the rank's place is there
abbrev pub is_named : List ℕ → Bool
is_named environment =
    is_there environment (codes "KOMBAZILY_RANK") || is_there environment (codes "KOMBAZILY_SIZE")
    || is_there environment (codes "KOMBAZILY_INCARNATION") || is_there environment (codes "KOMBAZILY_JOB")
    || is_there environment (codes "KOMBAZILY_PORT")

-- a variable of PMI is there
abbrev pub is_told_by_pmi : List ℕ → Bool
is_told_by_pmi environment =
    is_there environment (codes "PMI_FD") || is_there environment (codes "PMI_RANK")
    || is_there environment (codes "PMI_SIZE") || is_there environment (codes "PMI_PORT")

-- 2 is records, 1 is lines
abbrev pub wire_of : Option ℕ → Option Wire
wire_of None = None
wire_of (Some version) = Some (if version == 2 then Records else Lines)

-- which version of PMI is spoken: lines, unless `KOMBAZILY_PMI` says otherwise
abbrev pub wire_in : List ℕ → Option Wire
wire_in environment =
    if is_there environment (codes "KOMBAZILY_PMI") then wire_of (number_in environment (codes "KOMBAZILY_PMI") 1 2)
    else Some Lines

-- the value tells these ports; where there is none any port may be taken
abbrev pub TellsPorts : Option (List ℕ) → Option PortRange → Type 0
TellsPorts None None = Unit {0}
TellsPorts None (Some range) = ⊥
TellsPorts (Some text) None = ⊥
TellsPorts (Some text) (Some range) = IsRange range × (text ≡ range_text range)

abbrev pub IsPorts : List ℕ → Option PortRange → Type 0
IsPorts environment ports = TellsPorts (variable environment (codes "KOMBAZILY_PORTS")) ports

-- the ports that are told, or none where what is told is no range
abbrev pub HasPorts : List ℕ → Option (Option PortRange) → Type 0
HasPorts environment (Some ports) = IsPorts environment ports
HasPorts environment None = (ports : Option PortRange) → IsPorts environment ports → ⊥

-- the value tells this address; where there is none it is 192.0.2.1, to which only the default route leads
abbrev pub TellsNetwork : Option (List ℕ) → Ipv4Addr → Type 0
TellsNetwork None host = ipv4_octets host ≡ 192 ∷ 0 ∷ 2 ∷ 1 ∷ []
TellsNetwork (Some text) host = IsIpv4Addr host × (text ≡ address_text host)

abbrev pub IsNetwork : List ℕ → Ipv4Addr → Type 0
IsNetwork environment host = TellsNetwork (variable environment (codes "KOMBAZILY_TOWARDS")) host

abbrev pub HasNetwork : List ℕ → Option Ipv4Addr → Type 0
HasNetwork environment (Some host) = IsNetwork environment host
HasNetwork environment None = (host : Ipv4Addr) → IsNetwork environment host → ⊥

-- a patience that was read
abbrev pub patience_of : Option ℕ → Option (Option ℕ)
patience_of None = None
patience_of (Some patience) = Some (Some patience)

-- the patience that is told; it need not be there
abbrev pub patience_in : List ℕ → Option (Option ℕ)
patience_in environment =
    if is_there environment (codes "KOMBAZILY_PATIENCE")
    then patience_of (number_in environment (codes "KOMBAZILY_PATIENCE") 1 3600000) else Some None

-- the variables of PMI tell this rank and this size
pub record IsRankOfSize (environment : List ℕ) (rank size : ℕ) : Type 0 where
  pub rank_is : number_in environment (codes "PMI_RANK") 0 1023 ≡ Some rank
  pub size_is : number_in environment (codes "PMI_SIZE") 1 1024 ≡ Some size
  pub below : rank < size

-- the environment tells this place
pub record Tells (environment : List ℕ) (place : LauncherPlace) : Type 0 where
  pub descriptor : number_in environment (codes "PMI_FD") 0 2147483647 ≡ Some place.descriptor
  pub told : IsRankOfSize environment place.rank place.size
  pub wire : wire_in environment ≡ Some place.wire
  pub ports : IsPorts environment place.ports
  pub towards : IsNetwork environment place.towards
  pub patience : patience_in environment ≡ Some place.patience

-- the rank that is told isn't below the size that is told
pub record IsOutside (environment : List ℕ) : Type 0 where
  pub rank : ℕ
  pub size : ℕ
  pub rank_is : number_in environment (codes "PMI_RANK") 0 1023 ≡ Some rank
  pub size_is : number_in environment (codes "PMI_SIZE") 1 1024 ≡ Some size
  pub outside : size ≤ rank

-- the variable tells of more than one process
abbrev pub is_many : (environment name : List ℕ) → Bool
is_many environment name = is_some (number_in environment name 2 18446744073709551615)

-- a launcher that speaks PMIx started the process, and nothing tells how many there are
abbrev pub is_pmix_alone : List ℕ → Bool
is_pmix_alone environment =
    is_there environment (codes "PMIX_NAMESPACE")
    && (not (is_there environment (codes "SLURM_STEP_NUM_TASKS"))
    && not (is_there environment (codes "OMPI_COMM_WORLD_SIZE")))

-- which other launcher started several processes, each of which would be a job of its own
abbrev pub other_launcher : List ℕ → Option Fault
other_launcher environment =
    if is_many environment (codes "SLURM_STEP_NUM_TASKS") then Some faults.Slurm
    else (if is_many environment (codes "OMPI_COMM_WORLD_SIZE") then Some faults.OpenMpi
    else (if is_pmix_alone environment then Some faults.Pmix
    else None))

-- a job of one rank, or the fault that there is
abbrev pub alone_unless : Option Fault → Way
alone_unless None = ways.Alone
alone_unless (Some fault) = ways.Refused fault

-- the way of a process that no launcher of ours and none that speaks PMI started
abbrev pub other_way : List ℕ → Way
other_way environment =
    if is_there environment (codes "KOMBAZILY_PARENT") then ways.Alone
    else alone_unless (other_launcher environment)

-- what is told by PMI is at fault, by this
abbrev pub IsFault : List ℕ → Fault → Type 0
IsFault environment faults.Descriptor = number_in environment (codes "PMI_FD") 0 2147483647 ≡ None
IsFault environment faults.Size = number_in environment (codes "PMI_SIZE") 1 1024 ≡ None
IsFault environment faults.Rank = number_in environment (codes "PMI_RANK") 0 1023 ≡ None
IsFault environment faults.Order = IsOutside environment
IsFault environment faults.Wire = wire_in environment ≡ None
IsFault environment faults.Ports = (ports : Option PortRange) → IsPorts environment ports → ⊥
IsFault environment faults.Network = (host : Ipv4Addr) → IsNetwork environment host → ⊥
IsFault environment faults.Patience = patience_in environment ≡ None
IsFault environment faults.Slurm = ⊥
IsFault environment faults.OpenMpi = ⊥
IsFault environment faults.Pmix = ⊥

-- the way by PMI: the place that is told, or a fault that there is
abbrev pub IsPmiWay : List ℕ → Way → Type 0
IsPmiWay environment (ways.Launcher place) = Tells environment place
IsPmiWay environment (ways.Refused fault) = IsFault environment fault
IsPmiWay environment ways.Words = ⊥
IsPmiWay environment ways.Variables = ⊥
IsPmiWay environment ways.Alone = ⊥

-- the way, by which of the three tells first
abbrev pub IsWayBy : (has_words is_named is_told : Bool) → List ℕ → Way → Type 0
IsWayBy true named told environment way = way ≡ ways.Words
IsWayBy false true told environment way = way ≡ ways.Variables
IsWayBy false false true environment way = IsPmiWay environment way
IsWayBy false false false environment way = way ≡ other_way environment

abbrev pub IsWay : Bool → List ℕ → Way → Type 0
IsWay has_words environment way = IsWayBy has_words (is_named environment) (is_told_by_pmi environment) environment way
