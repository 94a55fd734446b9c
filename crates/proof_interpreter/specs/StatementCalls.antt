-- What statements ask of the machine.
use Rattle.std.specs.Prelude.{◌≡◌, ℕ, ◌^◌, true, false, nat_lt, length, List, [], ◌∷◌, Option, Some, None, option_map}
use Rattle.layouts.specs.Buffers.{Contents}
use Rattle.layouts.specs.Layouts.{Shape}
use Rattle.vocabulary.specs.declared.mode.Mode.TheVariants as modes
use Rattle.perfect_queues.specs.Buffers.{Handed, whole}
use Rattle.perfect_queues.specs.Completions.{AllOf, AnyOf, One}
use Rattle.perfect_groups.specs.Calls as machine
use Rattle.perfect_groups.specs.Collectives as collectives
use Rattle.observation.specs.CoreCalls.{own_serial, request_by}
use Rattle.observation.specs.EngineCalls.{call_seen}
use Rattle.requests.specs.declared.table.Request.{Request}
use Rattle.script_calls.specs.Entries.{elements_like}
use Rattle.script_calls.specs.Tables.{value_at}
use Rattle.script_calls.specs.declared.pending.NamedCommunicator.{NamedCommunicator}
use Rattle.script_calls.specs.declared.pending.NamedMessage.TheVariants as messages
use Rattle.script_calls.specs.declared.pending.NamedRequest.{NamedRequest}
use Rattle.statements.specs.declared.action.Action.TheVariants as actions
use Rattle.statements.specs.declared.action.BufferLine.{BufferLine}
use Rattle.statements.specs.declared.action.CommunicatorName.{CommunicatorName}
use Rattle.statements.specs.declared.action.CommunicatorName.TheVariants as communicators
use Rattle.statements.specs.declared.action.Landing.{Landing}
use Rattle.statements.specs.declared.action.LayoutClause.{LayoutClause}
use Rattle.statements.specs.declared.action.Probing.{Probing}
use Rattle.statements.specs.declared.action.Receiving.{Receiving}
use Rattle.statements.specs.declared.action.RequestName.{RequestName}
use Rattle.statements.specs.declared.action.RequestName.TheVariants as requested
use Rattle.statements.specs.declared.action.Sending.{Sending}
use Rattle.statements.specs.declared.action.Splitting.{Splitting}
use Rattle.statements.specs.declared.collective_line.Broadcasting.{Broadcasting}
use Rattle.statements.specs.declared.collective_line.Gathering.{Gathering}
use Rattle.statements.specs.declared.collective_line.Reducing.{Reducing}
use Rattle.statements.specs.declared.collective_line.ReducingToAll.{ReducingToAll}
use Rattle.statements.specs.declared.collective_line.Scattering.{Scattering}
use Rattle.interpreter.specs.StatementCalls.{Acts, acts_on, receives_to_wait, sends_to_wait}
use Rattle.interpreter.specs.NamesState.{NamesState, is_lent, is_root}
use Rattle.interpreter.specs.declared.steps.NextStep.TheVariants as nexts
use Rattle.proof_interpreter.specs.Names.{AllStays, Holds, IsLent, OthersStay}

-- it is this call, as the machine sees it
abbrev pub Asks : Acts → machine.Call → Type 0
Asks (None, new) asked = ⊥
Asks (Some nexts.Nothing, new) asked = ⊥
Asks (Some (nexts.Call made), new) asked = call_seen made.call ≡ asked
Asks (Some (nexts.Told told), new) asked = ⊥

-- it is this call, and every name stands for what it stood for
abbrev pub AsksAlone : NamesState → Acts → machine.Call → Type 0
AsksAlone s acts asked = Asks acts asked × AllStays s acts.1

-- it is this call, the buffer of this name is lent to it, and every other name stands for what it stood for
pub record AsksWith (s : NamesState) (name : List ℕ) (acts : Acts) (asked : machine.Call) : Type 0 where
  pub asks : Asks acts asked
  pub lent : IsLent acts.1 name
  pub others : OthersStay s acts.1 None (Some name) None None
  pub last : acts.1.last ≡ s.last

-- ---- what names stand for, as the machine has it

-- a communicator by its place in the rank's list: world's 0, self's 1; none is MPI_COMM_NULL
abbrev pub IsPlaceOf : NamesState → CommunicatorName → Option ℕ → Type 0
IsPlaceOf s communicators.World comm = comm ≡ Some 0
IsPlaceOf s communicators.Own comm = comm ≡ Some 1
IsPlaceOf s (communicators.Named name) comm =
    (held : Option NamedCommunicator) × (value_at s.communicators name ≡ Some held) ×
    (comm ≡ option_map (λ c. c.place) held)

-- what of a buffer is handed in: all of it, or so many copies of a layout
abbrev pub IsHanded : NamesState → Option LayoutClause → Contents → Handed → Type 0
IsHanded s None elements handed = handed ≡ whole elements
IsHanded s (Some through) elements handed =
    (layout : Shape) × (value_at s.layouts through.layout ≡ Some layout) ×
    (handed ≡ record { buffer = elements; layout = layout; copies = through.copies })

-- a request by its serial; none is the null request
abbrev pub IsRequest : NamesState → RequestName → Option ℕ → Type 0
IsRequest s requested.Null serial = serial ≡ None
IsRequest s (requested.Named name) serial =
    (held : NamedRequest) × (value_at s.requests name ≡ Some held) × (serial ≡ request_by own_serial held.request)

-- several of them, in order
abbrev pub AreRequests : NamesState → List RequestName → List (Option ℕ) → Type 0
AreRequests s [] [] = Unit {0}
AreRequests s [] (k ∷ ks) = ⊥
AreRequests s (r ∷ rs) [] = ⊥
AreRequests s (r ∷ rs) (k ∷ ks) = IsRequest s r k × AreRequests s rs ks

-- a message that was taken out, by its serial; none is that of the null process
abbrev pub IsMessage : NamesState → List ℕ → Option ℕ → Type 0
IsMessage s name serial =
    (message : Option Request) × (value_at s.messages name ≡ Some (messages.TakenOut message)) ×
    (serial ≡ request_by own_serial message)

-- a record of a collective can say how many elements a block has
abbrev pub IsCountable : Contents → Type 0
IsCountable block = nat_lt (length block.values) (2 ^ 32) ≡ true

-- ---- statements

-- A buffer that isn't lent is set, and nothing is asked
pub record IsSet (s : NamesState) (line : BufferLine) (acts : Acts) : Type 0 where
  pub asks : acts.0 ≡ Some nexts.Nothing
  pub holds : Holds acts.1 line.name line.value
  pub others : OthersStay s acts.1 None (Some line.name) None None
  pub last : acts.1.last ≡ s.last

abbrev pub BuffersAreSet : Type 0
BuffersAreSet = (s : NamesState) (line : BufferLine) → is_lent s line.name ≡ false →
    IsSet s line (acts_on (actions.Buffer line) s)

-- A SEND hands in the elements of its buffer (MPI 3.1, 3.2.1, 3.4, 3.7.2)
abbrev pub SendsAsk : Type 0
SendsAsk =
    (s : NamesState) (name : List ℕ) (x : Sending) (comm : Option ℕ) (elements : Contents) (handed : Handed) →
    IsPlaceOf s x.communicator comm → Holds s x.buffer elements → IsHanded s x.through elements handed →
    AsksAlone s (acts_on (actions.Isend name x) s) (machine.Isend modes.Standard comm x.target x.tag handed) ×
    AsksAlone s (acts_on (actions.Issend name x) s) (machine.Isend modes.Synchronous comm x.target x.tag handed) ×
    AsksAlone s (sends_to_wait x s) (machine.Isend modes.Standard comm x.target x.tag handed)

-- A RECEIVE hands its buffer in, which is lent from then on (3.2.4, 3.7.2)
abbrev pub ReceivesAsk : Type 0
ReceivesAsk =
    (s : NamesState) (name : List ℕ) (x : Receiving) (comm : Option ℕ) (elements : Contents) (handed : Handed) →
    IsPlaceOf s x.communicator comm → Holds s x.buffer elements → IsHanded s x.through elements handed →
    AsksWith s x.buffer (acts_on (actions.Irecv name x) s) (machine.Irecv comm x.source x.tag handed) ×
    AsksWith s x.buffer (receives_to_wait x s) (machine.Irecv comm x.source x.tag handed)

-- Probes, and the receive of a message that was taken out (3.8.1 to 3.8.3)
abbrev pub ProbesAsk : Type 0
ProbesAsk =
    (s : NamesState) (name : List ℕ) (x : Probing) (comm : Option ℕ) → IsPlaceOf s x.communicator comm →
    AsksAlone s (acts_on (actions.Iprobe x) s) (machine.Iprobe comm x.source x.tag) ×
    AsksAlone s (acts_on (actions.Improbe name x) s) (machine.Improbe comm x.source x.tag)

abbrev pub LandingsAsk : Type 0
LandingsAsk =
    (s : NamesState) (name : List ℕ) (x : Landing) (message : Option ℕ) (elements : Contents) (handed : Handed) →
    IsMessage s name message → Holds s x.buffer elements → IsHanded s x.through elements handed →
    AsksWith s x.buffer (acts_on (actions.Mrecv name x) s) (machine.Mrecv message handed)

-- Waits, tests and cancels (3.7.3 to 3.8.4)
abbrev pub WaitsAsk : Type 0
WaitsAsk = (s : NamesState) (r : RequestName) (serial : Option ℕ) → IsRequest s r serial →
    AsksAlone s (acts_on (actions.Wait r) s) (machine.Wait (One serial)) ×
    AsksAlone s (acts_on (actions.Test r) s) (machine.Test serial) ×
    AsksAlone s (acts_on (actions.Cancel r) s) (machine.Cancel serial)

abbrev pub LongWaitsAsk : Type 0
LongWaitsAsk = (s : NamesState) (rs : List RequestName) (serials : List (Option ℕ)) → AreRequests s rs serials →
    AsksAlone s (acts_on (actions.Waitany rs) s) (machine.Wait (AnyOf serials)) ×
    AsksAlone s (acts_on (actions.Waitall rs) s) (machine.Wait (AllOf serials))

-- Collectives (5.3 to 5.9): who hands in a block hands in the elements of its buffer, in its communicator, with its
-- root and its operation
pub record CollectivesAsk : Type 0 where
  pub barrier :
      (s : NamesState) (c : CommunicatorName) (comm : Option ℕ) → IsPlaceOf s c comm →
      AsksAlone s (acts_on (actions.Barrier c) s) (machine.Enter comm collectives.Barrier)
  pub bcast :
      (s : NamesState) (x : Broadcasting) (comm : Option ℕ) (block : Contents) → IsPlaceOf s x.communicator comm →
      Holds s x.buffer block → IsCountable block →
      AsksAlone s (acts_on (actions.Bcast x) s) (machine.Enter comm (collectives.Bcast x.root block))
  pub gather :
      (s : NamesState) (x : Gathering) (comm : Option ℕ) (block : Contents) → IsPlaceOf s x.communicator comm →
      Holds s x.buffer block → IsCountable block → is_lent s x.into ≡ false →
      AsksAlone s (acts_on (actions.Gather x) s) (machine.Enter comm (collectives.Gather x.root block))
  pub reduce :
      (s : NamesState) (x : Reducing) (comm : Option ℕ) (block : Contents) → IsPlaceOf s x.communicator comm →
      Holds s x.buffer block → IsCountable block → is_lent s x.into ≡ false →
      AsksAlone s (acts_on (actions.Reduce x) s) (machine.Enter comm (collectives.Reduce x.root x.operation block))
  pub allreduce :
      (s : NamesState) (x : ReducingToAll) (comm : Option ℕ) (block : Contents) → IsPlaceOf s x.communicator comm →
      Holds s x.buffer block → IsCountable block → is_lent s x.into ≡ false →
      AsksAlone s (acts_on (actions.Allreduce x) s) (machine.Enter comm (collectives.Allreduce x.operation block))
  -- the root hands in what is scattered, and all say of which type and how long a block is, by the buffer that gets it
  pub scatter_at_root :
      (s : NamesState) (x : Scattering) (comm : Option ℕ) (name : List ℕ) (all into : Contents) →
      IsPlaceOf s x.communicator comm → Holds s x.into into → is_root s x.communicator x.root ≡ true →
      x.buffer ≡ Some name → Holds s name all →
      AsksAlone s (acts_on (actions.Scatter x) s)
      (machine.Enter comm (collectives.Scatter x.root (Some all) into.basic (elements_like into).count))
  pub scatter_elsewhere :
      (s : NamesState) (x : Scattering) (comm : Option ℕ) (into : Contents) → IsPlaceOf s x.communicator comm →
      Holds s x.into into → is_root s x.communicator x.root ≡ false →
      AsksAlone s (acts_on (actions.Scatter x) s)
      (machine.Enter comm (collectives.Scatter x.root None into.basic (elements_like into).count))

-- Communicators (6.4): new ones, and questions
pub record CommunicatorsAsk : Type 0 where
  pub dup :
      (s : NamesState) (name : List ℕ) (c : CommunicatorName) (comm : Option ℕ) → IsPlaceOf s c comm →
      AsksAlone s (acts_on (actions.Dup name c) s) (machine.Enter comm collectives.CommDup)
  pub split :
      (s : NamesState) (name : List ℕ) (x : Splitting) (comm : Option ℕ) → IsPlaceOf s x.communicator comm →
      AsksAlone s (acts_on (actions.Split name x) s) (machine.Enter comm (collectives.CommSplit x.colour x.key))
  pub who :
      (s : NamesState) (c : CommunicatorName) (comm : Option ℕ) → IsPlaceOf s c comm →
      AsksAlone s (acts_on (actions.Who c) s) (machine.Inquire comm machine.RankIn)
  pub members :
      (s : NamesState) (c : CommunicatorName) (comm : Option ℕ) → IsPlaceOf s c comm →
      AsksAlone s (acts_on (actions.Members c) s) (machine.Inquire comm machine.GroupIs)
  pub compare :
      (s : NamesState) (c d : CommunicatorName) (comm other : Option ℕ) → IsPlaceOf s c comm → IsPlaceOf s d other →
      AsksAlone s (acts_on (actions.Compare c d) s) (machine.Inquire comm (machine.ComparedWith other))

pub record StatementsAsk : Type 0 where
  pub buffers : BuffersAreSet
  pub sends : SendsAsk
  pub receives : ReceivesAsk
  pub probes : ProbesAsk
  pub landings : LandingsAsk
  pub waits : WaitsAsk
  pub long_waits : LongWaitsAsk
  pub collectives : CollectivesAsk
  pub communicators : CommunicatorsAsk
