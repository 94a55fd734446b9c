-- An engine that is orderly stays so, whatever calls and bytes it is handed.
use Rattle.std.specs.Prelude.{ℕ, ◌<◌, List, Result}
use Rattle.std.specs.List.{AllByRecursion}
use Rattle.collective_messages.specs.declared.note.NoteContent.{NoteContent}
use Rattle.collective_messages.specs.declared.note.NoteContent.TheVariants as said
use Rattle.engine.specs.Datagrams.{DatagramGives}
use Rattle.engine.specs.Ticks.{TickGives, after_wait}
use Rattle.engine_calls.specs.Calls.{CallGives}
use Rattle.engine_calls.specs.EngineState.{EngineState, opening, without_completion, without_out}
use Rattle.engine_calls.specs.declared.call.Call.{Call}
use Rattle.engine_calls.specs.declared.reply.Reply.{Reply}
use Rattle.incarnation.specs.declared.place.Place.{Place}
use Rattle.point_to_point_calls.specs.declared.refusal.Refusal.{Refusal}
use Rattle.proof_engine_faults.specs.Own.{IsOrderly}

-- what a rank was told names no rank that a job of so many lacks: the members of a new communicator are of the job
abbrev pub NamesOfJob : (size : ℕ) → NoteContent → Type 0
NamesOfJob size said.RecordsDiffer = Unit {0}
NamesOfJob size (said.Nothing way) = Unit {0}
NamesOfJob size (said.Elements way elements) = Unit {0}
NamesOfJob size (said.Context number) = Unit {0}
NamesOfJob size (said.Choice choice) = Unit {0}
NamesOfJob size said.NullCommunicator = Unit {0}
NamesOfJob size (said.NewGroup number group) = AllByRecursion (λ rank. rank < size) group

-- The engine is orderly, and nothing that it was told can change that: its own rank is one of its job's, and so are all
-- that it was told of
pub record StaysOrderly (e : EngineState) : Type 0 where
  pub orderly : IsOrderly e
  pub there : e.sessions.place.endpoint.rank < e.sessions.place.size
  pub told : AllByRecursion (λ n. NamesOfJob e.sessions.place.size n.said) e.groups.collective.kept

-- so is each new one, at whatever incarnation of its rank
abbrev pub NewEnginesStayOrderly : Type 0
NewEnginesStayOrderly = (p : Place) → p.endpoint.rank < p.size → StaysOrderly (opening p)

-- so it stays by a call, which is taken or refused
abbrev pub CallsKeepOrder : Type 0
CallsKeepOrder =
    (old mid : EngineState) (call : Call) (reply : Reply) → StaysOrderly old → CallGives old call reply mid →
    StaysOrderly mid

-- by a datagram, whatever its bytes are, which is taken in or refused
abbrev pub DatagramsKeepOrder : Type 0
DatagramsKeepOrder =
    (old mid : EngineState) (bytes : List ℕ) (result : Result (Unit {0}) Refusal) → StaysOrderly old →
    DatagramGives old bytes result mid → StaysOrderly mid

-- by a tick
abbrev pub TicksKeepOrder : Type 0
TicksKeepOrder =
    (old mid : EngineState) (now : ℕ) (result : Result (Unit {0}) Refusal) → StaysOrderly old →
    TickGives old now result mid → StaysOrderly mid

-- where what it emitted is taken out, and where the answer of a blocked call is
abbrev pub OutKeepsOrder : Type 0
OutKeepsOrder = (e : EngineState) → StaysOrderly e → StaysOrderly (without_out e)

abbrev pub CompletionsKeepOrder : Type 0
CompletionsKeepOrder = (e : EngineState) → StaysOrderly e → StaysOrderly (without_completion e)

-- and where it is told how long frames wait for their acknowledgements
abbrev pub WaitsKeepOrder : Type 0
WaitsKeepOrder = (e : EngineState) (rank wait : ℕ) → StaysOrderly e → StaysOrderly (after_wait e rank wait)
