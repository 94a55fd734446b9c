-- What a line has begun, where memory is then wanting: steps of the world, and of what they print a beginning.
use Rattle.std.specs.Prelude.{◌≡◌, ◌⊎◌, ℕ, List, [], ◌∷◌, Option, Some, None, Result, Ok, Err}
use Rattle.engine_calls.specs.declared.reply.Completion.{Completion}
use Rattle.event_files.specs.declared.file.EventStatement.{EventStatement}
use Rattle.event_files.specs.declared.file.EventStatement.TheVariants as statements
use Rattle.interpreter.specs.StatementCalls.{acts_on}
use Rattle.interpreter.specs.declared.steps.NextStep.{NextStep}
use Rattle.interpreter.specs.declared.steps.NextStep.TheVariants as nexts
use Rattle.simulation.specs.Courses.{Scene, names_at, scene}
use Rattle.simulation.specs.Parts.{CallGives, CallsGive, Part, Standing, answer_lines, joined, no_part, standing, step_part}
use Rattle.simulation.specs.Output.{PrintsBeginning}
use Rattle.simulation.specs.RankAnswers.{entry_in, takes_completion, with_names}
use Rattle.simulation.specs.declared.error.SimulateError.{SimulateError}
use Rattle.simulation.specs.declared.error.SimulateError.TheVariants as errors
use Rattle.interpreter.specs.declared.steps.PendingCall.{PendingCall}
use Rattle.statements.specs.declared.action.Action.{Action}
use Rattle.world.specs.Headline.{IsRunOfMachine}
use Rattle.world.specs.Steps.{StepGives}
use Rattle.world.specs.WorldState.{WorldState}
use Rattle.world.specs.declared.event.Event.{Event}
use Rattle.world.specs.declared.event.Event.TheVariants as events
use Rattle.world.specs.declared.event.Failed.{Failed}
use Rattle.world.specs.declared.event.HistoryEntry.{HistoryEntry}
use Rattle.world.specs.declared.event.Stepped.{Stepped}

-- a call, whatever comes behind it
pub record CallMade (rank : ℕ) (asks : PendingCall) (from : Standing) (part : Part) : Type 0 where
  pub next : Option PendingCall
  pub to : Standing
  pub call : CallGives rank asks from part next to

-- the further call of a statement
abbrev pub FurtherBegins : (rank : ℕ) → Option PendingCall → Standing → Part → Type 0
FurtherBegins rank None from part = ⊥
FurtherBegins rank (Some asks) from part = CallMade rank asks from part

-- the calls of a statement: the first one, or both
abbrev pub CallsBegin : (rank : ℕ) → PendingCall → Standing → Part → Type 0
CallsBegin rank asks from part =
    CallMade rank asks from part ⊎ ((to : Standing) × CallsGive rank asks from part to)

-- the calls that follow from an answer, if any do
abbrev pub FollowingBegins : (rank : ℕ) → Option PendingCall → Standing → Part → Type 0
FollowingBegins rank None from part = ⊥
FollowingBegins rank (Some asks) from part = CallsBegin rank asks from part

-- what a statement asks for
abbrev pub AskBegins : (rank : ℕ) → Option NextStep → Standing → Part → Type 0
AskBegins rank None from part = ⊥
AskBegins rank (Some nexts.Nothing) from part = ⊥
AskBegins rank (Some (nexts.Call asks)) from part = CallsBegin rank asks from part
AskBegins rank (Some (nexts.Told told)) from part = ⊥

-- a statement: nothing yet, or its calls
abbrev pub ActBegins : (rank : ℕ) → Action → Standing → Part → Type 0
ActBegins rank action from part = (part ≡ no_part) ⊎
    AskBegins rank (acts_on action from.names.names).0
    (standing from.world (with_names from.names (acts_on action from.names.names).1)) part

-- the answer of a blocked call: nothing yet, or the calls that follow from it
abbrev pub CompletionBegins : (rank : ℕ) → Option Completion → Scene → Part → Type 0
CompletionBegins rank None old part = part ≡ no_part
CompletionBegins rank (Some completion) old part = (part ≡ no_part) ⊎
    FollowingBegins rank (takes_completion completion (names_at old.size old.ranks rank)).0.next
    (standing old.world (takes_completion completion (names_at old.size old.ranks rank)).1) part

abbrev pub EntryBegins : Option HistoryEntry → Scene → Part → Type 0
EntryBegins None old part = part ≡ no_part
EntryBegins (Some entry) old part = CompletionBegins entry.endpoint.rank entry.completion old part

abbrev pub BehindBegins : Result Stepped Failed → Scene → Part → Type 0
BehindBegins (Ok added) old part = EntryBegins (entry_in old.world added) old part
BehindBegins (Err failed) old part = part ≡ no_part

-- an event that is no call
pub record EventBegins (event : Event) (old : Scene) (part : Part) : Type 0 where
  pub answer : Result Stepped Failed
  pub world : WorldState
  pub stepped : StepGives old.world event answer world
  pub seen : IsRunOfMachine world
  pub further : Part
  pub behind : BehindBegins answer (scene old.size world old.ranks) further
  pub both : part ≡ joined (step_part event answer (answer_lines world answer)) further

-- a line
abbrev pub LineBegins : EventStatement → Scene → Part → Type 0
LineBegins (statements.Rank rank action) old part =
    ActBegins rank action (standing old.world (names_at old.size old.ranks rank)) part
LineBegins (statements.Deliver number) old part = EventBegins (events.Deliver number) old part
LineBegins (statements.Tick rank now) old part = EventBegins (events.Tick rank now) old part
LineBegins (statements.Stray rank bytes) old part = EventBegins (events.Stray rank bytes) old part
LineBegins (statements.Restart rank) old part = EventBegins (events.Restart rank) old part

-- a part is begun, and of what it prints a beginning is printed, or all
pub record Starts (Begins : Part → Type 0) (old new : Option (List ℕ)) : Type 0 where
  pub part : Part
  pub begins : Begins part
  pub prints : PrintsBeginning old new part.printed

-- A part was cut off: for want of memory. Where the output failed, what it took isn't known
abbrev pub BreaksOff : SimulateError → (Begins : Part → Type 0) → (old new : Option (List ℕ)) → Type 0
BreaksOff (errors.Line number) Begins old new = ⊥
BreaksOff errors.OutOfMemory Begins old new = Starts Begins old new
BreaksOff errors.Output Begins old new = Unit {0}
