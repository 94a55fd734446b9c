-- What a rank's statement does: steps of the world, what is printed of them, and what the names of the rank then stand
-- for.
use Rattle.std.specs.Prelude.{◌≡◌, ℕ, Bool, true, false, List, [], ◌∷◌, ◌++◌, Option, Some, None, Result, Ok, Err}
use Rattle.std.specs.Prelude.{if◌then◌else◌}
use Rattle.engine_calls.specs.declared.reply.Completion.{Completion}
use Rattle.interpreter.specs.StatementCalls.{Acts, acts_on}
use Rattle.interpreter.specs.declared.steps.NextStep.{NextStep}
use Rattle.interpreter.specs.declared.steps.NextStep.TheVariants as nexts
use Rattle.interpreter.specs.NamesState.{NamesState}
use Rattle.script_calls.specs.declared.pending.Pending.{Pending}
use Rattle.simulation.specs.StepLines.{refused_lines, stepped_lines, told_lines}
use Rattle.simulation.specs.RankAnswers.{Made, is_silent, made_in, nothing_heeded, takes_back, takes_completion, with_names}
use Rattle.interpreter.specs.declared.steps.PendingCall.{PendingCall}
use Rattle.simulation.specs.declared.ranks.RankNames.{RankNames}
use Rattle.statements.specs.declared.action.Action.{Action}
use Rattle.world.specs.Headline.{IsRunOfMachine}
use Rattle.world.specs.Steps.{StepGives}
use Rattle.world.specs.WorldState.{WorldState}
use Rattle.world.specs.declared.event.Event.{Event}
use Rattle.world.specs.declared.event.Event.TheVariants as events
use Rattle.world.specs.declared.event.Failed.{Failed}
use Rattle.world.specs.declared.event.Stepped.{Stepped}

-- a step of the world: the event, and what it answered
pub record Happening : Type 0 where
  pub event : Event
  pub answer : Result Stepped Failed

-- a part of a file: the steps that the world makes in it, and the lines that are printed
pub record Part : Type 0 where
  pub steps : List Happening
  pub printed : List (List ℕ)

-- nothing happens, and nothing is printed
abbrev pub no_part : Part
no_part = record { steps = []; printed = [] }

-- no step is made, and this is printed
abbrev pub printed_part : List (List ℕ) → Part
printed_part printed = record { steps = []; printed = printed }

-- one step is made, and this is printed
abbrev pub step_part : Event → Result Stepped Failed → (printed : List (List ℕ)) → Part
step_part event answer printed = record { steps = record { event = event; answer = answer } ∷ []; printed = printed }

-- one part behind the other
abbrev pub joined : Part → Part → Part
joined a b = record { steps = a.steps ++ b.steps; printed = a.printed ++ b.printed }

-- the world, and the names of one of its ranks
pub record Standing : Type 0 where
  pub world : WorldState
  pub names : RankNames

abbrev pub standing : WorldState → RankNames → Standing
standing world names = record { world = world; names = names }

-- ---- what is printed of a step, by what it answered and the world behind it

abbrev pub answer_lines : WorldState → Result Stepped Failed → List (List ℕ)
answer_lines w (Ok added) = stepped_lines w added
answer_lines w (Err failed) = refused_lines w failed

-- of a call whose answer isn't printed by itself, what is told of it; of any other, the lines of its step
abbrev pub taken_lines : (silent : Bool) → (told stepped : List (List ℕ)) → List (List ℕ)
taken_lines silent told stepped = if silent then told else stepped

-- ---- a call

-- what is printed of a call, which is for this
abbrev pub call_lines : Pending → Result Stepped Failed → WorldState → RankNames → List (List ℕ)
call_lines pending (Ok added) w s = taken_lines (is_silent pending) (made_in w added pending s).0.told (stepped_lines w added)
call_lines pending (Err failed) w s = refused_lines w failed

-- what the names of its rank make of it
abbrev pub call_makes : Pending → Result Stepped Failed → WorldState → RankNames → Made
call_makes pending (Ok added) w s = made_in w added pending s
call_makes pending (Err failed) w s = (nothing_heeded, with_names s (takes_back pending failed.event s.names))

-- A call of this rank: it is one step of the world, which is printed by what it answered, and the names take that.
-- What follows is a further call, or nothing
pub record CallGives (rank : ℕ) (asks : PendingCall) (from : Standing) (part : Part) (next : Option PendingCall)
    (to : Standing) : Type 0 where
  pub answer : Result Stepped Failed
  pub stepped : StepGives from.world (events.Call rank asks.call) answer to.world
  pub seen : IsRunOfMachine to.world
  pub does : part ≡
      step_part (events.Call rank asks.call) answer (call_lines asks.pending answer to.world from.names)
  pub follows : next ≡ (call_makes asks.pending answer to.world from.names).0.next
  pub names : to.names ≡ (call_makes asks.pending answer to.world from.names).1

-- the further call of a statement, if there is one; none follows behind it
pub record FurtherCall (rank : ℕ) (asks : PendingCall) (from : Standing) (part : Part) (to : Standing) : Type 0 where
  pub ignored : Option PendingCall
  pub call : CallGives rank asks from part ignored to

abbrev pub FurtherGives : (rank : ℕ) → Option PendingCall → Standing → Part → Standing → Type 0
FurtherGives rank None from part to = (part ≡ no_part) × (to ≡ from)
FurtherGives rank (Some asks) from part to = FurtherCall rank asks from part to

-- the calls of a statement, of which there are two at most
pub record CallsGive (rank : ℕ) (asks : PendingCall) (from : Standing) (part : Part) (to : Standing) : Type 0 where
  pub first : Part
  pub next : Option PendingCall
  pub between : Standing
  pub second : Part
  pub called : CallGives rank asks from first next between
  pub further : FurtherGives rank next between second to
  pub both : part ≡ joined first second

-- ---- a statement

-- what comes next of a statement is done, and the names stand for this; one that can't be followed does nothing
abbrev pub AskGives : (rank : ℕ) → Option NextStep → Standing → Part → Standing → Type 0
AskGives rank None from part to = ⊥
AskGives rank (Some nexts.Nothing) from part to = (part ≡ no_part) × (to ≡ from)
AskGives rank (Some (nexts.Call asks)) from part to = CallsGive rank asks from part to
AskGives rank (Some (nexts.Told told)) from part to = (part ≡ printed_part (told_lines told)) × (to ≡ from)

-- what a statement does, by what the interpreter makes of it
abbrev pub ActGives : (rank : ℕ) → Action → Standing → Part → Standing → Type 0
ActGives rank action from part to =
    AskGives rank (acts_on action from.names.names).0
    (standing from.world (with_names from.names (acts_on action from.names.names).1)) part to

-- ---- the answer of a blocked call

-- the further calls that follow from it, if any do
abbrev pub FollowingGives : (rank : ℕ) → Option PendingCall → Standing → Part → Standing → Type 0
FollowingGives rank None from part to = (part ≡ no_part) × (to ≡ from)
FollowingGives rank (Some asks) from part to = CallsGive rank asks from part to

-- what follows from the answer of the call of this rank that was blocked
abbrev pub CompletionGives : (rank : ℕ) → Completion → Standing → Part → Standing → Type 0
CompletionGives rank completion from part to =
    FollowingGives rank (takes_completion completion from.names).0.next
    (standing from.world (takes_completion completion from.names).1) part to
