-- What the functions of the program give: parts of a file, with what a writer then holds, where that is known.
use Rattle.std.specs.Prelude.{◌≡◌, ℕ, List, [], ◌∷◌, Option, Some, None, Result, Ok, Err}
use Rattle.engine_calls.specs.declared.reply.Completion.{Completion}
use Rattle.interpreter.specs.declared.steps.NextStep.{NextStep}
use Rattle.line_diagnostics.specs.declared.fault.LineFault.{LineFault}
use Rattle.event_files.specs.declared.file.EventStatement.{EventStatement}
use Rattle.event_files.specs.declared.file.EventStatement.TheVariants as statements
use Rattle.script_calls.specs.declared.pending.Pending.{Pending}
use Rattle.simulation.specs.Courses.{AtRank, CompletedIn, EventGives, IsFaultyLine, LineGives, RestartGives, Scene, names_at}
use Rattle.simulation.specs.Parts.{ActGives, AskGives, CallGives, CallsGive, CompletionGives, FollowingGives, FurtherGives}
use Rattle.simulation.specs.Parts.{Part, Standing, taken_lines}
use Rattle.simulation.specs.StepLines.{stepped_lines}
use Rattle.simulation.specs.Output.{Prints}
use Rattle.simulation.specs.RankAnswers.{IsFaulty, is_silent, made_in}
use Rattle.simulation.specs.declared.calls.Acted.{Acted}
use Rattle.simulation.specs.declared.calls.Acted.TheVariants as acted
use Rattle.interpreter.specs.declared.steps.PendingCall.{PendingCall}
use Rattle.simulation.specs.declared.ranks.RankNames.{RankNames}
use Rattle.statements.specs.declared.action.Action.{Action}
use Rattle.world.specs.WorldState.{WorldState}
use Rattle.world.specs.declared.event.Event.{Event}
use Rattle.world.specs.declared.event.HistoryEntry.{HistoryEntry}
use Rattle.world.specs.declared.event.Stepped.{Stepped}

-- a call that was taken: what is printed of it, what follows, and what its rank's names then stand for
abbrev pub TakenGives : WorldState → Stepped → Pending → (from : RankNames) → (old new : Option (List ℕ)) →
    Option PendingCall → (to : RankNames) → Type 0
TakenGives w added pending from old new next to =
    Prints old new (taken_lines (is_silent pending) (made_in w added pending from).0.told (stepped_lines w added))
    × (next ≡ (made_in w added pending from).0.next)
    × (to ≡ (made_in w added pending from).1)

-- a part, and what a writer held before it and behind it
pub record Runs (Gives : Part → Type 0) (old new : Option (List ℕ)) : Type 0 where
  pub part : Part
  pub gives : Gives part
  pub prints : Prints old new part.printed

abbrev pub CallRuns : (rank : ℕ) → PendingCall → Standing → (old new : Option (List ℕ)) → Option PendingCall →
    Standing → Type 0
CallRuns rank asks from old new next to = Runs (λ part. CallGives rank asks from part next to) old new

abbrev pub FurtherRuns : (rank : ℕ) → Option PendingCall → Standing → (old new : Option (List ℕ)) → Standing → Type 0
FurtherRuns rank next from old new to = Runs (λ part. FurtherGives rank next from part to) old new

abbrev pub CallsRun : (rank : ℕ) → PendingCall → Standing → (old new : Option (List ℕ)) → Standing → Type 0
CallsRun rank asks from old new to = Runs (λ part. CallsGive rank asks from part to) old new

abbrev pub FollowingRuns : (rank : ℕ) → Option PendingCall → Standing → (old new : Option (List ℕ)) → Standing →
    Type 0
FollowingRuns rank next from old new to = Runs (λ part. FollowingGives rank next from part to) old new

abbrev pub CompletionRuns : (rank : ℕ) → Completion → Standing → (old new : Option (List ℕ)) → Standing → Type 0
CompletionRuns rank completion from old new to = Runs (λ part. CompletionGives rank completion from part to) old new

-- a statement is done, or can't be followed for this reason
abbrev pub AskRuns : (rank : ℕ) → Option NextStep → Standing → (old new : Option (List ℕ)) → Acted → Standing → Type 0
AskRuns rank next from old new acted.Done to = Runs (λ part. AskGives rank next from part to) old new
AskRuns rank next from old new (acted.Faulty fault) to =
    (next ≡ None) × (fault ≡ None) × Prints old new []

abbrev pub ActRuns : (rank : ℕ) → Action → Standing → (old new : Option (List ℕ)) → Acted → Standing → Type 0
ActRuns rank action from old new acted.Done to = Runs (λ part. ActGives rank action from part to) old new
ActRuns rank action from old new (acted.Faulty fault) to = IsFaulty fault action from.names.names × Prints old new []

-- ---- among all ranks

abbrev pub ActRunsAt : (rank : ℕ) → Action → Scene → (old new : Option (List ℕ)) → Acted → Scene → Type 0
ActRunsAt rank action from old new acted.Done to =
    Runs (λ part. AtRank rank from (λ a b. ActGives rank action a part b) to) old new
ActRunsAt rank action from old new (acted.Faulty fault) to =
    IsFaulty fault action (names_at from.size from.ranks rank).names × Prints old new []

-- the line of a rank's statement is done, or can't be followed for this reason
abbrev pub LineActed : (rank : ℕ) → Action → Scene → (old new : Option (List ℕ)) → Acted → Scene → Type 0
LineActed rank action from old new acted.Done to =
    Runs (λ part. LineGives (statements.Rank rank action) from part to) old new
LineActed rank action from old new (acted.Faulty fault) to =
    IsFaultyLine fault from (statements.Rank rank action) × Prints old new []

abbrev pub CompletedRuns : Option HistoryEntry → Scene → (old new : Option (List ℕ)) → Scene → Type 0
CompletedRuns entry from old new to = Runs (λ part. CompletedIn entry from part to) old new

abbrev pub EventRuns : Event → Scene → (old new : Option (List ℕ)) → Scene → Type 0
EventRuns event from old new to = Runs (λ part. EventGives event from part to) old new

abbrev pub RestartRuns : (rank : ℕ) → Scene → (old new : Option (List ℕ)) → Scene → Type 0
RestartRuns rank from old new to = Runs (λ part. RestartGives rank from part to) old new

abbrev pub LineRuns : EventStatement → Scene → (old new : Option (List ℕ)) → Scene → Type 0
LineRuns statement from old new to = Runs (λ part. LineGives statement from part to) old new
