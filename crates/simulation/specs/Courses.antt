-- What the lines of a file of events do, one after the other.
use Rattle.std.specs.Prelude.{◌≡◌, ℕ, List, [], ◌∷◌, Option, Some, None, Result, Ok, Err}
use Rattle.std.specs.BTreeMap.{is_at}
use Rattle.std.specs.Map.{lookup}
use Rattle.std.specs.Ordering.{nat_cmp}
use Rattle.engine_calls.specs.declared.reply.Completion.{Completion}
use Rattle.event_files.specs.declared.file.EventLine.{EventLine}
use Rattle.event_files.specs.declared.file.EventStatement.{EventStatement}
use Rattle.event_files.specs.declared.file.EventStatement.TheVariants as statements
use Rattle.line_diagnostics.specs.declared.fault.LineFault.{LineFault}
use Rattle.simulation.specs.Parts.{ActGives, CompletionGives, Part, Standing, answer_lines, joined, no_part, standing, step_part}
use Rattle.simulation.specs.RankAnswers.{IsFaulty, entry_in, fresh}
use Rattle.simulation.specs.declared.ranks.RankNames.{RankNames}
use Rattle.world.specs.Headline.{IsRunOfMachine}
use Rattle.world.specs.Steps.{StepGives}
use Rattle.world.specs.WorldState.{WorldState, opening_world}
use Rattle.world.specs.declared.event.Event.{Event}
use Rattle.world.specs.declared.event.Event.TheVariants as events
use Rattle.world.specs.declared.event.Failed.{Failed}
use Rattle.world.specs.declared.event.HistoryEntry.{HistoryEntry}
use Rattle.world.specs.declared.event.Stepped.{Stepped}

-- ---- ranks

-- the ranks that lines have named, with what their names stand for
abbrev pub Ranks : Type 0
Ranks = List (ℕ × RankNames)

abbrev pub found_at : Ranks → (rank : ℕ) → Option RankNames
found_at ranks rank = lookup (is_at (nat_cmp rank)) ranks

abbrev pub or_fresh : (size rank : ℕ) → Option RankNames → RankNames
or_fresh size rank None = fresh size rank
or_fresh size rank (Some names) = names

-- what the names of a rank stand for in a world of this size: nothing, where no line has named the rank
abbrev pub names_at : (size : ℕ) → Ranks → (rank : ℕ) → RankNames
names_at size ranks rank = or_fresh size rank (found_at ranks rank)

-- the names of every rank stand for what they did
abbrev pub IsSame : (size : ℕ) → (old new : Ranks) → Type 0
IsSame size old new = (rank : ℕ) → names_at size new rank ≡ names_at size old rank

-- the names of this rank stand so now, and those of the others as they did
pub record IsOnlyAt (size : ℕ) (old : Ranks) (rank : ℕ) (now : RankNames) (new : Ranks) :
    Type 0 where
  pub here : names_at size new rank ≡ now
  pub others : (other : ℕ) → (other ≡ rank → ⊥) → names_at size new other ≡ names_at size old other

-- Where a file of events stands: how many ranks the world has, the world, and what the names of its ranks stand for
pub record Scene : Type 0 where
  pub size : ℕ
  pub world : WorldState
  pub ranks : Ranks

abbrev pub scene : (size : ℕ) → WorldState → Ranks → Scene
scene size world ranks = record { size = size; world = world; ranks = ranks }

-- this happens in the world, and at the names of one of its ranks
pub record AtRank (rank : ℕ) (old : Scene) (Gives : Standing → Standing → Type 0) (new : Scene) : Type 0 where
  pub to : Standing
  pub gives : Gives (standing old.world (names_at old.size old.ranks rank)) to
  pub world : new.world ≡ to.world
  pub ranks : IsOnlyAt old.size old.ranks rank to.names new.ranks
  pub size : new.size ≡ old.size

-- ---- events that are no calls

-- the answer of a blocked call, if it comes with the event: the names of its rank take it, and further calls may follow
abbrev pub CompletedBy : (rank : ℕ) → Option Completion → Scene → Part → Scene → Type 0
CompletedBy rank None old part new = (part ≡ no_part) × (new ≡ old)
CompletedBy rank (Some completion) old part new =
    AtRank rank old (λ from to. CompletionGives rank completion from part to) new

abbrev pub CompletedIn : Option HistoryEntry → Scene → Part → Scene → Type 0
CompletedIn None old part new = (part ≡ no_part) × (new ≡ old)
CompletedIn (Some entry) old part new = CompletedBy entry.endpoint.rank entry.completion old part new

-- what comes behind an event
abbrev pub BehindEvent : Result Stepped Failed → Scene → Part → Scene → Type 0
BehindEvent (Ok added) old part new = CompletedIn (entry_in old.world added) old part new
BehindEvent (Err failed) old part new = (part ≡ no_part) × (new ≡ old)

-- An event that is no call: it is one step of the world, which is printed by what it answered. Where it answers a
-- blocked call, its rank goes on
pub record EventGives (event : Event) (old : Scene) (part : Part) (new : Scene) : Type 0 where
  pub answer : Result Stepped Failed
  pub world : WorldState
  pub stepped : StepGives old.world event answer world
  pub seen : IsRunOfMachine world
  pub further : Part
  pub behind : BehindEvent answer (scene old.size world old.ranks) further new
  pub both : part ≡ joined (step_part event answer (answer_lines world answer)) further

-- the names of a rank that is started anew stand for nothing; where the restart is refused, they stand for what they did
abbrev pub RestartLeaves : Result Stepped Failed → (rank : ℕ) → Scene → Ranks → Type 0
RestartLeaves (Ok added) rank old new = IsOnlyAt old.size old.ranks rank (fresh old.size rank) new
RestartLeaves (Err failed) rank old new = new ≡ old.ranks

pub record RestartGives (rank : ℕ) (old : Scene) (part : Part) (new : Scene) : Type 0 where
  pub answer : Result Stepped Failed
  pub stepped : StepGives old.world (events.Restart rank) answer new.world
  pub seen : IsRunOfMachine new.world
  pub does : part ≡ step_part (events.Restart rank) answer (answer_lines new.world answer)
  pub ranks : RestartLeaves answer rank old new.ranks
  pub size : new.size ≡ old.size

-- ---- lines

-- what a line does
abbrev pub LineGives : EventStatement → Scene → Part → Scene → Type 0
LineGives (statements.Rank rank action) old part new = AtRank rank old (λ from to. ActGives rank action from part to) new
LineGives (statements.Deliver number) old part new = EventGives (events.Deliver number) old part new
LineGives (statements.Tick rank now) old part new = EventGives (events.Tick rank now) old part new
LineGives (statements.Stray rank bytes) old part new = EventGives (events.Stray rank bytes) old part new
LineGives (statements.Restart rank) old part new = RestartGives rank old part new

-- Lines, one after the other: what they do together is what each does where the one before it has left the file
abbrev pub Course : Scene → List EventLine → Part → Scene → Type 0
Course from [] part to = (part ≡ no_part) × (to ≡ from)
Course from (line ∷ lines) part to =
    (mid : Scene) × (first : Part) × (others : Part) ×
    LineGives line.statement from first mid × Course mid lines others to × (part ≡ joined first others)

-- a line can't be followed by what the names of its rank stand for, for this reason
abbrev pub IsFaultyLine : Option LineFault → Scene → EventStatement → Type 0
IsFaultyLine fault at (statements.Rank rank action) = IsFaulty fault action (names_at at.size at.ranks rank).names
IsFaultyLine fault at (statements.Deliver number) = ⊥
IsFaultyLine fault at (statements.Tick rank now) = ⊥
IsFaultyLine fault at (statements.Stray rank bytes) = ⊥
IsFaultyLine fault at (statements.Restart rank) = ⊥

-- a world of this size in which nothing happened yet; no name is set, since no rank has been named
abbrev pub IsOpening : (size : ℕ) → Scene → Type 0
IsOpening size s = (s.size ≡ size) × (s.world ≡ opening_world size) × (s.ranks ≡ [])
