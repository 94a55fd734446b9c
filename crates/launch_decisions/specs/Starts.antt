-- The starts of ranks and of their keepers.
use Rattle.std.specs.Prelude.{◌≡◌, ℕ, List, ◌∷◌, map, None}
use Rattle.std.specs.List.{range_with_len}
use Rattle.std.specs.Process.{command_args, command_program, command_var}
use Rattle.std.specs.declared.process.command.Command.{Command}
use Rattle.launch_keeper.specs.declared.ending.ProgramEnding.{ProgramEnding}
use Rattle.launch_keeper.specs.declared.keeper.After.{After}
use Rattle.launch_keeper.specs.declared.keeper.After.TheVariants as afters
use Rattle.launch_keeper.specs.Statuses.{status_of_ending}
use Rattle.launch_keeper.specs.Keepers.{after_status}
use Rattle.launch_keeper.specs.Roles.{keeper_words}
use Rattle.launch_keeper.specs.Words.{Word}
use Rattle.launch_plan.specs.Launches.{Launch, rank_count}
use Rattle.rank_environment.specs.declared.place.RankPlace.{RankPlace}
use Rattle.rank_environment.specs.Variables.{variables_of}
use Rattle.process_commands.specs.Commands.{IsCommandOf, said_after}
use Rattle.launch_decisions.specs.declared.start.Start.{Start}
use Rattle.launch_decisions.specs.declared.start.Next.{Next}
use Rattle.launch_decisions.specs.declared.start.Next.TheVariants as nexts

-- the place of a rank in this launch, at this incarnation
abbrev pub place_in : Launch → ℕ → ℕ → RankPlace
place_in launch rank incarnation = record {
  rank = rank;
  size = rank_count launch.sets;
  incarnation = incarnation;
  job = launch.job;
  base_port = launch.base_port;
  patience = launch.patience;
}

-- the place that a start tells
abbrev pub place_of : Start → RankPlace
place_of start = place_in start.plan.now start.rank start.incarnation

-- a rank is started first at incarnation 0
pub record IsFirst (launch : Launch) (rank : ℕ) (start : Start) : Type 0 where
  pub launch_is : start.plan.now ≡ launch
  pub rank_is : start.rank ≡ rank
  pub incarnation_is : start.incarnation ≡ 0

-- what follows as the rules on restarts say
abbrev pub IsNextBy : Start → After → Next → Type 0
IsNextBy start (afters.End status) next = next ≡ nexts.Ends status
IsNextBy start (afters.Again incarnation) next = next ≡ nexts.Starts (record start { incarnation = incarnation })

-- what follows once the program of a start has ended so
abbrev pub IsNext : Start → ProgramEnding → Next → Type 0
IsNext start ending next =
    IsNextBy start (after_status start.plan.now.restarts (status_of_ending ending) start.incarnation) next

-- the same, as a keeper tells it
abbrev pub after_of : Next → After
after_of (nexts.Ends status) = afters.End status
after_of (nexts.Starts start) = afters.Again start.incarnation

-- the command starts these words, and sets each variable as the start's place says
pub record IsStarted {A : Type 0} (start : Start) (words : List Word) (command : Command A) : Type 0 where
  pub words_are : IsCommandOf words command
  pub variables_are : (name : List ℕ) → command_var command name ≡ said_after None name (variables_of (place_of start))

-- the words that a command starts: the program, and its arguments behind it
abbrev pub started_words : {A : Type 0} → Command A → List Word
started_words command = command_program command ∷ command_args command

-- there is one command for each rank, in rank order: each starts this program as the keeper of its rank
abbrev pub ArePrograms : {A : Type 0} → List ℕ → List Word → ℕ → List (Command A) → Type 0
ArePrograms itself words size commands =
    map started_words commands ≡ map (λ rank. itself ∷ keeper_words rank words) (range_with_len 0 size)
