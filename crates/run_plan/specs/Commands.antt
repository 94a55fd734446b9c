-- The commands of ranks.
use Rattle.std.specs.Prelude.{◌≡◌, ℕ, ◌+◌, Bool, List, [], ◌∷◌, ◌++◌, slice_get, Option, Some, None}
use Rattle.std.specs.Process.{command_var}
use Rattle.std.specs.declared.process.command.Command.{Command}
use Rattle.launch_keeper.specs.Words.{Word}
use Rattle.rank_environment.specs.Variables.{Setting, variables_of}
use Rattle.process_commands.specs.Commands.{IsCommandOf, said_after}
use Rattle.launch_decisions.specs.declared.start.Start.{Start}
use Rattle.launch_decisions.specs.Starts.{place_of}
use Rattle.run_plan.specs.Readings.{setting_places}
use Rattle.run_plan.specs.Sets.{program_words}

-- a name and its value, where both are there
abbrev pub setting_by : Option Word → Option Word → List Setting
setting_by (Some name) (Some value) = (name, value) ∷ []
setting_by (Some name) None = []
setting_by None value = []

-- the name at this place, and the value behind it
abbrev pub setting_at : List Word → ℕ → List Setting
setting_at words place = setting_by (slice_get words place) (slice_get words (place + 1))

-- those at these places
abbrev pub settings_at : List Word → List ℕ → List Setting
settings_at words [] = []
settings_at words (place ∷ places) = setting_at words place ++ settings_at words places

-- the variables that the words of mpirun set
abbrev pub settings_of : List Word → List Setting
settings_of words = settings_at words (setting_places words)

-- The command starts the program with its own arguments alone, and sets the variables of mpirun's words, and behind
-- them those of the rank's place, which none of the former takes the place of.
pub record IsRankCommand {A : Type 0} (start : Start) (launched words : List Word) (has_patience : Bool)
    (command : Command A) : Type 0 where
  pub words_are : IsCommandOf (program_words launched has_patience) command
  pub variables_are : (name : List ℕ) →
      command_var command name ≡ said_after None name (settings_of words ++ variables_of (place_of start))
