-- The statuses of programs, of ranks and of a launch.
use Rattle.std.specs.Prelude.{ℕ, ◌==◌, List, [], ◌∷◌, if◌then◌else◌}
use Rattle.launch_keeper.specs.declared.ending.ProgramEnding.{ProgramEnding}
use Rattle.launch_keeper.specs.declared.ending.ProgramEnding.TheVariants as endings

-- the status that a program's ending counts as
abbrev pub status_of_ending : ProgramEnding → ℕ
status_of_ending endings.NotStarted = 127
status_of_ending endings.WithoutStatus = 128
status_of_ending (endings.Signal signal) = 128
status_of_ending (endings.Status status) = status

-- the first of these statuses, by rising rank, that isn't 0, else 0
abbrev pub launch_status : List ℕ → ℕ
launch_status [] = 0
launch_status (status ∷ statuses) = if status == 0 then launch_status statuses else status
