-- What is told on the standard error, byte by byte.
use Rattle.std.specs.Prelude.{ℕ, Bool, ◌-◌, ◌==◌, ◌||◌, List, [], ◌++◌, length, drop, codes, if◌then◌else◌}
use Rattle.std.specs.Str.{bytes_eq}
use Rattle.std.specs.Fmt.{decimal}
use Rattle.launch_keeper.specs.declared.ending.ProgramEnding.{ProgramEnding}
use Rattle.launch_keeper.specs.declared.ending.ProgramEnding.TheVariants as endings
use Rattle.launch_keeper.specs.declared.keeper.After.{After}
use Rattle.launch_keeper.specs.declared.keeper.After.TheVariants as afters
use Rattle.launch_keeper.specs.Words.{Word}
use Rattle.shown_words.specs.WordTexts.{shown}

-- the part of the name behind its last `/` is `rank_main`
abbrev pub is_rank_main : Word → Bool
is_rank_main program = bytes_eq program (codes "rank_main") ||
    bytes_eq (drop (length program - 10) program) (codes "/rank_main")

-- what a status of rank_main means
abbrev pub meaning : ℕ → List ℕ
meaning status =
    if status == 1 then codes " (script)"
    else (if status == 2 then codes " (words)"
    else (if status == 3 then codes " (socket or output)"
    else (if status == 4 then codes " (patience)"
    else (if status == 5 then codes " (fail)"
    else (if status == 6 then codes " (memory)"
    else [])))))

-- that the program is started again
abbrev pub restart_text : After → List ℕ
restart_text (afters.Again incarnation) = codes "; started again as incarnation " ++ decimal incarnation
restart_text (afters.End status) = []

-- the status of a program, and what it means where that is rank_main
abbrev pub status_text : Word → ℕ → List ℕ
status_text program status = if is_rank_main program then decimal status ++ meaning status else decimal status

-- how the rank's program ended
abbrev pub ending_text : Word → ProgramEnding → List ℕ
ending_text program endings.NotStarted = codes ": " ++ shown program ++ codes " can't be started"
ending_text program endings.WithoutStatus = codes " ended without a status"
ending_text program (endings.Signal signal) = codes " was ended by signal " ++ decimal signal
ending_text program (endings.Status status) = codes " ended with status " ++ status_text program status

-- how the rank's program ended, and what follows
abbrev pub ending_line : ℕ → Word → ProgramEnding → After → List ℕ
ending_line rank program ending after =
    codes "mpiexec: rank " ++ decimal rank ++ ending_text program ending ++ restart_text after

-- a keeper that didn't report
abbrev pub lost_keeper_line : ℕ → List ℕ
lost_keeper_line rank = codes "mpiexec: the keeper of rank " ++ decimal rank ++ codes " ended before its report"

-- another launch has the base port
abbrev pub taken_ports_line : ℕ → List ℕ
taken_ports_line base_port =
    codes "mpiexec: another job may use the ports from " ++ decimal base_port ++
    codes " on: give each job its own -baseport and -job"

-- the line of a keeper that couldn't be started
abbrev pub unstarted_keeper_line : ℕ → List ℕ
unstarted_keeper_line rank = codes "mpiexec: the keeper of rank " ++ decimal rank ++
    codes " can't be started; it takes two more open files (ulimit -n)"
