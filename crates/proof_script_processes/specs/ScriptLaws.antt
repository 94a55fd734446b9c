-- The law of scripts over whatever has the machine's histories.
use Rattle.std.specs.Prelude.{ℕ, ◌<◌, ◌≤◌, List, []}
use Rattle.one_meaning.specs.Courses.{AreMeant, Courses, RecordsAgree, accounts}
use Rattle.one_meaning.specs.Turns.{one_meaning}
use Rattle.perfect_groups.specs.Events.{Entry}
use Rattle.proof_one_meaning.specs.Plays.{Players, PlaysTheMeaning, PlaysThrough, players_at_start}
use Rattle.script_files.specs.declared.script.ScriptLine.{ScriptLine}
use Rattle.proof_script_processes.specs.Processes.{IsCoveredRunning, Running, next_in_script, running_at_start}
use Rattle.proof_script_processes.specs.Processes.{steps_left}

-- scripts whose lines are covered, at each rank
abbrev pub AreCoveredScripts : List (List ScriptLine) → Type 0
AreCoveredScripts scripts = (r : ℕ) → IsCoveredRunning (running_at_start scripts r)

-- THE ONE MEANING of scripts: n ranks in turn, each going as far as it can, turn after turn
abbrev pub meaning_of : (n : ℕ) → List (List ScriptLine) → Courses Running
meaning_of n scripts = one_meaning next_in_script steps_left n (running_at_start scripts)

-- it is where they come to, and none may go on any more
abbrev pub ScriptsComeToTheirMeaning : Type 0
ScriptsComeToTheirMeaning = (n : ℕ) (scripts : List (List ScriptLine)) →
    AreMeant next_in_script n (running_at_start scripts) (meaning_of n scripts)

-- Scripts that are covered, in whose one meaning no two records of a collective differ, play that meaning: each rank's
-- lines are a beginning of its lines there, and all of them once its script has ended
abbrev pub ScriptsPlayTheirMeaning : Type 0
ScriptsPlayTheirMeaning =
    (scripts : List (List ScriptLine)) (n moves : ℕ) (now : Players Running) (history : List Entry) → n ≤ 65536 →
    0 < n → AreCoveredScripts scripts → RecordsAgree (accounts (meaning_of n scripts)) →
    PlaysThrough next_in_script n moves (players_at_start n (running_at_start scripts)) [] now history →
    (r : ℕ) → PlaysTheMeaning (now r) (meaning_of n scripts r)
