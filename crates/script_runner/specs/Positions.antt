-- Where a rank that runs a script stands, and why it can't go on.
use Rattle.std.specs.Prelude.{◌≡◌, ℕ, ◌-◌, ◌==◌, nat_lt, Bool, true, false, List, [], ◌∷◌, length, slice_get, Option}
use Rattle.std.specs.Prelude.{Some, None, if◌then◌else◌}
use Rattle.line_diagnostics.specs.declared.fault.LineFault.{LineFault}
use Rattle.event_loop.specs.declared.runner.RunnerStep.{RunnerStep}
use Rattle.event_loop.specs.declared.runner.RunnerStep.TheVariants as steps
use Rattle.script_files.specs.declared.script.RankLine.{RankLine}
use Rattle.interpreter.specs.NamesState.{NamesState}
use Rattle.script_runner.specs.ScriptRanks.{Acts, stops}

-- whether the script ends since its line is faulty
abbrev pub is_stop : Option RunnerStep → Bool
is_stop None = false
is_stop (Some (steps.Call call)) = false
is_stop (Some (steps.Print line)) = false
is_stop (Some (steps.End status line)) = status == 1

-- what a line of this number asks for is the end of the script exactly where there is a fault
abbrev pub StopsWhere : Option LineFault → ℕ → Acts → NamesState → Type 0
StopsWhere None number acted names = is_stop acted.0 ≡ false
StopsWhere (Some fault) number acted names = acted ≡ stops number names

-- the line behind which so many are left
abbrev pub taken_last : ℕ → List RankLine → Option RankLine
taken_last left lines = if nat_lt left (length lines) then slice_get lines (length lines - left - 1) else None

-- the first line of this number
unfoldable pub numbered : ℕ → List RankLine → Option RankLine
numbered number [] = None
numbered number (line ∷ rest) = if line.number == number then Some line else numbered number rest
