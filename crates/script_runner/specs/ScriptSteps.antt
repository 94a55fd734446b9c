-- What a script does next.
use Rattle.std.specs.Prelude.{◌≡◌, ◌≢◌, ◌⊎◌, ℕ, List, [], ◌∷◌, Option, Some, None}
use Rattle.engine_calls.specs.declared.reply.Reply.{Reply}
use Rattle.script_files.specs.declared.script.ScriptLine.{ScriptLine}
use Rattle.script_files.specs.declared.script.RankLine.{RankLine}
use Rattle.script_files.specs.Selections.{lines_for}
use Rattle.event_loop.specs.declared.runner.RunnerStep.{RunnerStep}
use Rattle.event_loop.specs.declared.runner.RunnerStep.TheVariants as steps
use Rattle.script_runner.specs.ScriptRanks as script
use Rattle.script_runner.specs.ScriptRanks.{Acts, RankState, acts, heeds}

-- A rank that runs a script: the lines that are left, what its names stand for, and what it waits for.
pub record ScriptState : Type 0 where
  pub lines : List RankLine
  pub rank : RankState

-- a script for a rank at its start: no name is set
abbrev pub opening : List ScriptLine → (rank incarnation : ℕ) → ScriptState
opening lines own incarnation = record { lines = lines_for own incarnation lines; rank = script.opening own }

-- what a rank does, and what it then stands at
abbrev pub Does : Type 0
Does = RunnerStep × ScriptState

abbrev pub does_by : List RankLine → Option RunnerStep → RankState → Does → Does
does_by rest (Some step) s otherwise = (step, record { lines = rest; rank = s })
does_by rest None s otherwise = otherwise

-- a line asks for this, or for no more than a change of names: then otherwise
abbrev pub does_or : List RankLine → Acts → Does → Does
does_or rest acted otherwise = does_by rest acted.0 acted.1 otherwise

-- The next line that asks for more than a change of names is done; behind the last one the script ends with status 0
unfoldable pub along : List RankLine → RankState → Does
along [] s = (steps.End 0 None, record { lines = []; rank = s })
along (line ∷ rest) s = does_or rest (acts line s) (along rest (acts line s).1)

-- what follows from an answer at once, or the next line
abbrev pub does_after : List RankLine → Acts → Does
does_after lines acted = does_or lines acted (along lines acted.1)

-- what comes next, told this reply or none
abbrev pub next_of : ScriptState → Option Reply → Does
next_of s None = along s.lines s.rank
next_of s (Some reply) = does_after s.lines (heeds reply s.rank)

-- there is a line to follow, or an answer to hear: what else there is to do takes no memory
abbrev pub IsMore : List RankLine → Option Reply → Type 0
IsMore lines reply = (lines ≢ []) ⊎ (reply ≢ None)

-- What comes next is what the script says; or memory is wanting for it, and the script ends with status 6
abbrev pub NextGives : ScriptState → Option Reply → RunnerStep → ScriptState → Type 0
NextGives old reply step new =
    (next_of old reply ≡ (step, new)) ⊎ ((step ≡ steps.End 6 None) × IsMore old.lines reply)
