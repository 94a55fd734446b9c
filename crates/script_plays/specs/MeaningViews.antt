-- What joins `play` to the one meaning of its scripts.
use Rattle.std.specs.Prelude.{◌≡◌, ◌≢◌, ◌⊎◌, ℕ, Bool, true, false, List, [], ◌∷◌, ◌++◌, length, Some, slice_get}
use Rattle.std.specs.List.{AllByRecursion}
use Rattle.one_meaning.specs.Courses.{Course, RecordsAgree, accounts}
use Rattle.script_files.specs.declared.script.ScriptLine.{ScriptLine}
use Rattle.script_players.specs.Players.{PlayerState, is_over}
use Rattle.script_plays.specs.Plays.{PlayState}
use Rattle.engine_calls.specs.declared.call.Call.{Call}
use Rattle.event_loop.specs.declared.loop_state.RunnerState.{RunnerState}
use Rattle.event_loop.specs.declared.loop_state.RunnerState.TheVariants.{Blocked, Over, Ready}
use Rattle.proof_script_processes.specs.Processes.{Running}
use Rattle.proof_script_processes.specs.ScriptLaws.{AreCoveredScripts, meaning_of}

-- what a player shows of the one meaning: its lines are a beginning of its rank's, and all of them once its script has
-- ended
pub record Shows (p : PlayerState) (end : Course Running) : Type 0 where
  pub lines : (rest : List (List ℕ)) × (end.lines ≡ p.lines ++ rest)
  pub whole : is_over p.state ≡ true → end.lines ≡ p.lines

-- no call was refused by a limit or for want of memory
abbrev pub HasNoLimit : PlayerState → Type 0
HasNoLimit p = AllByRecursion (λ x. (x ≢ 13) × (x ≢ 14)) p.refused

-- no runner ended with 6, for want of memory
abbrev pub HasNotSix : RunnerState Call → Type 0
HasNotSix (Ready reply) = Unit {0}
HasNotSix (Blocked call) = Unit {0}
HasNotSix (Over status line) = status ≢ 6

-- neither limits nor want of memory came in
pub record IsFine (p : PlayerState) : Type 0 where
  pub limit : HasNoLimit p
  pub six : HasNotSix p.state

abbrev pub AreFine : PlayState → Type 0
AreFine st = (r : ℕ) (p : PlayerState) → slice_get st.players r ≡ Some p → IsFine p

-- THE LAW OF `play`: of covered scripts, in whose one meaning no two records of a collective differ, whatever the
-- schedule, each rank's lines are a beginning of its lines in the one meaning, and all of them once its script has
-- ended
abbrev pub PlaysTheOneMeaning : List (List ScriptLine) → PlayState → Type 0
PlaysTheOneMeaning scripts new =
    AreCoveredScripts scripts → RecordsAgree (accounts (meaning_of (length scripts) scripts)) → AreFine new →
    (r : ℕ) (p : PlayerState) → slice_get new.players r ≡ Some p → Shows p (meaning_of (length scripts) scripts r)
