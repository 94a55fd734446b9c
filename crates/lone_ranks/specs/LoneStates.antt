-- A rank of a script by itself: how it begins, and how it stands.
use Rattle.std.specs.Prelude.{◌≡◌, ℕ, List, [], length, None}
use Rattle.engine_calls.specs.EngineState as engines
use Rattle.engine_calls.specs.EngineState.{EngineState, trimmed}
use Rattle.event_loop.specs.Turns.{LoopRunner}
use Rattle.event_loop.specs.declared.loop_state.RunnerState.TheVariants.{Ready}
use Rattle.incarnation.specs.declared.place.Place.{Place}
use Rattle.lone_ranks.specs.declared.frames.SentFrame.{SentFrame}
use Rattle.script_files.specs.declared.script.ScriptLine.{ScriptLine}
use Rattle.script_runner.specs.ScriptRanks.{RankState}
use Rattle.script_runner.specs.ScriptSteps as script
use Rattle.script_runner.specs.ScriptSteps.{ScriptState}
use Rattle.stepped_plays.specs.Beginnings.{IsScriptOf}
use Rattle.vocabulary.specs.MessageLimits.{least}

-- A rank by itself: its engine, the runner of its script, what that waits for, the lines that it printed, the numbers of
-- its refused calls, and the frames that it sent and that weren't taken out
pub record LoneState : Type 0 where
  pub engine : EngineState
  pub runner : ScriptState
  pub state : LoopRunner
  pub lines : List (List ℕ)
  pub refused : List ℕ
  pub sent : List SentFrame

-- how a rank stands, whichever lines of its script are left to it (they are so many), but for what wasn't taken out
pub record LoneStanding : Type 0 where
  pub engine : EngineState
  pub left : ℕ
  pub rank : RankState
  pub state : LoopRunner
  pub lines : List (List ℕ)
  pub refused : List ℕ

abbrev pub standing_of : LoneState → LoneStanding
standing_of s = record {
  engine = trimmed s.engine;
  left = length s.runner.lines;
  rank = s.runner.rank;
  state = s.state;
  lines = s.lines;
  refused = s.refused;
}

-- the place of a rank among so many: that in a play of a script
abbrev pub place_of : (rank size : ℕ) → Place
place_of r n = record {
  endpoint = record { rank = r; incarnation = 0 };
  size = n;
  job = 1;
  message_limit = least;
}

-- a rank at the start of this script
abbrev pub lone_opening : List ScriptLine → (rank size : ℕ) → LoneState
lone_opening lines r n = record {
  engine = engines.opening (place_of r n);
  runner = script.opening lines r 0;
  state = Ready None;
  lines = [];
  refused = [];
  sent = [];
}

-- it is at the start of the script that this text says
abbrev pub OpensAs : (text : List ℕ) → (rank size : ℕ) → LoneState → Type 0
OpensAs text r n lone = (lines : List ScriptLine) × IsScriptOf text lines × (lone ≡ lone_opening lines r n)
