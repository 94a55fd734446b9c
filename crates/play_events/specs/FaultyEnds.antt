-- Which rank has ended at a line that can't be followed.
use Rattle.std.specs.Prelude.{◌≡◌, Option, Some, None}
use Rattle.script_players.specs.Players.{PlayerState}
use Rattle.engine_calls.specs.declared.call.Call.{Call}
use Rattle.event_loop.specs.declared.loop_state.RunnerState.{RunnerState}
use Rattle.event_loop.specs.declared.loop_state.RunnerState.TheVariants.{Blocked, Over, Ready}

-- the script has ended with status 1
abbrev pub IsStop : RunnerState Call → Type 0
IsStop (Ready reply) = ⊥
IsStop (Blocked call) = ⊥
IsStop (Over status line) = status ≡ 1

-- the rank is there, and its script has ended with status 1
abbrev pub HasStopped : Option PlayerState → Type 0
HasStopped None = ⊥
HasStopped (Some player) = IsStop player.state
