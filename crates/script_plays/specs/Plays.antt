-- The contract of `play`: what a schedule's moves do, one after the other, to a world and to the runners of its ranks.
use Rattle.std.specs.Prelude.{◌≡◌, ℕ, List, [], ◌∷◌, ◌++◌, length, Option, Some, None, Result, Ok, Err, slice_get}
use Rattle.std.specs.Prelude.{slice_set}
use Rattle.engine_calls.specs.declared.call.Call.{Call}
use Rattle.engine_calls.specs.declared.reply.Completion.{Completion}
use Rattle.engine_calls.specs.declared.reply.Reply.{Reply}
use Rattle.event_loop.specs.declared.runner.RunnerStep.{RunnerStep}
use Rattle.event_loop.specs.declared.runner.RunnerStep.TheVariants as steps
use Rattle.script_runner.specs.ScriptSteps.{NextGives, ScriptState, opening}
use Rattle.script_files.specs.declared.script.ScriptLine.{ScriptLine}
use Rattle.script_plays.specs.declared.moves.Move.{Move}
use Rattle.script_plays.specs.declared.moves.Move.TheVariants as moves
use Rattle.script_players.specs.Players.{AreAlike, PlayerState, number_in, refused_so, state_by, told_completion}
use Rattle.event_loop.specs.declared.loop_state.RunnerState.{RunnerState}
use Rattle.event_loop.specs.declared.loop_state.RunnerState.TheVariants.{Blocked, Over, Ready}
use Rattle.world.specs.Headline.{IsRunOfMachine, SessionsAreTrue}
use Rattle.world.specs.Steps.{IsRefusedBy, Went}
use Rattle.world.specs.WorldState.{WorldState, opening_world}
use Rattle.world.specs.declared.event.Event.{Event}
use Rattle.world.specs.declared.event.Event.TheVariants as events
use Rattle.world.specs.declared.event.Failed.{Failed}
use Rattle.world.specs.declared.event.Stepped.{Stepped}

-- a world and its players, by rank
pub record PlayState : Type 0 where
  pub world : WorldState
  pub players : List PlayerState

-- a rank whose blocked call was answered, if there is one, among the others
abbrev pub with_told : List PlayerState → (rank : ℕ) → Option Completion → Option PlayerState → List PlayerState
with_told players r c None = players
with_told players r c (Some p) = slice_set players r (told_completion c p)

-- A call of a rank's runner: the world takes it, and the runner is told what the history holds of its answer; or it is
-- refused, and the runner is told so
abbrev pub CallMoves : PlayState → (rank : ℕ) → PlayerState → ScriptState → Call → Result Stepped Failed → PlayState →
    Type 0
CallMoves old r p s call (Ok added) new =
    (w : WorldState) × (went : Went old.world (events.Call r call) added w) ×
    (told : Option Reply) × AreAlike went.gave.reply told
    × (new ≡ record {
      world = w;
      players =
          slice_set old.players r (record p { runner = s; state = state_by call told went.gave.completion });
    })
CallMoves old r p s call (Err failed) new =
    (w : WorldState) × (reply : Reply) × IsRefusedBy old.world (events.Call r call) failed w ×
    refused_so failed.refused call reply
    × (new ≡ record {
      world = w;
      players =
          slice_set old.players r
          (record p { runner = s; state = Ready (Some reply); refused = p.refused ++ number_in failed.refused });
    })

-- a runner's step
abbrev pub StepMoves : PlayState → (rank : ℕ) → PlayerState → ScriptState → RunnerStep → PlayState → Type 0
StepMoves old r p s (steps.Print line) new =
    new ≡ record old {
      players =
          slice_set old.players r (record p { runner = s; state = Ready None; lines = p.lines ++ line ∷ [] });
    }
StepMoves old r p s (steps.End status line) new =
    new ≡ record old { players = slice_set old.players r (record p { runner = s; state = Over status line }) }
StepMoves old r p s (steps.Call call) new = (result : Result Stepped Failed) × CallMoves old r p s call result new

abbrev pub GoesBy : PlayState → (rank : ℕ) → PlayerState → RunnerState Call → PlayState → Type 0
GoesBy old r p (Ready reply) new = (step : RunnerStep) × (s : ScriptState) × NextGives p.runner reply step s ×
    StepMoves old r p s step new
GoesBy old r p (Blocked call) new = new ≡ old
GoesBy old r p (Over status line) new = new ≡ old

-- `Go`: at a blocked, ended or unknown rank nothing
abbrev pub GoGives : PlayState → (rank : ℕ) → Option PlayerState → PlayState → Type 0
GoGives old r None new = new ≡ old
GoGives old r (Some p) new = GoesBy old r p p.state new

-- a delivery or a tick: refused, it changes nothing of the players; else the answer to a blocked call is told
abbrev pub EventGives : PlayState → Event → Result Stepped Failed → PlayState → Type 0
EventGives old event (Ok added) new =
    (w : WorldState) × (went : Went old.world event added w)
    × (new ≡ record {
      world = w;
      players =
          with_told old.players went.gave.endpoint.rank went.gave.completion
          (slice_get old.players went.gave.endpoint.rank);
    })
EventGives old event (Err failed) new = (w : WorldState) × IsRefusedBy old.world event failed w ×
    (new ≡ record old { world = w })

-- ONE MOVE
abbrev pub MoveGives : PlayState → Move → PlayState → Type 0
MoveGives old (moves.Go r) new = GoGives old r (slice_get old.players r) new
MoveGives old (moves.Deliver d) new = (result : Result Stepped Failed) × EventGives old (events.Deliver d) result new
MoveGives old (moves.Tick r now) new = (result : Result Stepped Failed) × EventGives old (events.Tick r now) result new

-- What is claimed of every world: what is seen of it is a run of the machine, and what its sessions and datagrams tell
-- is true
pub record HasHeadline (w : WorldState) : Type 0 where
  pub run : IsRunOfMachine w
  pub sessions : SessionsAreTrue w

-- ALL MOVES. Each world on the way is one of which that is so
abbrev pub ScheduleGives : PlayState → List Move → PlayState → Type 0
ScheduleGives old [] new = (new ≡ old) × HasHeadline old.world
ScheduleGives old (m ∷ ms) new = HasHeadline old.world ×
    ((mid : PlayState) × MoveGives old m mid × ScheduleGives mid ms new)

-- the players of scripts at their start, from this rank on
abbrev pub players_of : (rank : ℕ) → List (List ScriptLine) → List PlayerState
players_of r [] = []
players_of r (script ∷ scripts) =
    record { runner = opening script r 0; state = Ready None; lines = []; refused = [] } ∷ players_of (ℕ.suc r) scripts

abbrev pub play_opening : List (List ScriptLine) → PlayState
play_opening scripts = record { world = opening_world (length scripts); players = players_of 0 scripts }

-- WHAT `play` GIVES
abbrev pub PlayGives : List (List ScriptLine) → List Move → PlayState → Type 0
PlayGives scripts schedule new = ScheduleGives (play_opening scripts) schedule new
