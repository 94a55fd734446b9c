-- A rank that plays in a world: how it stands, and what a step of its runner makes of both.
use Rattle.std.specs.Prelude.{◌≡◌, ℕ, Bool, true, false, List, ◌∷◌, [], ◌++◌, length, Option, Some, None, Result, Ok, Err}
use Rattle.engine_calls.specs.declared.call.Call.{Call}
use Rattle.engine_calls.specs.declared.reply.Completion.{Completion}
use Rattle.engine_calls.specs.declared.reply.Reply.{Reply}
use Rattle.engine_calls.specs.declared.reply.Reply.TheVariants as replies
use Rattle.point_to_point_calls.specs.Refusals.{number_of_refusal}
use Rattle.point_to_point_calls.specs.declared.refusal.Refusal as lower
use Rattle.event_loop.specs.Turns.{state_after}
use Rattle.event_loop.specs.declared.loop_state.RunnerState.{RunnerState}
use Rattle.event_loop.specs.declared.loop_state.RunnerState.TheVariants.{Blocked, Over, Ready}
use Rattle.event_loop.specs.declared.runner.RunnerStep.{RunnerStep}
use Rattle.event_loop.specs.declared.runner.RunnerStep.TheVariants as steps
use Rattle.replies.specs.Copies.{IsCopyOf, reply_of}
use Rattle.script_runner.specs.ScriptRanks.{RankState}
use Rattle.script_runner.specs.ScriptSteps.{NextGives, ScriptState}
use Rattle.world.specs.Steps.{IsRefusedBy, Went}
use Rattle.world.specs.WorldState.{WorldState}
use Rattle.world.specs.declared.event.Event.TheVariants as events
use Rattle.world.specs.declared.event.Failed.{Failed}
use Rattle.world.specs.declared.event.Stepped.{Stepped}
use Rattle.world.specs.declared.refusal.WorldRefusal as world_refusal
use Rattle.world.specs.declared.refusal.WorldRefusal.TheVariants as refusals

-- WHAT IS TOLD

-- a copy of a reply, if there is one
abbrev pub AreAlike : Option Reply → Option Reply → Type 0
AreAlike (Some reply) (Some copy) = IsCopyOf reply copy
AreAlike reply copy = copy ≡ reply

-- A rank that plays: its runner, how it stands, the lines so far, and the numbers of its refused calls
pub record PlayerState : Type 0 where
  pub runner : ScriptState
  pub state : RunnerState Call
  pub lines : List (List ℕ)
  pub refused : List ℕ

-- how a player stands, whichever lines are left to it: they are so many
pub record Standing : Type 0 where
  pub left : ℕ
  pub rank : RankState
  pub state : RunnerState Call
  pub lines : List (List ℕ)
  pub refused : List ℕ

abbrev pub standing_of : PlayerState → Standing
standing_of p = record {
  left = length p.runner.lines;
  rank = p.runner.rank;
  state = p.state;
  lines = p.lines;
  refused = p.refused;
}

-- what a rank waits for once its call was replied so, and, in the same event, completed or not
abbrev pub state_by_reply : Call → Option Reply → RunnerState Call
state_by_reply call None = Ready None
state_by_reply call (Some reply) = state_after call reply

abbrev pub state_by : Call → Option Reply → Option Completion → RunnerState Call
state_by call reply None = state_by_reply call reply
state_by call reply (Some c) = Ready (Some (reply_of c))

-- a rank whose blocked call was answered
abbrev pub told_if : RunnerState Call → Completion → PlayerState → PlayerState
told_if (Blocked call) c p = record p { state = Ready (Some (reply_of c)) }
told_if (Ready reply) c p = p
told_if (Over status line) c p = p

abbrev pub told_completion : Option Completion → PlayerState → PlayerState
told_completion None p = p
told_completion (Some c) p = told_if p.state c p

-- the number of a world's refusal of a call, and what the runner is told: the call comes back
abbrev pub refused_so : world_refusal.WorldRefusal → Call → Reply → Type 0
refused_so (refusals.Engine why) call reply = reply ≡ replies.Refused why call
refused_so refusals.NoSuchRank call reply = ⊥
refused_so refusals.NoSuchDatagram call reply = ⊥
refused_so refusals.CarriesJob call reply = ⊥

abbrev pub number_in : world_refusal.WorldRefusal → List ℕ
number_in (refusals.Engine why) = number_of_refusal why ∷ []
number_in refusals.NoSuchRank = []
number_in refusals.NoSuchDatagram = []
number_in refusals.CarriesJob = []

-- whether a rank's script has ended
abbrev pub is_over : RunnerState Call → Bool
is_over (Over status line) = true
is_over (Ready told) = false
is_over (Blocked call) = false

-- what a rank that may go on was told is taken; another stays as it stands
abbrev pub TakesTold : RunnerState Call → Option (Option Reply) → RunnerState Call → Type 0
TakesTold (Ready told) result new = (result ≡ Some told) × (new ≡ Ready None)
TakesTold (Blocked call) result new = (result ≡ None) × (new ≡ Blocked call)
TakesTold (Over status line) result new = (result ≡ None) × (new ≡ Over status line)

-- a refused call is noted by its number, and its runner is told
abbrev pub IsHandedBack : Failed → RunnerState Call → (before after : List ℕ) → Type 0
IsHandedBack failed new before after =
    (why : lower.Refusal) (rank : ℕ) (call : Call) → failed.refused ≡ refusals.Engine why →
    failed.event ≡ events.Call rank call →
    (new ≡ Ready (Some (replies.Refused why call))) × (after ≡ before ++ number_of_refusal why ∷ [])

-- how a rank stands once a blocked call was answered, if it was
abbrev pub told_at : Option Completion → RunnerState Call → RunnerState Call
told_at (Some c) (Blocked call) = Ready (Some (reply_of c))
told_at (Some c) (Ready told) = Ready told
told_at (Some c) (Over status line) = Over status line
told_at None state = state

-- a call of a rank is taken, or refused
abbrev pub CallGoes : WorldState → (rank : ℕ) → Call → Result Stepped Failed → PlayerState → WorldState → PlayerState →
    Type 0
CallGoes w r call (Ok added) p v q =
    (went : Went w (events.Call r call) added v) × (told : Option Reply) × AreAlike went.gave.reply told ×
    (q ≡ record p { state = state_by call told went.gave.completion })
CallGoes w r call (Err failed) p v q =
    (reply : Reply) × IsRefusedBy w (events.Call r call) failed v × refused_so failed.refused call reply
    × (q ≡ record p { state = Ready (Some reply); refused = p.refused ++ number_in failed.refused })

-- a runner's step, of a rank that has nothing to tell it
abbrev pub StepGoes : WorldState → (rank : ℕ) → RunnerStep → PlayerState → WorldState → PlayerState → Type 0
StepGoes w r (steps.Print line) p v q = (v ≡ w) × (q ≡ record p { lines = p.lines ++ line ∷ [] })
StepGoes w r (steps.End status line) p v q = (v ≡ w) × (q ≡ record p { state = Over status line })
StepGoes w r (steps.Call call) p v q = (answer : Result Stepped Failed) × CallGoes w r call answer p v q

-- a rank goes on, where it may
abbrev pub GoesFrom : WorldState → (rank : ℕ) → PlayerState → RunnerState Call → WorldState → PlayerState → Type 0
GoesFrom w r p (Ready told) v q =
    (step : RunnerStep) × (s : ScriptState) × NextGives p.runner told step s ×
    StepGoes w r step (record p { runner = s; state = Ready None }) v q
GoesFrom w r p (Blocked call) v q = (v ≡ w) × (q ≡ p)
GoesFrom w r p (Over status line) v q = (v ≡ w) × (q ≡ p)

abbrev pub PlayerGoes : WorldState → (rank : ℕ) → PlayerState → WorldState → PlayerState → Type 0
PlayerGoes w r p v q = GoesFrom w r p p.state v q
