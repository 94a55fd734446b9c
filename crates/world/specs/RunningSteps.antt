-- A world of which nothing past is kept: its engines, and the datagrams that are on their way. Each of them comes once,
-- in the order in which they were sent. Whatever its past was, it goes on as a world does that keeps it all.
use Rattle.std.specs.Prelude.{◌≡◌, ◌⊎◌, ℕ, List, [], ◌∷◌, ◌++◌, length, Option, Some, None, Result, Ok, Err, slice_get}
use Rattle.engine_calls.specs.Calls.{CallGives}
use Rattle.engine_calls.specs.EngineState.{EngineState}
use Rattle.engine_calls.specs.declared.call.Call.{Call}
use Rattle.engine_calls.specs.declared.reply.Completion.{Completion}
use Rattle.engine_calls.specs.declared.reply.Reply.TheVariants as replies
use Rattle.perfect_groups.specs.Events as machine
use Rattle.point_to_point_calls.specs.declared.refusal.Refusal as lower
use Rattle.point_to_point_calls.specs.declared.refusal.Refusal.TheVariants as lowers
use Rattle.proof_network_bridge.specs.WorldViews.{opening_engines}
use Rattle.vocabulary.specs.declared.message_limit.MessageLimit.{MessageLimit}
use Rattle.observation.specs.EngineCalls.{call_seen}
use Rattle.world.specs.EventByEvent.{GoesOn, HasRun, IsCallOf, IsWithoutCall}
use Rattle.world.specs.Headline.{IsSound}
use Rattle.world.specs.Steps.{Gave, RanAt, Rejection, StepGives, emitted}
use Rattle.world.specs.WorldState.{WorldState}
use Rattle.world.specs.declared.answered.Answered.{Answered}
use Rattle.world.specs.declared.answered.Came.{Came}
use Rattle.world.specs.declared.event.Event.{Event}
use Rattle.world.specs.declared.event.Event.TheVariants as events
use Rattle.world.specs.declared.event.Failed.{Failed}
use Rattle.world.specs.declared.event.HistoryEntry.{HistoryEntry}
use Rattle.world.specs.declared.event.Stepped.{Stepped}
use Rattle.world.specs.declared.refusal.WorldRefusal.{WorldRefusal}
use Rattle.world.specs.declared.refusal.WorldRefusal.TheVariants as refusals

-- A world of which nothing past is kept
pub record RunningState : Type 0 where
  pub engines : List EngineState
  -- what is on its way: each datagram's target rank and bytes, the oldest first
  pub waiting : List (ℕ × List ℕ)

-- so many ranks with this limit of messages, to which nothing happened yet
abbrev pub opening_running : MessageLimit → ℕ → RunningState
opening_running l n = record { engines = opening_engines l n 0 n; waiting = [] }

-- A PAST OF IT: a world that keeps all that was sent and done, has these engines now, and of whose datagrams all have come
-- but those that are on their way
pub record IsPastOf (w : WorldState) (s : RunningState) : Type 0 where
  pub engines : w.engines ≡ s.engines
  pub came : List (ℕ × List ℕ)
  pub datagrams : w.datagrams ≡ came ++ s.waiting
  pub sound : IsSound w.engines w.datagrams w.history

-- it has one
pub record HasPast (s : RunningState) : Type 0 where
  pub world : WorldState
  pub past : IsPastOf world s

-- IT HAS COME BY THIS RUN of the machine of queues and groups: so has a past of it
pub record HasComeBy (s : RunningState) (run_events : List machine.Event) : Type 0 where
  pub world : WorldState
  pub past : IsPastOf world s
  pub run : HasRun world run_events

-- A STEP OF A PAST by this event, with this answer, to what runs now
pub record StepsTo (w : WorldState) (event : Event) (answer : Result Stepped Failed) (new : RunningState) : Type 0 where
  pub world : WorldState
  pub gives : StepGives w event answer world
  pub goes_on : GoesOn w event answer world
  pub past : IsPastOf world new

-- ---- a call

-- its rank's engine takes it: what that emits is on its way behind all else, and nothing else changes
pub record TakesCall (old : RunningState) (rank : ℕ) (call : Call) (a : Answered) (new : RunningState) : Type 0 where
  pub gave : Gave
  pub reply : a.reply ≡ gave.reply
  pub completion : a.completion ≡ gave.completion
  pub ran : RanAt [] (events.Call rank call) old.engines (Ok gave) new.engines
  pub waiting : new.waiting ≡ old.waiting ++ gave.out

-- why a call is refused at this engine: by it, or for want of memory; where there is none, that is why
abbrev pub IsCallRefused : Option EngineState → Call → WorldRefusal → Type 0
IsCallRefused None call refused = refused ≡ refusals.NoSuchRank
IsCallRefused (Some e) call refused =
    (refused ≡ refusals.Engine lowers.OutOfMemory)
    ⊎ ((why : lower.Refusal) × (back : Call) × (refused ≡ refusals.Engine why) × CallGives e call (replies.Refused why back) e)

-- a call is taken, or it is refused, and then nothing changes
abbrev pub CallRunsOn : RunningState → (rank : ℕ) → Call → Result Answered WorldRefusal → RunningState → Type 0
CallRunsOn old rank call (Ok a) new = TakesCall old rank call a new
CallRunsOn old rank call (Err refused) new = (new ≡ old) × IsCallRefused (slice_get old.engines rank) call refused

-- what the history holds of a call that was answered so
pub record IsEntryOf (rank : ℕ) (call : Call) (a : Answered) (entry : HistoryEntry) : Type 0 where
  pub event : entry.event ≡ events.Call rank call
  pub reply : entry.reply ≡ a.reply
  pub completion : entry.completion ≡ a.completion

-- whatever its past was, a call that is taken is one step of it, which its history holds as it was answered
pub record CallSteps (w : WorldState) (rank : ℕ) (call : Call) (a : Answered) (new : RunningState) : Type 0 where
  pub added : Stepped
  pub steps : StepsTo w (events.Call rank call) (Ok added) new
  pub entry : HistoryEntry
  pub history : steps.world.history ≡ w.history ++ entry ∷ []
  pub tells : IsEntryOf rank call a entry

abbrev pub CallGoesOn : RunningState → (rank : ℕ) → Call → Result Answered WorldRefusal → RunningState → Type 0
CallGoesOn old rank call (Ok a) new = (w : WorldState) → IsPastOf w old → CallSteps w rank call a new
CallGoesOn old rank call (Err refused) new = new ≡ old

-- from whatever run of the machine it had come by, it has come by that run and one event of this call; by the very same
-- where the call is refused
abbrev pub GoesOnByCall : RunningState → Call → Result Answered WorldRefusal → RunningState → Type 0
GoesOnByCall old call (Ok a) new = (run_events : List machine.Event) → HasComeBy old run_events →
    (more : List machine.Event) × IsCallOf (call_seen call) more × HasComeBy new (run_events ++ more)
GoesOnByCall old call (Err refused) new = new ≡ old

-- ---- what is on its way comes

-- what ended a blocked call, where a datagram was taken that ended it
abbrev pub ended_by : Result Gave Rejection → Option Completion
ended_by (Ok gave) = gave.completion
ended_by (Err e) = None

-- it was taken, or refused by a rule; memory wasn't wanting
abbrev pub IsHeard : Result Gave Rejection → Type 0
IsHeard (Ok gave) = Unit {0}
IsHeard (Err e) = e.refused ≡ lowers.OutOfMemory → ⊥

-- The oldest datagram comes to its rank, whose engine takes it or refuses it by a rule. What that emits is on its way behind all
-- else, and nothing else changes
pub record Comes (old : RunningState) (c : Came) (new : RunningState) : Type 0 where
  pub bytes : List ℕ
  pub rest : List (ℕ × List ℕ)
  pub oldest : old.waiting ≡ (c.rank, bytes) ∷ rest
  pub gave : Result Gave Rejection
  pub ran : RanAt ((c.rank, bytes) ∷ []) (events.Deliver 0) old.engines gave new.engines
  pub heard : IsHeard gave
  pub completion : c.completion ≡ ended_by gave
  pub waiting : new.waiting ≡ rest ++ emitted gave

-- the oldest one is for a rank that there isn't
pub record IsForNobody (s : RunningState) : Type 0 where
  pub rank : ℕ
  pub bytes : List ℕ
  pub rest : List (ℕ × List ℕ)
  pub oldest : s.waiting ≡ (rank, bytes) ∷ rest
  pub nobody : slice_get s.engines rank ≡ None

-- why it doesn't come: for want of memory, or since it is for nobody
abbrev pub IsWhyNot : RunningState → WorldRefusal → Type 0
IsWhyNot s refused =
    (refused ≡ refusals.Engine lowers.OutOfMemory) ⊎ ((refused ≡ refusals.NoSuchRank) × IsForNobody s)

-- nothing is on its way; or the oldest datagram comes; or it doesn't, and then nothing changes
abbrev pub NextComes : RunningState → Result (Option Came) WorldRefusal → RunningState → Type 0
NextComes old (Ok None) new = (old.waiting ≡ []) × (new ≡ old)
NextComes old (Ok (Some c)) new = Comes old c new
NextComes old (Err refused) new = (new ≡ old) × IsWhyNot old refused

-- whatever its past was, that a datagram comes is one step of it: its delivery, which is the first
abbrev pub NextGoesOn : RunningState → Result (Option Came) WorldRefusal → RunningState → Type 0
NextGoesOn old (Ok None) new = new ≡ old
NextGoesOn old (Ok (Some c)) new = (w : WorldState) → (p : IsPastOf w old) →
    (answer : Result Stepped Failed) × StepsTo w (events.Deliver (length p.came)) answer new
NextGoesOn old (Err refused) new = new ≡ old

-- from whatever run of the machine it had come by, it has come by that run and one event more, in which nobody calls, or
-- none
abbrev pub GoesOnByNext : RunningState → Result (Option Came) WorldRefusal → RunningState → Type 0
GoesOnByNext old (Ok None) new = new ≡ old
GoesOnByNext old (Ok (Some c)) new = (run_events : List machine.Event) → HasComeBy old run_events →
    (more : List machine.Event) × IsWithoutCall more × HasComeBy new (run_events ++ more)
GoesOnByNext old (Err refused) new = new ≡ old
