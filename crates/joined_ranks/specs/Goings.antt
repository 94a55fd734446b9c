-- How joined ranks go on from the run of the machine that they had come by: by a call of one of them, or while nobody
-- calls and what was sent comes.
use Rattle.std.specs.Prelude.{◌≡◌, ℕ, Bool, List, ◌++◌, Option, Some, None, Result, Ok, Err}
use Rattle.std.specs.Prelude.{option_and_then, slice_get}
use Rattle.std.specs.List.{AllByRecursion}
use Rattle.perfect_groups.specs.Events as machine
use Rattle.engine_calls.specs.declared.call.Call.{Call}
use Rattle.engine_calls.specs.declared.call.Call.TheVariants as calls
use Rattle.engine_calls.specs.declared.reply.Completion.{Completion}
use Rattle.engine_calls.specs.declared.reply.Reply.{Reply}
use Rattle.engine_calls.specs.declared.reply.Reply.TheVariants as replies
use Rattle.point_to_point_calls.specs.Refusals.{number_of_refusal}
use Rattle.replies.specs.Copies.{reply_of}
use Rattle.vocabulary.specs.declared.basic_type.BasicType.{BasicType}
use Rattle.requests.specs.Table.{finished_at}
use Rattle.requests.specs.declared.table.Request.{Request}
use Rattle.point_to_point_calls.specs.declared.call.Probe.{Probe}
use Rattle.engine.specs.Looks.{type_probed}
use Rattle.c_rank.specs.Answers.{refusal}
use Rattle.c_rank.specs.Calls.{look_told, type_out}
use Rattle.c_rank.specs.declared.records.AnswerRecord.{AnswerRecord}
use Rattle.c_rank.specs.declared.meaning.Meant.{Meant}
use Rattle.c_rank.specs.declared.meaning.Meant.TheVariants as meant
use Rattle.world.specs.RunningSteps.{CallRunsOn, GoesOnByCall, HasComeBy, RunningState}
use Rattle.world.specs.declared.answered.Answered.{Answered}
use Rattle.world.specs.declared.refusal.WorldRefusal.{WorldRefusal}
use Rattle.world.specs.declared.refusal.WorldRefusal.TheVariants as refusals
use Rattle.joined_ranks.specs.declared.part.RankPart.{RankPart}
use Rattle.joined_ranks.specs.Kept.{Finishes, JoinedState, TellsReply}

-- nobody calls in this event of the machine
abbrev pub HasNoCall : machine.Event → Type 0
HasNoCall (machine.At e None moves) = Unit {0}
HasNoCall (machine.At e (Some c) moves) = ⊥
HasNoCall (machine.Restart r) = ⊥

-- THE NETWORK AT WORK: from whatever run of the machine the ranks had come by, they have come by that run and further
-- events, in none of which a rank calls or is started anew
abbrev pub GoesOnAlone : RunningState → RunningState → Type 0
GoesOnAlone old new =
    (run_events : List machine.Event) → HasComeBy old run_events →
    (more : List machine.Event) × AllByRecursion HasNoCall more × HasComeBy new (run_events ++ more)

-- ---- what a rank is told

-- what ended a call at once, or else what it was answered
abbrev pub ended_or : Option Completion → Option Reply → Reply
ended_or (Some completion) reply = reply_of completion
ended_or None (Some reply) = reply
ended_or None None = replies.Pending

-- the number of why a call wasn't taken; 5 where there is no such rank
abbrev pub number_told : WorldRefusal → ℕ
number_told (refusals.Engine refused) = number_of_refusal refused
number_told refusals.NoSuchRank = 5
number_told refusals.NoSuchDatagram = 5
number_told refusals.CarriesJob = 5

-- the basic type of what a matching probe took out, by its reply, at the engine of this rank
abbrev pub type_out_in : RunningState → (rank : ℕ) → Reply → Option BasicType
type_out_in w rank reply = option_and_then (λ e. type_out e reply) (slice_get w.engines rank)

-- the basic type of the message that a probe finds there
abbrev pub type_probed_in : RunningState → (rank : ℕ) → Probe → Option BasicType
type_probed_in w rank probe = option_and_then (λ e. type_probed e probe) (slice_get w.engines rank)

-- whether a request is finished, as the table of requests of this rank's engine has it; none where it isn't there
abbrev pub finished_in : RunningState → (rank : ℕ) → Request → Option Bool
finished_in w rank request = option_and_then (λ e. finished_at e.core.slots request) (slice_get w.engines rank)

-- what a call was answered is told, with the type that its reply has for it, and its data are kept; or why it wasn't
-- taken, and nothing is kept
abbrev pub IsAnswerTold : (rank : ℕ) → (Reply → Option BasicType) → Result Answered WorldRefusal → List RankPart →
    AnswerRecord → List RankPart → Type 0
IsAnswerTold rank type_of (Ok answered) old a new =
    TellsReply rank (ended_or answered.completion answered.reply)
    (type_of (ended_or answered.completion answered.reply)) old a new
IsAnswerTold rank type_of (Err refused) old a new = (a ≡ refusal (number_told refused)) × (new ≡ old)

-- ---- a call

-- A CALL: the rank's engine is called so, which goes on from the ranks' run of the machine by one event of this call, or
-- is refused and changes nothing; and what the engine answered is told
abbrev pub IsStepOf : (rank : ℕ) → Call → (Reply → Option BasicType) → JoinedState → AnswerRecord → JoinedState → Type 0
IsStepOf rank call type_of old a new =
    (answer : Result Answered WorldRefusal) × (CallRunsOn old.world rank call answer new.world)
    × GoesOnByCall old.world call answer new.world × IsAnswerTold rank type_of answer old.parts a new.parts

-- What was meant is such a step. A look and the question for the end of a blocked call are none: the one tells what the
-- engine's table of requests says, and the other what was kept of the rank's calls that ended
abbrev pub IsCallMeant : (rank : ℕ) → Meant → JoinedState → AnswerRecord → JoinedState → Type 0
IsCallMeant rank (meant.Call call) old a new = IsStepOf rank call (type_out_in new.world rank) old a new
IsCallMeant rank (meant.Probe probe) old a new =
    IsStepOf rank (calls.Iprobe probe) (λ reply. type_probed_in new.world rank probe) old a new
IsCallMeant rank (meant.Look request) old a new = (a ≡ look_told (finished_in old.world rank request)) × (new ≡ old)
IsCallMeant rank meant.Finish old a new = (new.world ≡ old.world) × Finishes rank old.parts a new.parts

-- the same of numbers that may mean nothing
abbrev pub IsCallOf : (rank : ℕ) → Result Meant ℕ → JoinedState → AnswerRecord → JoinedState → Type 0
IsCallOf rank (Ok m) old a new = IsCallMeant rank m old a new
IsCallOf rank (Err n) old a new = (a ≡ refusal n) × (new ≡ old)

-- memory for what is handed in was wanting, and nothing changes
abbrev pub LeavesAs : JoinedState → AnswerRecord → JoinedState → Type 0
LeavesAs old a new = (a ≡ refusal 14) × (new ≡ old)
