-- What a rank answers to a call: what its engine answers to the call that the numbers mean.
use Rattle.std.specs.Prelude.{◌≡◌, ◌⊎◌, ℕ, List, Bool, true, false, Option, Some, None, Result, Ok, Err}
use Rattle.vocabulary.specs.declared.basic_type.BasicType.{BasicType}
use Rattle.requests.specs.Table.{finished_at}
use Rattle.point_to_point.specs.Looks.{type_taken_out}
use Rattle.engine.specs.Looks.{type_probed}
use Rattle.engine_calls.specs.Calls.{CallGives}
use Rattle.engine_calls.specs.EngineState.{EngineState, completion_of, without_completion}
use Rattle.engine_calls.specs.declared.call.Call.TheVariants as calls
use Rattle.engine_calls.specs.declared.reply.Completion.{Completion}
use Rattle.engine_calls.specs.declared.reply.Reply.{Reply}
use Rattle.engine_calls.specs.declared.reply.Reply.TheVariants as replies
use Rattle.c_rank.specs.Answers.{TellsRanks, answer_of_kind, fact_answer, refusal, told_by, told_by_completion}
use Rattle.c_rank.specs.Kinds.{has_elements, kind_at}
use Rattle.c_rank.specs.Meanings.{meaning}
use Rattle.c_rank.specs.State.{RankState}
use Rattle.c_rank.specs.declared.answers.Told.{Told}
use Rattle.c_rank.specs.declared.meaning.Meant.{Meant}
use Rattle.c_rank.specs.declared.meaning.Meant.TheVariants as meant
use Rattle.c_rank.specs.declared.rank.ReceivedData.{ReceivedData}
use Rattle.c_rank.specs.declared.records.AnswerRecord.{AnswerRecord}
use Rattle.c_rank.specs.declared.records.CallRecord.{CallRecord}

-- the data that are there behind an answer: those that it brings, or else those that were there
abbrev pub received_behind : Option ReceivedData → Option ReceivedData → Option ReceivedData
received_behind None before = before
received_behind (Some brought) before = Some brought

-- this is told, and its data are there
abbrev pub Tells : RankState → Told → AnswerRecord → RankState → Type 0
Tells old t a new = (a ≡ t.answer) × (new.received ≡ received_behind t.received old.received)

-- a reply is told, and the type of what a probe found; where it brings members, memory for them may be wanting
abbrev pub TellsReply : RankState → Reply → Option BasicType → AnswerRecord → RankState → Type 0
TellsReply old reply basic a new =
    Tells old (told_by reply basic) a new ⊎ (TellsRanks reply × (a ≡ refusal 14) × (new.received ≡ old.received))

-- the type of the message that a matching probe took out, by its reply
abbrev pub type_out : EngineState → Reply → Option BasicType
type_out e (replies.Matched (Some (Some message, status))) = type_taken_out e.core message
type_out e _ = None

-- whether a request is finished (1) or not (0); 6 where there is none
abbrev pub look_told : Option Bool → AnswerRecord
look_told (Some true) = fact_answer 1
look_told (Some false) = fact_answer 0
look_told None = refusal 6

-- the answer of the call that was blocked, if it is there
abbrev pub Finishes : RankState → Option Completion → AnswerRecord → RankState → Type 0
Finishes old None a new = (a ≡ answer_of_kind 3) × (new.received ≡ old.received)
Finishes old (Some completion) a new = Tells old (told_by_completion completion) a new

-- what is meant is answered by the engine
abbrev pub AnswersMeant : Meant → RankState → AnswerRecord → RankState → Type 0
AnswersMeant (meant.Call call) old a new =
    (reply : Reply) × (CallGives old.engine call reply new.engine × TellsReply old reply (type_out new.engine reply) a new)
AnswersMeant (meant.Probe probe) old a new =
    (reply : Reply) × (CallGives old.engine (calls.Iprobe probe) reply new.engine
    × TellsReply old reply (type_probed new.engine probe) a new)
AnswersMeant (meant.Look request) old a new =
    (a ≡ look_told (finished_at old.engine.core.slots request)) × (new.engine ≡ old.engine) × (new.received ≡ old.received)
AnswersMeant meant.Finish old a new =
    (new.engine ≡ without_completion old.engine) × Finishes old (completion_of old.engine) a new

-- the call is answered, or its numbers mean none
abbrev pub AnswersAs : Result Meant ℕ → RankState → AnswerRecord → RankState → Type 0
AnswersAs (Ok m) old a new = AnswersMeant m old a new
AnswersAs (Err n) old a new = (a ≡ refusal n) × (new ≡ old)

-- a call that this may mean is answered so; or memory was wanting for its elements, and nothing changed
abbrev pub AnswersOrLacks : Result Meant ℕ → RankState → AnswerRecord → RankState → Type 0
AnswersOrLacks m old a new = AnswersAs m old a new ⊎ ((a ≡ refusal 14) × (new ≡ old))

-- a call is answered so; or it hands elements in or has room for some, memory was wanting for them, and nothing changed
abbrev pub Answers : RankState → CallRecord → List ℕ → AnswerRecord → RankState → Type 0
Answers old r bytes a new =
    AnswersAs (meaning r bytes) old a new ⊎ ((has_elements (kind_at r.kind) ≡ true) × (a ≡ refusal 14) × (new ≡ old))
