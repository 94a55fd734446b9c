-- What a rank's replies are in numbers.
use Rattle.std.specs.Prelude.{◌≡◌, ◌*◌, ◌^◌, ◌-◌, ℕ, List, length, min, take, Option, Some, None, Result, Ok, Err}
use Rattle.vocabulary.specs.BasicTypes.{code_of, size_of}
use Rattle.vocabulary.specs.declared.basic_type.BasicType.{BasicType}
use Rattle.vocabulary.specs.declared.basic_type.BasicType.TheVariants.{Uint16}
use Rattle.vocabulary.specs.declared.envelope.Source.{Source}
use Rattle.vocabulary.specs.declared.envelope.Source.TheVariants as sources
use Rattle.vocabulary.specs.declared.envelope.Status.{Status}
use Rattle.datatypes.specs.Contents.{Contents}
use Rattle.requests.specs.declared.answer.Answer.{Answer}
use Rattle.requests.specs.declared.answer.Answer.TheVariants as answers
use Rattle.requests.specs.declared.outcome.Outcome.{Outcome}
use Rattle.requests.specs.declared.outcome.Outcome.TheVariants as outcomes
use Rattle.requests.specs.declared.table.Request.{Request}
use Rattle.requests.specs.Outcomes.{number_of_failure}
use Rattle.collective_steps.specs.declared.step.Ending.{Ending}
use Rattle.collective_steps.specs.declared.step.Ending.TheVariants as endings
use Rattle.communicators.specs.declared.question.CommunicatorComparison.{CommunicatorComparison}
use Rattle.communicators.specs.declared.question.CommunicatorComparison.TheVariants as comparisons
use Rattle.point_to_point_calls.specs.Refusals.{number_of_refusal}
use Rattle.engine_calls.specs.declared.reply.Completion.{Completion}
use Rattle.engine_calls.specs.declared.reply.Completion.TheVariants as completions
use Rattle.engine_calls.specs.declared.reply.Fact.{Fact}
use Rattle.engine_calls.specs.declared.reply.Fact.TheVariants as facts
use Rattle.engine_calls.specs.declared.reply.Reply.{Reply}
use Rattle.engine_calls.specs.declared.reply.Reply.TheVariants as replies
use Rattle.c_rank.specs.declared.answers.Told.{Told}
use Rattle.c_rank.specs.declared.records.AnswerRecord.{AnswerRecord}
use Rattle.c_rank.specs.declared.records.RequestRecord.{RequestRecord}

-- an answer of a kind, of which nothing more is told
abbrev pub answer_of_kind : ℕ → AnswerRecord
answer_of_kind kind = record {
  kind = kind;
  number = 0;
  outcome = 0;
  basic = 0;
  request = record { key = 0; serial = 0 };
  source = 0;
  tag = 0;
  count = 0;
  bytes = 0;
  fact = 0;
  communicator = 0;
}

-- kind 0: refused with this number
abbrev pub refusal : ℕ → AnswerRecord
refusal number = record (answer_of_kind 0) { number = number }

-- kind 7: the answer to a question
abbrev pub fact_answer : ℕ → AnswerRecord
fact_answer fact = record (answer_of_kind 7) { fact = fact }

-- any rank is 2^32 - 1, the null process 2^32 - 2
abbrev pub peer_number : Source → ℕ
peer_number sources.Any = 4294967295
peer_number sources.Null = 4294967294
peer_number (sources.Rank rank) = rank

abbrev pub tag_number : Option ℕ → ℕ
tag_number None = 4294967295
tag_number (Some tag) = tag

-- MPI_COMM_NULL is 2^32 - 1
abbrev pub communicator_number : Option ℕ → ℕ
communicator_number None = 4294967295
communicator_number (Some place) = min place 4294967295

abbrev pub request_told : Request → RequestRecord
request_told r = record { key = r.key; serial = r.serial }

-- the message of the null process has the highest key and serial
abbrev pub message_told : Option Request → RequestRecord
message_told None = record { key = 18446744073709551615; serial = 18446744073709551615 }
message_told (Some r) = request_told r

-- 0 where the type isn't known
abbrev pub code_told : Option BasicType → ℕ
code_told None = 0
code_told (Some t) = code_of t

-- what is known of a message
abbrev pub with_status : AnswerRecord → Status → AnswerRecord
with_status a s = record a { source = peer_number s.source; tag = tag_number s.tag; count = s.count }

-- kind 2: an operation ended so, with this number
abbrev pub done : (outcome number : ℕ) → AnswerRecord
done outcome number = record (answer_of_kind 2) { outcome = outcome; number = number }

-- no data come
abbrev pub plain : AnswerRecord → Told
plain a = record { answer = a; received = None }

-- the first elements of a buffer come
abbrev pub with_data : AnswerRecord → Contents → (count : ℕ) → Told
with_data a b count = record {
  answer = record a { basic = code_of b.basic; count = count; bytes = min (count * size_of b.basic) (2 ^ 64 - 1) };
  received = Some (record { buffer = record b { values = take count b.values }; count = count });
}

-- a send is finished (1); a receive has its data (2), none of them (3), or its peer was started anew (4); a receive was
-- cancelled (5); the null request (6)
abbrev pub told_by_outcome : Outcome → Told
told_by_outcome outcomes.Sent = plain (done 1 0)
told_by_outcome (outcomes.Received status b) = with_data (with_status (done 2 0) status) b status.count
told_by_outcome (outcomes.Ended why status b) = plain (with_status (done 3 (number_of_failure why)) status)
told_by_outcome (outcomes.Replaced b) = plain (done 4 11)
told_by_outcome (outcomes.Cancelled b) = plain (done 5 0)
told_by_outcome outcomes.Empty = plain (done 6 0)

-- a call of C's completes one request
abbrev pub told_by_answer : Answer → Told
told_by_answer (answers.One outcome) = told_by_outcome outcome
told_by_answer (answers.Index place outcome) = told_by_outcome outcome
told_by_answer answers.IndexUndefined = plain (done 6 0)
told_by_answer (answers.All outcomes) = plain (done 6 0)

-- kind 6: a collective ended with this number
abbrev pub left : ℕ → AnswerRecord
left number = record (answer_of_kind 6) { number = number }

abbrev pub told_by_ending : Ending → Told
told_by_ending (endings.Left None) = plain (left 0)
told_by_ending (endings.Left (Some b)) = with_data (left 0) b (length b.values)
told_by_ending (endings.Comm place) = plain (record (left 0) { communicator = communicator_number place })
told_by_ending endings.Replaced = plain (left 11)
told_by_ending endings.Mismatch = plain (left 12)

abbrev pub comparison_number : CommunicatorComparison → ℕ
comparison_number comparisons.Ident = 0
comparison_number comparisons.Congruent = 1
comparison_number comparisons.Similar = 2
comparison_number comparisons.Unequal = 3

-- ranks as elements
abbrev pub rank_elements : List ℕ → Contents
rank_elements ranks = record { basic = Uint16; values = ranks }

-- how many members there are, and their ranks as data
abbrev pub told_by_ranks : List ℕ → Told
told_by_ranks ranks = with_data (fact_answer (length ranks)) (rank_elements ranks) (length ranks)

abbrev pub told_by_fact : Fact → Told
told_by_fact (facts.Number number) = plain (fact_answer number)
told_by_fact (facts.Ranks ranks) = told_by_ranks ranks.items
told_by_fact (facts.Compares comparison) = plain (fact_answer (comparison_number comparison))

-- a message that a probe found
abbrev pub found : (kind : ℕ) → Status → Option BasicType → AnswerRecord
found kind status basic = record (with_status (answer_of_kind kind) status) { basic = code_told basic }

-- a request was started
abbrev pub started_answer : Request → AnswerRecord
started_answer request = record (answer_of_kind 1) { request = request_told request }

-- what is told of a reply, and of the message that a probe found by this type
abbrev pub told_by : Reply → Option BasicType → Told
told_by (replies.Started request) basic = plain (started_answer request)
told_by (replies.Done answer) basic = told_by_answer answer
told_by replies.Pending basic = plain (answer_of_kind 3)
told_by replies.Accepted basic = plain (answer_of_kind 4)
told_by replies.Blocked basic = plain (answer_of_kind 5)
told_by (replies.Left ending) basic = told_by_ending ending
told_by (replies.Fact fact) basic = told_by_fact fact
told_by (replies.Probed None) basic = plain (answer_of_kind 10)
told_by (replies.Probed (Some status)) basic = plain (found 8 status basic)
told_by (replies.Matched None) basic = plain (answer_of_kind 10)
told_by (replies.Matched (Some m)) basic = plain (record (found 9 m.1 basic) { request = message_told m.0 })
told_by (replies.Refused why call) basic = plain (refusal (number_of_refusal why))

-- what is told of the answer of a call that was blocked
abbrev pub told_by_completion : Completion → Told
told_by_completion (completions.Requests answer) = told_by_answer answer
told_by_completion (completions.Collective ending) = told_by_ending ending

-- this is told, or memory was wanting
abbrev pub IsTold : (wanted : Told) → Result Told ℕ → Type 0
IsTold wanted (Ok got) = got ≡ wanted
IsTold wanted (Err n) = n ≡ 14

-- a fact brings the members of a communicator
abbrev pub BringsRanks : Fact → Type 0
BringsRanks (facts.Number number) = ⊥
BringsRanks (facts.Ranks ranks) = Unit {0}
BringsRanks (facts.Compares comparison) = ⊥

-- a reply does
abbrev pub TellsRanks : Reply → Type 0
TellsRanks (replies.Fact fact) = BringsRanks fact
TellsRanks (replies.Started request) = ⊥
TellsRanks (replies.Done answer) = ⊥
TellsRanks replies.Pending = ⊥
TellsRanks replies.Accepted = ⊥
TellsRanks replies.Blocked = ⊥
TellsRanks (replies.Left ending) = ⊥
TellsRanks (replies.Probed found) = ⊥
TellsRanks (replies.Matched found) = ⊥
TellsRanks (replies.Refused why call) = ⊥
