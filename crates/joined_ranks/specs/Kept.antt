-- What is kept of each rank of a job beside its engine: the answer of its call that was blocked, once it is there, and the
-- data of its last answer that brought any.
use Rattle.std.specs.Prelude.{◌≡◌, ◌⊎◌, ℕ, List, [], ◌∷◌, length, All, slice_get, slice_set, option_and_then}
use Rattle.std.specs.Prelude.{Bool, true, false, Option, Some, None, Result, Ok, Err}
use Rattle.engine_calls.specs.declared.reply.Completion.{Completion}
use Rattle.engine_calls.specs.declared.reply.Reply.{Reply}
use Rattle.replies.specs.Copies.{reply_of}
use Rattle.vocabulary.specs.declared.basic_type.BasicType.{BasicType}
use Rattle.c_rank.specs.Answers.{TellsRanks, answer_of_kind, refusal, told_by}
use Rattle.c_rank.specs.declared.rank.ReceivedData.{ReceivedData}
use Rattle.c_rank.specs.declared.records.AnswerRecord.{AnswerRecord}
use Rattle.world.specs.RunningSteps.{Comes, RunningState}
use Rattle.world.specs.declared.answered.Came.{Came}
use Rattle.joined_ranks.specs.declared.part.RankPart.{RankPart}

-- The ranks of a job: their world, and what is kept of each of them
pub record JoinedState : Type 0 where
  pub world : RunningState
  pub parts : List RankPart

-- nothing is kept of so many ranks
abbrev pub AreNew : (ranks : ℕ) → List RankPart → Type 0
AreNew ranks parts =
    (length parts ≡ ranks) × All (λ (p : RankPart). p ≡ record { ended = None; received = None }) parts

-- ---- data

-- the data that are kept of a rank; none where there is no such rank
abbrev pub received_of : Option RankPart → Option ReceivedData
received_of p = option_and_then (λ p. p.received) p

abbrev pub received_in : List RankPart → (rank : ℕ) → Option ReceivedData
received_in parts rank = received_of (slice_get parts rank)

-- these data are kept of this rank from now on, and of no other one
abbrev pub data_at : Option RankPart → List RankPart → (rank : ℕ) → ReceivedData → List RankPart
data_at None parts rank brought = parts
data_at (Some p) parts rank brought = slice_set parts rank (record p { received = Some brought })

abbrev pub with_data : List RankPart → (rank : ℕ) → ReceivedData → List RankPart
with_data parts rank brought = data_at (slice_get parts rank) parts rank brought

-- where an answer brings none, those stay that were there
abbrev pub with_brought : List RankPart → (rank : ℕ) → Option ReceivedData → List RankPart
with_brought parts rank None = parts
with_brought parts rank (Some brought) = with_data parts rank brought

-- A REPLY IS TOLD of a rank, and the type of what a probe found: its data are kept of this rank; where it brings members,
-- memory for them may be wanting, and nothing is kept
abbrev pub TellsReply : (rank : ℕ) → Reply → Option BasicType → List RankPart → AnswerRecord → List RankPart → Type 0
TellsReply rank reply basic old a new =
    ((a ≡ (told_by reply basic).answer) × (new ≡ with_brought old rank (told_by reply basic).received))
    ⊎ (TellsRanks reply × (a ≡ refusal 14) × (new ≡ old))

-- ---- calls that were blocked

-- the answer of a rank's blocked call that is kept
abbrev pub ended_of : Option RankPart → Option Reply
ended_of p = option_and_then (λ p. p.ended) p

abbrev pub ended_in : List RankPart → (rank : ℕ) → Option Reply
ended_in parts rank = ended_of (slice_get parts rank)

-- this one is kept of a rank, or none any more
abbrev pub ended_at : Option RankPart → List RankPart → (rank : ℕ) → Option Reply → List RankPart
ended_at None parts rank ended = parts
ended_at (Some p) parts rank ended = slice_set parts rank (record p { ended = ended })

abbrev pub with_ended : List RankPart → (rank : ℕ) → Option Reply → List RankPart
with_ended parts rank ended = ended_at (slice_get parts rank) parts rank ended

-- the answer of the blocked call, which is kept no more; 3 where it isn't there
abbrev pub FinishesAs : (rank : ℕ) → Option Reply → List RankPart → AnswerRecord → List RankPart → Type 0
FinishesAs rank None old a new = (a ≡ answer_of_kind 3) × (new ≡ old)
FinishesAs rank (Some reply) old a new = TellsReply rank reply None old a new

-- THE END OF A BLOCKED CALL IS TOLD, once
abbrev pub Finishes : (rank : ℕ) → List RankPart → AnswerRecord → List RankPart → Type 0
Finishes rank old a new = FinishesAs rank (ended_in old rank) (with_ended old rank None) a new

-- ---- what comes

-- a datagram that came: where it ended a blocked call of its rank, that one's answer is kept
abbrev pub kept_of : List RankPart → (rank : ℕ) → Option Completion → List RankPart
kept_of parts rank None = parts
kept_of parts rank (Some completion) = with_ended parts rank (Some (reply_of completion))

abbrev pub with_came : List RankPart → Came → List RankPart
with_came parts c = kept_of parts c.rank c.completion

-- one datagram comes
abbrev pub ComesTo : JoinedState → Came → JoinedState → Type 0
ComesTo old c new = Comes old.world c new.world × (new.parts ≡ with_came old.parts c)

-- THE NETWORK AT WORK, datagram by datagram: of each that ended a blocked call the answer is kept, and nothing else is
abbrev pub ComeInTurn : List Came → JoinedState → JoinedState → Type 0
ComeInTurn [] old new = new ≡ old
ComeInTurn (c ∷ more) old new = (next : JoinedState) × ComesTo old c next × ComeInTurn more next new

-- the oldest datagram comes; or there is none, and nothing is on its way; or it can't come
abbrev pub DeliversNext : JoinedState → Result Bool ℕ → JoinedState → Type 0
DeliversNext old (Ok true) new = (c : Came) × ComesTo old c new
DeliversNext old (Ok false) new = (new.world.waiting ≡ []) × (new ≡ old)
DeliversNext old (Err number) new = new ≡ old
