-- Five histories that no run has: a message received twice, one that overtakes another, data that nobody sent, a buffer
-- that comes back as one of another basic type, and an operation that ends with 11 though no rank was started anew.
use Rattle.std.specs.Prelude.{ℕ, List, [], ◌∷◌, ◌++◌, Some}
use Rattle.layouts.specs.Buffers.{Contents}
use Rattle.perfect_queues.specs.Calls.{Reply, Isend, Irecv, Wait, Started, Done, Blocked}
use Rattle.perfect_queues.specs.Completions.{One, ForOne}
use Rattle.perfect_queues.specs.Events.{Entry, Called, Restarted}
use Rattle.perfect_queues.specs.Example.{rank_0, rank_1, holds, numbers, three_from_0}
use Rattle.vocabulary.specs.declared.mode.Mode.TheVariants.{Standard}
use Rattle.perfect_queues.specs.Outcomes.{Outcome, Received, Replaced}
use Rattle.perfect_queues.specs.Refusals.{world}
use Rattle.perfect_queues.specs.Runs.{IsHistory}
use Rattle.vocabulary.specs.declared.basic_type.BasicType.TheVariants.{Uint32}
use Rattle.vocabulary.specs.declared.envelope.Source.TheVariants.{Rank}
use Rattle.vocabulary.specs.MessageLimits.{least}
use Rattle.vocabulary.specs.declared.message_limit.MessageLimit.{MessageLimit}

-- rank 0 sends these elements to rank 1 with tag 7, and its request has this serial
abbrev pub sends : (serial : ℕ) → List ℕ → Entry
sends k values = Called rank_0 (Isend Standard world (Rank 1) (Some 7) (numbers values)) (Started k)

-- rank 1 starts a receive of three elements from rank 0 with tag 7, whose request has this serial
abbrev pub receives : (serial : ℕ) → Entry
receives k = Called rank_1 (Irecv three_from_0) (Started k)

-- rank 1 waits for a request, and is answered its outcome
abbrev pub waits : (serial : ℕ) → Outcome → Entry
waits k o = Called rank_1 (Wait (One (Some k))) (Done (ForOne o))

-- three elements came from rank 0 with tag 7, and this is the receive's buffer
abbrev pub arrives_in : Contents → Outcome
arrives_in buffer = Received (record { source = Rank 0; tag = Some 7; count = 3 }) buffer

-- these three elements came from rank 0 with tag 7
abbrev pub arrives : List ℕ → Outcome
arrives values = arrives_in (holds values)

-- one message, one receive that gets it, and a second one, whose wait has this reply
abbrev pub second_receive : Reply → List Entry
second_receive reply =
    sends 0 (1 ∷ 2 ∷ 3 ∷ []) ∷
    receives 0 ∷ waits 0 (arrives (1 ∷ 2 ∷ 3 ∷ [])) ∷ receives 1 ∷ Called rank_1 (Wait (One (Some 1))) reply ∷ []

-- the second one gets the message too
abbrev pub received_twice : List Entry
received_twice = second_receive (Done (ForOne (arrives (1 ∷ 2 ∷ 3 ∷ []))))

-- two messages, and one receive, which accepts both and gets these values
abbrev pub first_of_two : (values : List ℕ) → List Entry
first_of_two values =
    sends 0 (1 ∷ 2 ∷ 3 ∷ []) ∷ sends 1 (4 ∷ 5 ∷ 6 ∷ []) ∷ receives 0 ∷ waits 0 (arrives values) ∷ []

-- it gets the message that was sent second
abbrev pub overtaken : List Entry
overtaken = first_of_two (4 ∷ 5 ∷ 6 ∷ [])

-- one message, and one receive, which ends so
abbrev pub one_message : Outcome → List Entry
one_message o = sends 0 (1 ∷ 2 ∷ 3 ∷ []) ∷ receives 0 ∷ waits 0 o ∷ []

-- it gets what nobody sent
abbrev pub other_data : List Entry
other_data = one_message (arrives (1 ∷ 2 ∷ 4 ∷ []))

-- it gets what was sent, in a buffer of another basic type than it was handed
abbrev pub other_type : List Entry
other_type = one_message (arrives_in (record { basic = Uint32; values = 1 ∷ 2 ∷ 3 ∷ [] }))

-- a receive ends with 11, and this comes before
abbrev pub replaced_after : List Entry → List Entry
replaced_after before = receives 0 ∷ (before ++ waits 0 (Replaced (Some (holds (0 ∷ 0 ∷ 0 ∷ [])))) ∷ [])

-- no rank was started anew before
abbrev pub replaced_by_nobody : List Entry
replaced_by_nobody = replaced_after []

-- that no run, among however many ranks, is seen so
abbrev pub IsNoHistory : List Entry → Type 0
IsNoHistory history = (n : ℕ) (limit : MessageLimit) → IsHistory n limit history → ⊥

-- Each has a twin that is a history and differs from it in the forbidden part alone: the second wait is
-- blocked, the first message comes first, the data are those that were sent and the type is that of the buffer, the
-- sender was started anew
pub record AreHistories : Type 0 where
  pub second_is_blocked : IsHistory 2 least (second_receive Blocked)
  pub first_comes_first : IsHistory 2 least (first_of_two (1 ∷ 2 ∷ 3 ∷ []))
  pub data_are_sent : IsHistory 2 least (one_message (arrives (1 ∷ 2 ∷ 3 ∷ [])))
  pub sender_was_replaced : IsHistory 2 least (replaced_after (Restarted 0 ∷ []))
