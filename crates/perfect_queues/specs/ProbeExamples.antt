-- Four histories that no run has: a message that is taken out and received too; a synchronous send that is finished
-- though nobody has its message, or somebody has only taken it out; a probe that sees a message of another tag, or one
-- that a posted receive is to have.
use Rattle.std.specs.Prelude.{ℕ, List, [], ◌∷◌, Option, Some, None}
use Rattle.perfect_queues.specs.Calls.{Reply, Blocked, Done, Improbe, Iprobe, Isend, Mrecv, Started, Wait}
use Rattle.perfect_queues.specs.Completions.{ForMatch, ForOne, ForProbe, One}
use Rattle.perfect_queues.specs.CounterExamples.{arrives, receives, sends}
use Rattle.perfect_queues.specs.Events.{Entry, Called}
use Rattle.perfect_queues.specs.Example.{numbers, rank_0, rank_1}
use Rattle.vocabulary.specs.declared.mode.Mode.TheVariants.{Synchronous}
use Rattle.perfect_queues.specs.Outcomes.{Sent}
use Rattle.perfect_queues.specs.Receives.{Probe}
use Rattle.perfect_queues.specs.Refusals.{world}
use Rattle.perfect_queues.specs.Runs.{IsHistory}
use Rattle.vocabulary.specs.declared.envelope.Source.TheVariants.{Any, Rank}
use Rattle.vocabulary.specs.declared.envelope.Status.{Status}
use Rattle.vocabulary.specs.MessageLimits.{least}

-- a probe on world from any rank, with a tag or any
abbrev pub for_tag : Option ℕ → Probe
for_tag tag = record { source = Any; tag = tag; context = world; group = None }

-- three elements from rank 0 with tag 7
abbrev pub three_came : Status
three_came = record { source = Rank 0; tag = Some 7; count = 3 }

-- rank 1 takes a message out, which gets this serial
abbrev pub takes_out : (serial : ℕ) → Entry
takes_out k = Called rank_1 (Improbe (for_tag None)) (Done (ForMatch (Some (Some k, three_came))))

-- rank 1 takes a message out, and the wait for a receive that it posts then has this reply
abbrev pub receive_after_taking : Reply → List Entry
receive_after_taking reply =
    sends 0 (1 ∷ 2 ∷ 3 ∷ []) ∷ takes_out 0 ∷ receives 1 ∷ Called rank_1 (Wait (One (Some 1))) reply ∷ []

-- the receive gets the message too
abbrev pub taken_and_received : List Entry
taken_and_received = receive_after_taking (Done (ForOne (arrives (1 ∷ 2 ∷ 3 ∷ []))))

-- rank 0 sends three elements to rank 1 by a synchronous send
abbrev pub sends_synchronously : Entry
sends_synchronously = Called rank_0 (Isend Synchronous world (Rank 1) (Some 7) (numbers (1 ∷ 2 ∷ 3 ∷ []))) (Started 0)

-- rank 0's wait for it has this reply
abbrev pub send_answers : Reply → Entry
send_answers reply = Called rank_0 (Wait (One (Some 0))) reply

-- nobody receives
abbrev pub finished_alone : List Entry
finished_alone = sends_synchronously ∷ send_answers (Done (ForOne Sent)) ∷ []

-- rank 1 takes the message out, and doesn't receive it
abbrev pub finished_when_taken : List Entry
finished_when_taken = sends_synchronously ∷ takes_out 0 ∷ send_answers (Done (ForOne Sent)) ∷ []

-- rank 1 takes the message out and receives it
abbrev pub finished_when_received : List Entry
finished_when_received =
    sends_synchronously ∷
    takes_out 0 ∷
    Called rank_1 (Mrecv (Some 0) (numbers (0 ∷ 0 ∷ 0 ∷ []))) (Done (ForOne (arrives (1 ∷ 2 ∷ 3 ∷ [])))) ∷
    send_answers (Done (ForOne Sent)) ∷ []

-- rank 1 looks for a tag, and sees the message with tag 7
abbrev pub sees_by_tag : (tag : ℕ) → List Entry
sees_by_tag tag =
    sends 0 (1 ∷ 2 ∷ 3 ∷ []) ∷ Called rank_1 (Iprobe (for_tag (Some tag))) (Done (ForProbe (Some three_came))) ∷ []

-- rank 1 has posted a receive for the message, and what it looks for has this answer
abbrev pub looks_after_posting : Option Status → List Entry
looks_after_posting seen =
    sends 0 (1 ∷ 2 ∷ 3 ∷ []) ∷ receives 0 ∷ Called rank_1 (Iprobe (for_tag None)) (Done (ForProbe seen)) ∷ []

-- Each has a twin that is a history and differs from it in the forbidden part alone: the wait is blocked; the send is
-- finished once its message is received; the tag is the message's; nothing is seen
pub record ProbesHaveHistories : Type 0 where
  pub receive_is_blocked : IsHistory 2 least (receive_after_taking Blocked)
  pub send_is_blocked : IsHistory 2 least (sends_synchronously ∷ send_answers Blocked ∷ [])
  pub send_is_finished : IsHistory 2 least finished_when_received
  pub tag_is_its_own : IsHistory 2 least (sees_by_tag 7)
  pub nothing_is_seen : IsHistory 2 least (looks_after_posting None)
