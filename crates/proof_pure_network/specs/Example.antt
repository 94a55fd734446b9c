-- Examples of happenings: a message is sent, a word of its sender brings nothing of it, the next one brings it, and a
-- further one brings nothing more; and a synchronous send, whose message is taken out before it is received.
use Rattle.std.specs.Prelude.{List, [], ◌∷◌, Some, None}
use Rattle.perfect_queues.specs.Calls.{Blocked, Improbe, Isend, Irecv, Mrecv, Wait}
use Rattle.perfect_queues.specs.Completions.{ForOne, One}
use Rattle.perfect_queues.specs.CounterExamples.{arrives}
use Rattle.perfect_queues.specs.Events.{Called, Completed, Entry}
use Rattle.perfect_queues.specs.Example.{rank_0, rank_1, numbers, three_from_0}
use Rattle.vocabulary.specs.declared.mode.Mode.TheVariants.{Standard, Synchronous}
use Rattle.perfect_queues.specs.ProbeExamples.{for_tag, sends_synchronously, send_answers, takes_out}
use Rattle.perfect_queues.specs.Outcomes.{Sent}
use Rattle.perfect_queues.specs.Refusals.{world}
use Rattle.vocabulary.specs.declared.envelope.Source.TheVariants.{Rank}
use Rattle.proof_pure_network.specs.Network.{Happening, Ask, Word}

-- rank 0 sends 1, 2 and 3 to rank 1; of its three words only the second brings the message, which rank 1 receives and
-- waits for
abbrev pub late_and_repeated : List Happening
late_and_repeated =
    Ask 0 (Isend Standard world (Rank 1) (Some 7) (numbers (1 ∷ 2 ∷ 3 ∷ []))) ∷
    Word rank_0 1 0 ∷
    Ask 1 (Irecv three_from_0) ∷
    Word rank_0 1 1 ∷
    Word rank_0 1 1 ∷
    Ask 1 (Wait (One (Some 0))) ∷ []

-- rank 0 sends synchronously and waits; rank 1 takes the message out, receives it, and waits; the answer and the data
-- come
abbrev pub taken_and_awaited : List Happening
taken_and_awaited =
    Ask 0 (Isend Synchronous world (Rank 1) (Some 7) (numbers (1 ∷ 2 ∷ 3 ∷ []))) ∷
    Ask 0 (Wait (One (Some 0))) ∷
    Word rank_0 1 1 ∷
    Ask 1 (Improbe (for_tag None)) ∷
    Ask 1 (Mrecv (Some 0) (numbers (0 ∷ 0 ∷ 0 ∷ []))) ∷
    Word rank_1 0 1 ∷
    Word rank_0 1 1 ∷ []

-- what is seen: the message has serial 0 at rank 1; both ranks wait, and first the sender's wait ends
abbrev pub taken_seen : List Entry
taken_seen =
    sends_synchronously ∷
    send_answers Blocked ∷
    takes_out 0 ∷
    Called rank_1 (Mrecv (Some 0) (numbers (0 ∷ 0 ∷ 0 ∷ []))) Blocked ∷
    Completed rank_0 (ForOne Sent) ∷
    Completed rank_1 (ForOne (arrives (1 ∷ 2 ∷ 3 ∷ []))) ∷ []
