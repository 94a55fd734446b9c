-- Requests of a program by the program's own numbers, and by those of the engine that is asked for it.
use Rattle.std.specs.Prelude.{◌≡◌, ℕ, map, option_map}
use Rattle.perfect_queues.specs.Calls.{Accepted, Blocked, Call, Cancel, Done, Improbe, Iprobe, Irecv, Isend, Mrecv}
use Rattle.perfect_queues.specs.Calls.{Pending, Reply, Started, Test, Wait}
use Rattle.perfect_queues.specs.Completions.{AllOf, Answer, AnyOf, Awaited, ForAll, ForAny, ForMatch, ForOne, ForProbe}
use Rattle.perfect_queues.specs.Completions.{Looks, One, Saw, Searches, Took, Unanswered, Waits}
use Rattle.perfect_queues.specs.Events.{Called, Completed, Entry, Restarted}
use Rattle.perfect_queues.specs.Messages.{Message}
use Rattle.vocabulary.specs.declared.endpoint.Endpoint.{Endpoint}

-- which request of its program each request of an endpoint's engine stands for
abbrev pub Places : Type 0
Places = Endpoint → ℕ → ℕ

-- no two stand for one
abbrev pub StandApart : Places → Type 0
StandApart places = (e : Endpoint) (j k : ℕ) → places e j ≡ places e k → j ≡ k

-- A message, whose sender waits for its match, names the sender's request
abbrev pub message_by : (ℕ → ℕ) → Message → Message
message_by f m = record m { request = option_map f m.request }

abbrev pub awaited_by : (ℕ → ℕ) → Awaited → Awaited
awaited_by f (One r) = One (option_map f r)
awaited_by f (AnyOf rs) = AnyOf (map (λ r. option_map f r) rs)
awaited_by f (AllOf rs) = AllOf (map (λ r. option_map f r) rs)

abbrev pub call_by : (ℕ → ℕ) → Call → Call
call_by f (Isend mode c to tag b) = Isend mode c to tag b
call_by f (Irecv p) = Irecv p
call_by f (Wait a) = Wait (awaited_by f a)
call_by f (Test r) = Test (option_map f r)
call_by f (Cancel r) = Cancel (option_map f r)
call_by f (Iprobe q) = Iprobe q
call_by f (Improbe q) = Improbe q
call_by f (Mrecv k into) = Mrecv (option_map f k) into

abbrev pub answer_by : (ℕ → ℕ) → Answer → Answer
answer_by f (ForOne o) = ForOne o
answer_by f (ForAny o) = ForAny o
answer_by f (ForAll os) = ForAll os
answer_by f (ForProbe s) = ForProbe s
answer_by f (ForMatch t) = ForMatch (option_map (λ u. (option_map f u.0, u.1)) t)

abbrev pub reply_by : (ℕ → ℕ) → Reply → Reply
reply_by f (Started k) = Started (f k)
reply_by f (Done a) = Done (answer_by f a)
reply_by f Pending = Pending
reply_by f Accepted = Accepted
reply_by f Blocked = Blocked

abbrev pub unanswered_by : (ℕ → ℕ) → Unanswered → Unanswered
unanswered_by f (Waits a) = Waits (awaited_by f a)
unanswered_by f (Looks q) = Looks q
unanswered_by f (Saw status) = Saw status
unanswered_by f (Searches q) = Searches q
unanswered_by f (Took k status) = Took (option_map f k) status

-- the same entry of a history, in the program's numbers
abbrev pub entry_by : Places → Entry → Entry
entry_by places (Called e c r) = Called e (call_by (places e) c) (reply_by (places e) r)
entry_by places (Completed e a) = Completed e (answer_by (places e) a)
entry_by places (Restarted r) = Restarted r
