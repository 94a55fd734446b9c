-- Which message each receive gets, where every pair is made at once (MPI 3.1, 3.5). Receives name a rank; none is from
-- any.
use Rattle.std.specs.Prelude.{ℕ, ◌&&◌, List, [], ◌∷◌, Option, Some, None, option_map, if◌then◌else◌, ◌==◌}
use Rattle.perfect_queues.specs.Messages.{Message}
use Rattle.perfect_queues.specs.Outcomes.{Sent, outcome}
use Rattle.perfect_queues.specs.Receives.{Receive, accepts}
use Rattle.perfect_queues.specs.Requests.{Request, Posted, Matched, Sending, Finished, Gone, TakenOut}
use Rattle.vocabulary.specs.declared.envelope.Source.{Source}
use Rattle.vocabulary.specs.declared.envelope.Source.TheVariants.{Any, Rank, Null}

-- the messages to an endpoint, from each rank in each context, in the order in which they were sent
abbrev pub Queues : Type 0
Queues = (sender context : ℕ) → List Message

-- one of the queues is what a receive has left of it
abbrev pub with_left : Queues → (r c : ℕ) → List Message → Queues
with_left q r c ms r' c' = if (r' == r) && (c' == c) then ms else q r' c'

-- a message in front of those that were passed over
abbrev pub behind : Message → Option (Message × List Message) → Option (Message × List Message)
behind m o = option_map (λ t. (t.0, m ∷ t.1)) o

-- the first message of a queue that a receive accepts, and the queue without it
abbrev pub pick : Receive → List Message → Option (Message × List Message)
pick p [] = None
pick p (m ∷ ms) = if accepts p m then Some (m, ms) else behind m (pick p ms)

-- the queue of the rank that a receive names
abbrev pub queue_from : Source → Queues → (context : ℕ) → List Message
queue_from (Rank r) q c = q r c
queue_from Any q c = []
queue_from Null q c = []

-- the queues where that one is changed
abbrev pub with_queue_from : Source → Queues → (context : ℕ) → List Message → Queues
with_queue_from (Rank r) q c ms = with_left q r c ms
with_queue_from Any q c ms = q
with_queue_from Null q c ms = q

-- what is left of the queues behind a receive
abbrev pub left_by : Source → (context : ℕ) → Queues → Option (Message × List Message) → Queues
left_by s c q None = q
left_by s c q (Some t) = with_queue_from s q c t.1

-- what becomes of a receive: it is finished with its message, or waits
abbrev pub became : Receive → Option (Message × List Message) → Request
became p None = Posted p
became p (Some t) = Finished (outcome p t.0)

-- What becomes of requests: each receive in turn takes the first message of its queue that it accepts, of those that
-- the earlier receives have left (3.5); what was matched is finished, and so is each send (3.4)
abbrev pub resolved : Queues → List Request → List Request
resolved q [] = []
resolved q (Posted p ∷ rs) =
    became p (pick p (queue_from p.source q p.context)) ∷
    resolved (left_by p.source p.context q (pick p (queue_from p.source q p.context))) rs
resolved q (Matched p m ∷ rs) = Finished (outcome p m) ∷ resolved q rs
resolved q (Sending d ∷ rs) = Finished Sent ∷ resolved q rs
resolved q (Finished o ∷ rs) = Finished o ∷ resolved q rs
resolved q (Gone ∷ rs) = Gone ∷ resolved q rs
resolved q (TakenOut g m ∷ rs) = TakenOut g m ∷ resolved q rs
