-- Matching: a message that comes takes the oldest receive that accepts it, and a receive that is posted the oldest
-- message that it accepts. A probe finds that message, and may take it out; then it is received alone.
use Rattle.std.specs.Prelude.{ℕ, List, [], ◌∷◌, ◌++◌, length, Option, Some, None, if◌then◌else◌, slice_set, option_map}
use Rattle.perfect_queues.specs.Buffers.{Handed}
use Rattle.perfect_queues.specs.Completions.{Looks, One, Saw, Searches, Took, Waits}
use Rattle.perfect_queues.specs.Outcomes.{Received, Replaced, Sent, null_status, status_by}
use Rattle.perfect_queues.specs.Receives.{Probe, Receive, has_room, such_receive}
use Rattle.perfect_queues.specs.Requests.{changed}
use Rattle.vocabulary.specs.declared.endpoint.Endpoint.{Endpoint}
use Rattle.vocabulary.specs.declared.envelope.Source.{Source}
use Rattle.vocabulary.specs.declared.envelope.Source.TheVariants.{Any, Null, Rank}
use Rattle.vocabulary.specs.declared.envelope.Status.{Status}
use Rattle.proof_pure_network.specs.Core.{Core, Effect, effect, with_jobs}
use Rattle.proof_pure_network.specs.Frames.{Cts, Frame}
use Rattle.proof_pure_network.specs.WaitingMessages.{Body, Held, Own, Part, Whole, count_of, fits}
use Rattle.proof_pure_network.specs.Jobs.{Closed, Collecting, Job, Offering, Over, Probed, Unmatched, Waiting}
use Rattle.proof_pure_network.specs.Jobs.{matched_job, oldest_posted}

-- what a match answers the sender of an announced message: its data are wanted where the receive has room for them
abbrev pub answer : Receive → Held → Body → List (Endpoint × Frame)
answer p h (Whole values) = []
answer p h (Part k count) = (h.sender, Cts k (has_room p h.basic count)) ∷ []
answer p h (Own k values) = []

-- a synchronous send to the endpoint itself is over once it is matched
abbrev pub matched_own : Job → Job
matched_own (Unmatched d) = Over Sent
matched_own (Waiting p) = Waiting p
matched_own (Collecting p h got) = Collecting p h got
matched_own (Offering d basic values) = Offering d basic values
matched_own (Over o) = Over o
matched_own Closed = Closed
matched_own (Probed g h) = Probed g h

-- once a receive has a message of the endpoint's own, the send that waited for that is over
abbrev pub own_over : Body → List Job → List Job
own_over (Whole values) js = js
own_over (Part k count) js = js
own_over (Own k values) js = changed matched_own js k

-- a message comes: it waits behind all others, or it is matched with the receive that was found
abbrev pub arrived_at : Core → Held → Option (ℕ × Receive) → Effect
arrived_at core h None = effect (record core { held = core.held ++ h ∷ [] }) []
arrived_at core h (Some (k, p)) =
    effect (with_jobs core (own_over h.body (slice_set core.jobs k (matched_job p h h.body)))) (answer p h h.body)

-- a message comes, and takes the oldest receive that accepts it (MPI 3.1, 3.5)
abbrev pub arrived : Core → Held → Effect
arrived core h = arrived_at core h (oldest_posted h core.jobs)

-- the oldest message that p accepts, with those before and after it
abbrev pub found : Receive → List Held → Option (List Held × Held × List Held)
found p [] = None
found p (h ∷ hs) = if fits p h then Some ([], h, hs) else option_map (λ t. (h ∷ t.0, t.1, t.2)) (found p hs)

-- a receive is posted: it waits, or it is matched with the message that was found
abbrev pub posted_at : Core → Receive → Option (List Held × Held × List Held) → Effect
posted_at core p None = effect (with_jobs core (core.jobs ++ Waiting p ∷ [])) []
posted_at core p (Some (earlier, h, later)) =
    effect (record core { jobs = own_over h.body (core.jobs ++ matched_job p h h.body ∷ []); held = earlier ++ later })
    (answer p h h.body)

-- a receive is posted, and takes the oldest message that it accepts (MPI 3.1, 3.5)
abbrev pub posted : Core → Receive → Effect
posted core p = posted_at core p (found p core.held)

-- a receive from the null process is over at once (MPI 3.1, 3.11); any other one is posted
abbrev pub receives : Core → Receive → Source → Effect
receives core p Null = effect (with_jobs core (core.jobs ++ Over (Received null_status p.into.buffer) ∷ [])) []
receives core p Any = posted core p
receives core p (Rank r) = posted core p

-- PROBES

-- the status of a message that a probe found (MPI 3.1, 3.8.1)
abbrev pub found_status : Probe → Held → Status
found_status q h = status_by (such_receive q) h.sender.rank h.tag (count_of h.body)

-- a probe has seen what was found, or nothing (MPI 3.1, 3.8.1)
abbrev pub looked_at : Core → Probe → Option (List Held × Held × List Held) → Core
looked_at core q None = record core { blocked = Some (Looks q) }
looked_at core q (Some (earlier, h, later)) = record core { blocked = Some (Saw (found_status q h)) }

-- a probe sees the oldest message that such a receive accepts; from the null process there always is one (3.11)
abbrev pub looks : Core → Probe → Source → Core
looks core q Null = record core { blocked = Some (Saw null_status) }
looks core q Any = looked_at core q (found (such_receive q) core.held)
looks core q (Rank r) = looked_at core q (found (such_receive q) core.held)

-- a matching probe has taken out what was found, or nothing (MPI 3.1, 3.8.2)
abbrev pub searched_at : Core → Probe → Option (List Held × Held × List Held) → Core
searched_at core q None = record core { blocked = Some (Searches q) }
searched_at core q (Some (earlier, h, later)) =
    record core {
      jobs = core.jobs ++ Probed q.group (Some h) ∷ [];
      blocked = Some (Took (Some (length core.jobs)) (found_status q h));
      held = earlier ++ later;
    }

-- a matching probe takes out the oldest message that such a receive accepts; from the null process there always is one
abbrev pub searches : Core → Probe → Source → Core
searches core q Null = record core { blocked = Some (Took None null_status) }
searches core q Any = searched_at core q (found (such_receive q) core.held)
searches core q (Rank r) = searched_at core q (found (such_receive q) core.held)

-- the receive of a message that was taken out (MPI 3.1, 3.8.3)
abbrev pub receive_for : (group : Option (List ℕ)) → Held → Handed → Receive
receive_for g h into = record {
  source = Rank h.sender.rank;
  tag = Some h.tag;
  context = h.context;
  group = g;
  into =
      into;
}

-- the call waits for this request
abbrev pub awaits : Core → ℕ → Core
awaits core k = record core { blocked = Some (Waits (One (Some k))) }

-- a message that was taken out is received: it is matched with its receive; one of a former endpoint has ended so
abbrev pub taken_at : Core → ℕ → Handed → Option Job → Effect
taken_at core k into (Some (Probed g (Some h))) =
    effect (awaits
    (with_jobs core (own_over h.body (slice_set core.jobs k (matched_job (receive_for g h into) h h.body)))) k)
    (answer (receive_for g h into) h h.body)
taken_at core k into (Some (Probed g None)) =
    effect (awaits (with_jobs core (slice_set core.jobs k (Over (Replaced (Some into.buffer))))) k) []
taken_at core k into (Some (Waiting p)) = effect (awaits core k) []
taken_at core k into (Some (Collecting p h got)) = effect (awaits core k) []
taken_at core k into (Some (Offering d basic values)) = effect (awaits core k) []
taken_at core k into (Some (Over o)) = effect (awaits core k) []
taken_at core k into (Some Closed) = effect (awaits core k) []
taken_at core k into (Some (Unmatched d)) = effect (awaits core k) []
taken_at core k into None = effect (awaits core k) []
