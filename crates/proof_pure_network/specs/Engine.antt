-- What one rank does with a call, a word of another endpoint, and a frame that its link hands up.
use Rattle.std.specs.Prelude.{ℕ, Bool, true, false, not, List, [], ◌∷◌, ◌++◌, length, map, Option, Some, None}
use Rattle.std.specs.Prelude.{if◌then◌else◌, nat_lt, slice_get, filter, option_and_then}
use Rattle.perfect_queues.specs.Buffers.{Handed, data_of}
use Rattle.perfect_queues.specs.Calls.{Call, Cancel, Improbe, Iprobe, Irecv, Isend, Mrecv, Test, Wait, is_eager}
use Rattle.perfect_queues.specs.Calls.{receiver}
use Rattle.perfect_queues.specs.Completions.{Answer, One, Waits, answer_to, completion}
use Rattle.vocabulary.specs.Endpoints.{is_former, is_same}
use Rattle.vocabulary.specs.declared.mode.Mode.{Mode}
use Rattle.perfect_queues.specs.Outcomes.{Sent}
use Rattle.perfect_queues.specs.Requests.{all_changed, changed}
use Rattle.perfect_queues.specs.State.{with_number}
use Rattle.vocabulary.specs.declared.basic_type.BasicType.{BasicType}
use Rattle.vocabulary.specs.declared.envelope.Source.{Source}
use Rattle.vocabulary.specs.declared.envelope.Source.TheVariants.{Rank}
use Rattle.vocabulary.specs.declared.endpoint.Endpoint.{Endpoint}
use Rattle.proof_pure_network.specs.Core.{Core, Effect, effect, with_jobs}
use Rattle.proof_pure_network.specs.Frames.{Cts, Data, Eager, Frame, Rts}
use Rattle.proof_pure_network.specs.WaitingMessages.{Held, Own, Part, Whole}
use Rattle.proof_pure_network.specs.Jobs.{Offering, Over, Unmatched, closed, collecting, dropped, ended, over_at}
use Rattle.proof_pure_network.specs.Matches.{arrived, looks, receives, searches, taken_at}
use Rattle.proof_pure_network.specs.Transfers.{answered, collected}

-- one more request: a send that is finished
abbrev pub pushed_over : Core → Core
pushed_over core = with_jobs core (core.jobs ++ Over Sent ∷ [])

-- a message of the endpoint to itself, which is there whole
abbrev pub own_message : Endpoint → (context tag : ℕ) → BasicType → List ℕ → Held
own_message e c tag basic values = record { sender = e; context = c; tag = tag; basic = basic; body = Whole values }

-- one more request: a synchronous send to the endpoint itself, which waits for its match
abbrev pub pushed_own : Core → Endpoint → Core
pushed_own core d = with_jobs core (core.jobs ++ Unmatched d ∷ [])

-- its message, which is there whole and names its request
abbrev pub own_waiting : Endpoint → (context tag : ℕ) → BasicType → List ℕ → (request : ℕ) → Held
own_waiting e c tag basic values k = record { sender = e; context = c; tag = tag; basic = basic; body = Own k values }

-- a send: to the endpoint itself it comes at once; to another one, one that needn't wait for its match goes out whole;
-- of one that does the envelope goes out, and the values wait for the answer
abbrev pub sends : Endpoint → Core → Endpoint → Bool → (context tag : ℕ) → BasicType → List ℕ → Bool → Effect
sends e core d true c tag basic values true = arrived (pushed_over core) (own_message e c tag basic values)
sends e core d true c tag basic values false =
    arrived (pushed_own core d) (own_waiting e c tag basic values (length core.jobs))
sends e core d false c tag basic values true = effect (pushed_over core) ((d, Eager c tag basic values) ∷ [])
sends e core d false c tag basic values false =
    effect (with_jobs core (core.jobs ++ Offering d basic values ∷ []))
    ((d, Rts c tag basic (length core.jobs) (length values)) ∷ [])

-- a send to a rank, at the incarnation that is known; one to the null process is over at once (MPI 3.1, 3.11), and a
-- wildcard, which is refused, is said to do no more
abbrev pub sends_to : Mode → Endpoint → Core → (context : ℕ) → Source → (tag : Option ℕ) → BasicType → List ℕ → Effect
sends_to mode e core c (Rank to) (Some tag) basic values =
    sends e core (receiver core.known to) (is_same (receiver core.known to) e) c tag basic values
    (is_eager core.message_limit mode e (receiver core.known to) basic values)
sends_to mode e core c _ _ basic values = effect (pushed_over core) []

-- the requests with these serials are closed, since their outcomes were answered
abbrev pub core_used : Core → List ℕ → Core
core_used core ks = with_jobs core (all_changed closed core.jobs ks)

-- a test closes its request where it answers an outcome (MPI 3.1, 3.7.3)
abbrev pub core_tested : Core → Option (Answer × List ℕ) → Core
core_tested core None = core
core_tested core (Some (a, ks)) = core_used core ks

-- a cancel ends a receive that waits (MPI 3.1, 3.8.4)
abbrev pub core_cancels : Core → Option ℕ → Core
core_cancels core None = core
core_cancels core (Some k) = with_jobs core (changed dropped core.jobs k)

-- the receive of a message that was taken out, or of the null process's, which changes nothing (MPI 3.1, 3.8.3)
abbrev pub core_receives : Core → Option ℕ → Handed → Effect
core_receives core None into = effect core []
core_receives core (Some k) into = taken_at core k into (slice_get core.jobs k)

-- what a rank does with a call
abbrev pub called : Endpoint → Core → Call → Effect
called e core (Isend mode c to tag from) = sends_to mode e core c to tag from.buffer.basic (data_of from)
called e core (Irecv p) = receives core p p.source
called e core (Wait a) = effect (record core { blocked = Some (Waits a) }) []
called e core (Test r) = effect (core_tested core (completion (over_at core.jobs) (One r))) []
called e core (Cancel r) = effect (core_cancels core r) []
called e core (Iprobe q) = effect (looks core q q.source) []
called e core (Improbe q) = effect (searches core q q.source) []
called e core (Mrecv k into) = core_receives core k into

-- what a rank does with a frame of endpoint s
abbrev pub came : Core → Endpoint → Frame → Effect
came core s (Eager c tag basic values) =
    arrived core (record { sender = s; context = c; tag = tag; basic = basic; body = Whole values })
came core s (Rts c tag basic k count) =
    arrived core (record { sender = s; context = c; tag = tag; basic = basic; body = Part k count })
came core s (Cts k wanted) = answered core s k wanted (slice_get core.jobs k)
came core s (Data k o values) = effect (collected core o values (collecting s k core.jobs)) []

-- a higher incarnation of a rank is learnt: jobs end by it, and what is held from its former endpoints is dropped
abbrev pub learned : Core → ℕ → ℕ → Core
learned core r i =
    record {
      jobs = map (ended r i) core.jobs;
      blocked = core.blocked;
      known = with_number core.known r i;
      held = filter (λ h. not (is_former r i h.sender)) core.held;
      message_limit = core.message_limit;
    }

-- a word of an endpoint at a higher incarnation than the known one is learnt (own)
abbrev pub met : Core → Endpoint → Core
met core s = if nat_lt (core.known s.rank) s.incarnation then learned core s.rank s.incarnation else core

-- the answer to the call that isn't answered yet, once it is ready
abbrev pub core_ready : Core → Option (Answer × List ℕ)
core_ready core = option_and_then (answer_to (over_at core.jobs)) core.blocked

-- the blocked call is answered: its requests are closed, and nothing is blocked (MPI 3.1, 3.7.3)
abbrev pub core_settled_by : Core → Option (Answer × List ℕ) → Core
core_settled_by core None = core
core_settled_by core (Some (a, ks)) = record (core_used core ks) { blocked = None }

-- the blocked call is answered where its answer is ready
abbrev pub core_settled : Core → Core
core_settled core = core_settled_by core (core_ready core)
