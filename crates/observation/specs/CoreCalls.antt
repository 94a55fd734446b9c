-- What the machine of perfect queues sees of a rank's calls, replies and outcomes.
use Rattle.std.specs.Prelude.{ℕ, Bool, false, not, ◌&&◌, List, [], ◌∷◌, Option, Some, None, if◌then◌else◌, ◌==◌, map}
use Rattle.std.specs.Prelude.{option_map}
use Rattle.std.specs.List.{list_any}
use Rattle.vocabulary.specs.declared.endpoint.Endpoint.{Endpoint}
use Rattle.vocabulary.specs.declared.envelope.Status.{Status}
use Rattle.requests.specs.declared.answer.Answer.{Answer}
use Rattle.requests.specs.declared.answer.Answer.TheVariants as answers
use Rattle.requests.specs.declared.awaited_requests.Awaited.{Awaited}
use Rattle.requests.specs.declared.awaited_requests.Awaited.TheVariants as awaiteds
use Rattle.requests.specs.declared.outcome.Outcome.{Outcome}
use Rattle.requests.specs.declared.outcome.Outcome.TheVariants as outcomes
use Rattle.requests.specs.Outcomes.{number_of_failure}
use Rattle.requests.specs.Regions.{handed_of}
use Rattle.requests.specs.Table.{slot_at}
use Rattle.requests.specs.declared.table.TableEntry as table
use Rattle.requests.specs.declared.table.Request.{Request}
use Rattle.point_to_point_calls.specs.declared.call.RoutedSend.{RoutedSend}
use Rattle.point_to_point_calls.specs.declared.call.RoutedReceive.{RoutedReceive}
use Rattle.point_to_point_calls.specs.declared.call.RoutedProbe.{RoutedProbe}
use Rattle.point_to_point_calls.specs.CoreCalls.{RoutedCall}
use Rattle.point_to_point_calls.specs.CoreCalls as calls
use Rattle.point_to_point_calls.specs.CoreCalls.{CoreReply}
use Rattle.point_to_point.specs.CoreState.{CoreState}
use Rattle.perfect_queues.specs.Outcomes as machine_outcomes
use Rattle.perfect_queues.specs.Receives as machine_receives
use Rattle.perfect_queues.specs.Calls as machine
use Rattle.perfect_queues.specs.Completions as completions
use Rattle.perfect_queues.specs.Events.{Entry, Called, Completed}

-- how an operation ended
abbrev pub outcome_seen : Outcome → machine_outcomes.Outcome
outcome_seen outcomes.Sent = machine_outcomes.Sent
outcome_seen (outcomes.Received status b) = machine_outcomes.Received status b
outcome_seen (outcomes.Ended why status b) = machine_outcomes.Ended (number_of_failure why) status b
outcome_seen (outcomes.Replaced b) = machine_outcomes.Replaced b
outcome_seen (outcomes.Cancelled b) = machine_outcomes.Cancelled b
outcome_seen outcomes.Empty = machine_outcomes.Empty

-- what a completing call answers
abbrev pub answer_seen : Answer → completions.Answer
answer_seen (answers.One o) = completions.ForOne (outcome_seen o)
answer_seen (answers.Index i o) = completions.ForAny (Some (i, outcome_seen o))
answer_seen answers.IndexUndefined = completions.ForAny None
answer_seen (answers.All os) = completions.ForAll (map outcome_seen os)

-- a receive, in the context of its communicator and with its group
abbrev pub receive_seen : RoutedReceive → machine_receives.Receive
receive_seen v =
    record {
      source = v.route.named;
      tag = v.receive.tag;
      context = v.route.context;
      group = v.group;
      into = handed_of v.receive.into;
    }

-- a probe, in the context of its communicator and with its group
abbrev pub probe_seen : RoutedProbe → machine_receives.Probe
probe_seen p = record { source = p.route.named; tag = p.probe.tag; context = p.route.context; group = p.group }

-- a send, in the context of its communicator
abbrev pub send_seen : RoutedSend → machine.Call
send_seen s = machine.Isend s.send.mode s.route.context s.route.named s.send.tag (handed_of s.send.from)

-- a request is named by its serial; what that is may depend on the rank
abbrev pub request_by : (Request → ℕ) → Option Request → Option ℕ
request_by f None = None
request_by f (Some q) = Some (f q)

-- several are
abbrev pub requests_by : (Request → ℕ) → List (Option Request) → List (Option ℕ)
requests_by f [] = []
requests_by f (q ∷ qs) = request_by f q ∷ requests_by f qs

-- what a call waits for
abbrev pub awaited_by : (Request → ℕ) → Awaited → completions.Awaited
awaited_by f (awaiteds.One q) = completions.One (request_by f q)
awaited_by f (awaiteds.AnyOf qs) = completions.AnyOf (requests_by f qs)
awaited_by f (awaiteds.AllOf qs) = completions.AllOf (requests_by f qs)

-- a call, where requests are named so
abbrev pub call_by : (Request → ℕ) → RoutedCall → machine.Call
call_by f (calls.Isend s) = send_seen s
call_by f (calls.Irecv v) = machine.Irecv (receive_seen v)
call_by f (calls.Wait q) = machine.Wait (awaited_by f (awaiteds.One q))
call_by f (calls.Test q) = machine.Test (request_by f q)
call_by f (calls.Waitany qs) = machine.Wait (awaited_by f (awaiteds.AnyOf qs))
call_by f (calls.Waitall qs) = machine.Wait (awaited_by f (awaiteds.AllOf qs))
call_by f (calls.Cancel q) = machine.Cancel (request_by f q)
call_by f (calls.Improbe p) = machine.Improbe (probe_seen p)
call_by f (calls.Mrecv q into) = machine.Mrecv (request_by f q) (handed_of into)

-- the serial of a request
abbrev pub own_serial : Request → ℕ
own_serial q = q.serial

-- what is seen of a call: each request is named by its own serial
abbrev pub call_seen : RoutedCall → machine.Call
call_seen call = call_by own_serial call

-- what is seen of what a call waits for
abbrev pub awaited_seen : Awaited → completions.Awaited
awaited_seen a = awaited_by own_serial a

-- whether a request with this serial stands in a slot of the table
abbrev pub has_serial : (serial : ℕ) → Option table.TableEntry → Bool
has_serial serial None = false
has_serial serial (Some t) = t.serial == serial

-- whether another engine gave the request: one with its serial stands in this rank's table, though not under its key
abbrev pub is_foreign : (slots : List (Option table.TableEntry)) → Request → Bool
is_foreign slots q = list_any (has_serial q.serial) slots && not (has_serial q.serial (slot_at slots q.key))

-- the serial that a request stands for at a rank: its own; that of another engine's is the next one, which no request
-- has
abbrev pub serial_meant : CoreState → Request → ℕ
serial_meant c q = if is_foreign c.slots q then c.serial else q.serial

-- what a call means at a rank: what is seen of it, but that a request of another engine is one that it never gave
abbrev pub call_meant : CoreState → RoutedCall → machine.Call
call_meant c call = call_by (serial_meant c) call

-- what a matching probe found: a message is named by its serial
abbrev pub match_seen : Option (Option Request × Status) → Option (Option ℕ × Status)
match_seen found = option_map (λ t. (request_by own_serial t.0, t.1)) found

-- what is seen of a call at an endpoint that was answered so; of a refused one nothing is
abbrev pub told_call : Endpoint → RoutedCall → Option CoreReply → List Entry
told_call e call None = []
told_call e call (Some (calls.Started q)) = Called e (call_seen call) (machine.Started q.serial) ∷ []
told_call e call (Some (calls.Done a)) = Called e (call_seen call) (machine.Done (answer_seen a)) ∷ []
told_call e call (Some calls.Pending) = Called e (call_seen call) machine.Pending ∷ []
told_call e call (Some calls.Accepted) = Called e (call_seen call) machine.Accepted ∷ []
told_call e call (Some (calls.Matched found)) =
    Called e (call_seen call) (machine.Done (completions.ForMatch (match_seen found))) ∷ []
told_call e call (Some calls.Blocked) = Called e (call_seen call) machine.Blocked ∷ []
told_call e call (Some (calls.Refused why back)) = []

-- what is seen of the answer to a call that was blocked
abbrev pub told_completion : Endpoint → Option Answer → List Entry
told_completion e None = []
told_completion e (Some a) = Completed e (answer_seen a) ∷ []
