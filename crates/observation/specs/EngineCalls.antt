-- What the machine of queues and groups sees of an engine's calls, replies and answers.
use Rattle.std.specs.Prelude.{ℕ, List, [], ◌∷◌, Option, Some, None}
use Rattle.vocabulary.specs.declared.endpoint.Endpoint.{Endpoint}
use Rattle.communicators.specs.Members.{call_of}
use Rattle.communicators.specs.Questions.{question_of}
use Rattle.engine_calls.specs.Calls.{fact_said}
use Rattle.engine_calls.specs.declared.call.Call as engine
use Rattle.engine_calls.specs.declared.call.Call.TheVariants as calls
use Rattle.engine_calls.specs.declared.reply.Completion.{Completion}
use Rattle.engine_calls.specs.declared.reply.Completion.TheVariants as completions
use Rattle.engine_calls.specs.declared.reply.Reply as engine_replies
use Rattle.engine_calls.specs.declared.reply.Reply.TheVariants as replies
use Rattle.perfect_groups.specs.Calls.{ByCollective, ByRequests, Call, Cancel, Enter, Improbe, Inquire, Iprobe, Irecv}
use Rattle.perfect_groups.specs.Calls.{Isend, Mrecv, OfCollective, OfFact, OfRequests, Test, Wait}
use Rattle.perfect_groups.specs.Events.{Called, Completed, Entry}
use Rattle.perfect_queues.specs.Calls as queues
use Rattle.perfect_queues.specs.Completions.{ForMatch, ForProbe}
use Rattle.observation.specs.Endings.{ending_is}
use Rattle.observation.specs.CoreCalls.{answer_seen, awaited_by, match_seen, own_serial, request_by, serial_meant}
use Rattle.point_to_point.specs.CoreState.{CoreState}
use Rattle.requests.specs.Regions.{handed_of}
use Rattle.requests.specs.declared.awaited_requests.Awaited.TheVariants as awaiteds
use Rattle.requests.specs.declared.table.Request.{Request}

-- a call, where requests are named so
abbrev pub call_by : (Request → ℕ) → engine.Call → Call
call_by f (calls.Isend s) = Isend s.mode s.comm s.target s.tag (handed_of s.from)
call_by f (calls.Irecv v) = Irecv v.comm v.source v.tag (handed_of v.into)
call_by f (calls.Wait q) = Wait (awaited_by f (awaiteds.One q))
call_by f (calls.Test q) = Test (request_by f q)
call_by f (calls.Waitany qs) = Wait (awaited_by f (awaiteds.AnyOf qs))
call_by f (calls.Waitall qs) = Wait (awaited_by f (awaiteds.AllOf qs))
call_by f (calls.Cancel q) = Cancel (request_by f q)
call_by f (calls.Iprobe p) = Iprobe p.comm p.source p.tag
call_by f (calls.Improbe p) = Improbe p.comm p.source p.tag
call_by f (calls.Mrecv q into) = Mrecv (request_by f q) (handed_of into)
call_by f (calls.Enter comm x) = Enter comm (call_of x)
call_by f (calls.Ask comm q) = Inquire comm (question_of q)

-- what is seen of a call: each request is named by its own serial
abbrev pub call_seen : engine.Call → Call
call_seen call = call_by own_serial call

-- what a call means at a rank: what is seen of it, but that a request of another engine is one that it never gave
abbrev pub call_meant : CoreState → engine.Call → Call
call_meant c call = call_by (serial_meant c) call

-- what is seen of a call at an endpoint that was answered so; of a refused one nothing is
abbrev pub told_call : Endpoint → engine.Call → Option engine_replies.Reply → List Entry
told_call e call None = []
told_call e call (Some (replies.Started q)) = Called e (call_seen call) (OfRequests (queues.Started q.serial)) ∷ []
told_call e call (Some (replies.Done a)) = Called e (call_seen call) (OfRequests (queues.Done (answer_seen a))) ∷ []
told_call e call (Some replies.Pending) = Called e (call_seen call) (OfRequests queues.Pending) ∷ []
told_call e call (Some replies.Accepted) = Called e (call_seen call) (OfRequests queues.Accepted) ∷ []
told_call e call (Some (replies.Probed found)) = Called e (call_seen call) (OfRequests (queues.Done (ForProbe found))) ∷
    []
told_call e call (Some (replies.Matched found)) =
    Called e (call_seen call) (OfRequests (queues.Done (ForMatch (match_seen found)))) ∷ []
told_call e call (Some replies.Blocked) = Called e (call_seen call) (OfRequests queues.Blocked) ∷ []
told_call e call (Some (replies.Left o)) = Called e (call_seen call) (OfCollective (ending_is o)) ∷ []
told_call e call (Some (replies.Fact f)) = Called e (call_seen call) (OfFact (fact_said f)) ∷ []
told_call e call (Some (replies.Refused why back)) = []

-- what is seen of the answer to a call that was blocked
abbrev pub told_completion : Endpoint → Option Completion → List Entry
told_completion e None = []
told_completion e (Some (completions.Requests a)) = Completed e (ByRequests (answer_seen a)) ∷ []
told_completion e (Some (completions.Collective o)) = Completed e (ByCollective (ending_is o)) ∷ []
