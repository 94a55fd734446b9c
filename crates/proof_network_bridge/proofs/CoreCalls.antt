-- A world of engines follows the pure network through its calls of point to point, and those on requests.
use Rattle.std.proofs.Common.{◌≡◌, ℕ, ◌<◌, List, [], ◌∷◌, ◌++◌, Option, Some, None, option_map, refl, sym, ap}
use Rattle.std.proofs.Common.{subst, ◌∙◌, append-nil, arith}
use Rattle.std.specs.List.{AllByRecursion}
use Rattle.std.proofs.lemmas.Option.{same_Some}
use Rattle.collective_steps.specs.declared.step.Ending.{Ending}
use Rattle.rendezvous.specs.PayloadState as payloads
use Rattle.communicators.specs.Routes.{RouteText, route_on}
use Rattle.datagram.specs.Spellings.{FrameText, OutgoingText}
use Rattle.engine_calls.specs.EngineState.{EngineState, GroupsState, completion_by, completion_of, member_of}
use Rattle.engine_calls.specs.Faults.{broken, fault_of, free_fault, group_limit, is_busy, is_replaced, look_rules}
use Rattle.engine_calls.specs.Faults.{message_rules, on_route, probe_rules, receive_rules, routed_limit, send_rules}
use Rattle.engine_calls.specs.Frames.{after_frame, frame_limit}
use Rattle.engine_calls.specs.Refusals.{first_fault}
use Rattle.engine_calls.specs.Routes.{core_call, core_reply, probe_by, receive_by, route_at, send_by}
use Rattle.engine_calls.specs.declared.call.Call.{Call}
use Rattle.engine_calls.specs.declared.call.Call.TheVariants as calls
use Rattle.point_to_point_calls.specs.declared.call.Probe.{Probe}
use Rattle.point_to_point_calls.specs.declared.call.Receive.{Receive}
use Rattle.point_to_point_calls.specs.declared.call.Send.{Send}
use Rattle.engine_calls.specs.declared.reply.Completion.{Completion}
use Rattle.engine_calls.specs.declared.reply.Reply.{Reply}
use Rattle.engine_calls.specs.declared.reply.Reply.TheVariants as replies
use Rattle.incarnation.specs.declared.place.Place.{Place}
use Rattle.perfect_groups.specs.Calls as machine
use Rattle.perfect_groups.specs.Calls.{OfRequests, held_at, queue_call, queue_reply, reply_at_once}
use Rattle.perfect_groups.specs.Communicators.{Communicator}
use Rattle.perfect_groups.specs.Events.{Called, Entry, ready_by, told_of}
use Rattle.perfect_groups.specs.Faults.{is_no_target, is_source_beyond, is_within}
use Rattle.perfect_groups.specs.Membership.{Membership}
use Rattle.perfect_queues.specs.Calls as queues
use Rattle.perfect_queues.specs.Calls.{immediate_reply}
use Rattle.perfect_queues.specs.Completions as completions
use Rattle.perfect_queues.specs.Events as queue_events
use Rattle.perfect_queues.specs.Events.{call_and_reply, told}
use Rattle.perfect_queues.specs.State.{Local}
use Rattle.proof_collective_steps.specs.MemberViews as collectives
use Rattle.proof_engine_steps.specs.Steps.{CallsAreShown, IsCalled}
use Rattle.proof_engine_view.proofs.LastingViews.{sent_more}
use Rattle.observation.specs.CoreCalls as in_queues
use Rattle.proof_engine_view.specs.CoreViews.{IsShown}
use Rattle.proof_engine_view.specs.FrameViews.{AreSent, CanLeave, all_gone}
use Rattle.proof_engine_view.specs.Transfers.{Announcements, after_out}
use Rattle.proof_group_network.proofs.LinksOfMessages.{group_meetings_stand}
use Rattle.proof_group_network.specs.SessionContents.{Sessions, frames_carried}
use Rattle.proof_group_network.specs.Happenings.{IsAfter, QueueCallsHappen, reply_of}
use Rattle.proof_group_network.specs.Network.{Ask, GroupNetwork, happens}
use Rattle.proof_link_truth.specs.Events.{EventsAreTrue, LeavesTrue, all_addressed}
use Rattle.endpoint_links.specs.Links.{LinksOf}
use Rattle.endpoint_links.specs.Links as carriers
use Rattle.link_truth.specs.Wire.{in_job, place_of}
use Rattle.proof_pure_network.specs.Claims.{ClaimsOnce}
use Rattle.proof_pure_network.specs.Core.{Core, view}
use Rattle.proof_pure_network.specs.Engine.{called, core_ready, core_settled}
use Rattle.proof_pure_network.specs.Frames.{Frame}
use Rattle.proof_pure_network.specs.WaitingMessages.{blank}
use Rattle.proof_pure_network.specs.Links.{accept_all}
use Rattle.proof_pure_network.specs.Network.{here}
use Rattle.proof_session_carrying.specs.EventLaws.{AreJoined}
use Rattle.proof_session_carrying.specs.Announcements.{announcements_in}
use Rattle.proof_session_carrying.specs.MessageLaws.{FramesAreSent, QueueCallsAreCarried}
use Rattle.point_to_point_calls.specs.Frames.{as_list}
use Rattle.point_to_point_calls.specs.FrameNews.{first_of}
use Rattle.point_to_point_calls.specs.CoreCalls as core_calls
use Rattle.point_to_point_calls.specs.declared.refusal.Refusal.{Refusal}
use Rattle.point_to_point_calls.specs.declared.refusal.Refusal.TheVariants as refusals
use Rattle.point_to_point.specs.Calls.{argument_fault, call_fault, call_frame, free_request_fault, limit_fault}
use Rattle.point_to_point.specs.CoreState.{CoreState}
use Rattle.requests.specs.Regions.{handed_of}
use Rattle.sessions.specs.Events.{after_event, sends_limit}
use Rattle.sessions.specs.SessionsState.{SessionsState}
use Rattle.vocabulary.specs.declared.endpoint.Endpoint.{Endpoint}
use Rattle.proof_network_bridge.specs.WorldViews.{IsClean, IsHeldBy, network_after}
use Rattle.observation.specs.Sessions.{sessions_in}
use Rattle.proof_network_bridge.specs.GoingOn.{LeavesFollowedOn}
use Rattle.proof_network_bridge.specs.Payloads.{ArePayloads}
use Rattle.observation.specs.EngineCalls.{call_seen, told_call, told_completion}
use Rattle.proof_network_bridge.proofs.Calls.{CoreCallsFollow}
use Rattle.proof_network_bridge.proofs.SessionOutput.{all_same, may_send}
use Rattle.proof_network_bridge.proofs.Probes.{idle_by}
use Rattle.proof_network_bridge.proofs.RankEvents.{IsHeldUnder, followed_after}
use Rattle.proof_network_bridge.proofs.Halves.{Keeps, neither_fault, no_limit}
use Rattle.proof_network_bridge.proofs.Machine.{TakenIsFaultless}
use Rattle.proof_network_bridge.proofs.Members.{held_same, named_same}
use Rattle.proof_network_bridge.proofs.Payloads.{payloads_grow, said_same}
use Rattle.proof_network_bridge.proofs.RoutedFaults.{core_fault}
use Rattle.proof_network_bridge.proofs.Worlds.{after_grows, is_at, only_out, place_is, shown_out}

-- ---- THE FRAME OF A CALL

-- it meets no limit of the sessions
frame_free : (s : SessionsState) (f : Option OutgoingText) → frame_limit s f ≡ None → sends_limit s (as_list f) ≡ None
frame_free s None h = refl
frame_free s (Some f) h = no_limit (sends_limit s (f ∷ [])) h

-- to send it is an event in which nothing was heard
frame_event : (s : SessionsState) (f : Option OutgoingText) → after_frame s f ≡ after_event s None (as_list f)
frame_event s None = refl
frame_event s (Some f) = refl

-- what sessions know, and where they stand, stays
frame_keeps : (s : SessionsState) (f : Option OutgoingText) → Keeps s (after_frame s f)
frame_keeps s None = record { place = refl; known = refl }
frame_keeps s (Some f) = record { place = refl; known = refl }

-- ---- WHAT IS ALLOWED

-- what a core is asked meets no rule and no limit of it, and its frame none of the sessions
record IsAllowed (e : EngineState) (q : core_calls.RoutedCall) : Type 0 where
  core : call_fault e.core q ≡ None
  frame : frame_limit e.sessions (call_frame e.core q) ≡ None

-- where its parts meet none
allowed_by : (e : EngineState) (q : core_calls.RoutedCall) → e.core.blocked ≡ None → free_request_fault e.core q ≡ None →
    argument_fault e.core.place q ≡ None → routed_limit e q ≡ None → IsAllowed e q
allowed_by e q idle requests arguments limits =
    let both = neither_fault (limit_fault e.core q) (frame_limit e.sessions (call_frame e.core q)) limits in
    record {
      core = core_fault e.core q idle requests ∙
          ap (λ (o : Option Refusal). first_of o (limit_fault e.core q)) arguments ∙ both.0;
      frame = both.1;
    }

-- a send with a route
send_allowed : (e : EngineState) (s : Send) (r : RouteText) → e.core.blocked ≡ None → send_rules e s r ≡ None →
    IsAllowed e (core_calls.Isend (send_by s r))
send_allowed e s r idle rules =
    let arguments = neither_fault (argument_fault e.core.place (core_calls.Isend (send_by s r))) _ rules in
    let target = neither_fault (broken (is_no_target (held_at (member_of e.groups) s.comm) s.target) refusals.Rank) _ arguments.1 in
    let replaced = neither_fault (broken (is_replaced e s.comm s.target) refusals.Replaced) _ target.1 in
    allowed_by e (core_calls.Isend (send_by s r)) idle refl arguments.0 replaced.1

-- a receive with a route
receive_allowed : (e : EngineState) (v : Receive) (r : RouteText) → e.core.blocked ≡ None → receive_rules e v r ≡ None →
    IsAllowed e (core_calls.Irecv (receive_by v r))
receive_allowed e v r idle rules =
    let arguments = neither_fault (argument_fault e.core.place (core_calls.Irecv (receive_by v r))) _ rules in
    let source = neither_fault (broken (is_source_beyond (held_at (member_of e.groups) v.comm) v.source) refusals.Rank) _ arguments.1 in
    let replaced = neither_fault (broken (is_replaced e v.comm v.source) refusals.Replaced) _ source.1 in
    let group = neither_fault (group_limit r.group) _ replaced.1 in
    allowed_by e (core_calls.Irecv (receive_by v r)) idle refl arguments.0 group.1

-- a matching probe with a route
probe_allowed : (e : EngineState) (p : Probe) (r : RouteText) → e.core.blocked ≡ None → probe_rules e p r ≡ None →
    IsAllowed e (core_calls.Improbe (probe_by p r))
probe_allowed e p r idle rules =
    let both = neither_fault (look_rules e p r) (routed_limit e (core_calls.Improbe (probe_by p r))) rules in
    let arguments = neither_fault (argument_fault e.core.place (core_calls.Improbe (probe_by p r))) _ both.0 in
    allowed_by e (core_calls.Improbe (probe_by p r)) idle refl arguments.0 both.1

-- the receive of a message
message_allowed : (e : EngineState) (q : core_calls.RoutedCall) → e.core.blocked ≡ None → message_rules e q ≡ None →
    IsAllowed e q
message_allowed e q idle rules =
    let requests = neither_fault (free_request_fault e.core q) _ rules in
    let arguments = neither_fault (argument_fault e.core.place q) (routed_limit e q) requests.1 in
    allowed_by e q idle requests.0 arguments.0 arguments.1

-- a call on requests
requests_allowed : (e : EngineState) (q : core_calls.RoutedCall) → e.core.blocked ≡ None → free_request_fault e.core q ≡
    None → argument_fault e.core.place q ≡ None → limit_fault e.core q ≡ None → call_frame e.core q ≡ None →
    IsAllowed e q
requests_allowed e q idle requests arguments limits frame =
    allowed_by e q idle requests arguments
    (ap (λ (o : Option Refusal). first_fault o (frame_limit e.sessions (call_frame e.core q))) limits ∙
    ap (frame_limit e.sessions) frame)

-- one that no fault is found with while no earlier call is blocked
free_allowed : (e : EngineState) (call : Call) (asked : core_calls.RoutedCall) → e.core.blocked ≡ None →
    free_fault e call ≡ None → core_call e.groups call ≡ Some asked → IsAllowed e asked
free_allowed e (calls.Isend s) asked idle free routed = go (route_at e.groups s.comm s.target) free routed
  where
    go : (o : Option RouteText) → on_route o (send_rules e s) ≡ None →
        option_map (λ (r : RouteText). core_calls.Isend (send_by s r)) o ≡ Some asked → IsAllowed e asked
    go None rules is = absurd cc
    go (Some r) rules is =
        subst (IsAllowed e) (same_Some (core_calls.Isend (send_by s r)) asked is) (send_allowed e s r idle rules)
free_allowed e (calls.Irecv v) asked idle free routed = go (route_at e.groups v.comm v.source) free routed
  where
    go : (o : Option RouteText) → on_route o (receive_rules e v) ≡ None →
        option_map (λ (r : RouteText). core_calls.Irecv (receive_by v r)) o ≡ Some asked → IsAllowed e asked
    go None rules is = absurd cc
    go (Some r) rules is =
        subst (IsAllowed e) (same_Some (core_calls.Irecv (receive_by v r)) asked is) (receive_allowed e v r idle rules)
free_allowed e (calls.Wait q) asked idle free routed =
    subst (IsAllowed e) (same_Some (core_calls.Wait q) asked routed)
    (requests_allowed e (core_calls.Wait q) idle free refl refl refl)
free_allowed e (calls.Test q) asked idle free routed =
    subst (IsAllowed e) (same_Some (core_calls.Test q) asked routed)
    (requests_allowed e (core_calls.Test q) idle free refl refl refl)
free_allowed e (calls.Waitany qs) asked idle free routed =
    subst (IsAllowed e) (same_Some (core_calls.Waitany qs) asked routed)
    (requests_allowed e (core_calls.Waitany qs) idle free refl refl refl)
free_allowed e (calls.Waitall qs) asked idle free routed =
    subst (IsAllowed e) (same_Some (core_calls.Waitall qs) asked routed)
    (requests_allowed e (core_calls.Waitall qs) idle free refl refl refl)
free_allowed e (calls.Cancel q) asked idle free routed =
    subst (IsAllowed e) (same_Some (core_calls.Cancel q) asked routed)
    (requests_allowed e (core_calls.Cancel q) idle free refl refl refl)
free_allowed e (calls.Iprobe p) asked idle free routed = absurd cc
free_allowed e (calls.Improbe p) asked idle free routed = go (route_at e.groups p.comm p.source) free routed
  where
    go : (o : Option RouteText) → on_route o (probe_rules e p) ≡ None →
        option_map (λ (r : RouteText). core_calls.Improbe (probe_by p r)) o ≡ Some asked → IsAllowed e asked
    go None rules is = absurd cc
    go (Some r) rules is =
        subst (IsAllowed e) (same_Some (core_calls.Improbe (probe_by p r)) asked is) (probe_allowed e p r idle rules)
free_allowed e (calls.Mrecv q into) asked idle free routed =
    subst (IsAllowed e) (same_Some (core_calls.Mrecv q into) asked routed)
    (message_allowed e (core_calls.Mrecv q into) idle free)
free_allowed e (calls.Enter comm x) asked idle free routed = absurd cc
free_allowed e (calls.Ask comm q) asked idle free routed = absurd cc

allowed : (e : EngineState) (call : Call) (asked : core_calls.RoutedCall) → fault_of e call ≡ None →
    core_call e.groups call ≡ Some asked → IsAllowed e asked
allowed e call asked fine routed =
    let both = neither_fault (broken (is_busy e) refusals.Request) (free_fault e call) fine in
    free_allowed e call asked (idle_by e.core.blocked (is_within (member_of e.groups).present) both.0) both.1 routed

-- ---- WHAT IT IS TO THE QUEUES

-- what a core is asked is the call of the queues that the machine makes of the call
queue_call_is : (g : GroupsState) (m : Membership) (call : Call) (asked : core_calls.RoutedCall) → m.held ≡
    (member_of g).held → core_call g call ≡ Some asked →
    queue_call m (call_seen call) ≡ Some (in_queues.call_seen asked)
queue_call_is g m (calls.Isend s) asked held routed =
    go (held_at (member_of g) s.comm) (named_same m (member_of g) s.comm held) routed
  where
    go : (o : Option Communicator) → held_at m s.comm ≡ o →
        option_map (λ (r : RouteText). core_calls.Isend (send_by s r)) (option_map (route_on s.target) o) ≡ Some asked →
        queue_call m (call_seen (calls.Isend s)) ≡ Some (in_queues.call_seen asked)
    go None named is = absurd cc
    go (Some c) named is =
        ap (option_map
        (λ (c : Communicator). queues.Isend s.mode c.context (machine.in_world c s.target) s.tag
        (handed_of s.from))) named
        ∙ ap (λ (q : core_calls.RoutedCall). Some (in_queues.call_seen q))
        (same_Some (core_calls.Isend (send_by s (route_on s.target c))) asked is)
queue_call_is g m (calls.Irecv v) asked held routed =
    go (held_at (member_of g) v.comm) (named_same m (member_of g) v.comm held) routed
  where
    go : (o : Option Communicator) → held_at m v.comm ≡ o →
        option_map (λ (r : RouteText). core_calls.Irecv (receive_by v r)) (option_map (route_on v.source) o) ≡
        Some asked →
        queue_call m (call_seen (calls.Irecv v)) ≡ Some (in_queues.call_seen asked)
    go None named is = absurd cc
    go (Some c) named is =
        ap (option_map (λ (c : Communicator). queues.Irecv (machine.receive_on c v.source v.tag (handed_of v.into))))
        named
        ∙ ap (λ (q : core_calls.RoutedCall). Some (in_queues.call_seen q))
        (same_Some (core_calls.Irecv (receive_by v (route_on v.source c))) asked is)
queue_call_is g m (calls.Wait q) asked held routed =
    ap (λ (c : core_calls.RoutedCall). Some (in_queues.call_seen c)) (same_Some (core_calls.Wait q) asked routed)
queue_call_is g m (calls.Test q) asked held routed =
    ap (λ (c : core_calls.RoutedCall). Some (in_queues.call_seen c)) (same_Some (core_calls.Test q) asked routed)
queue_call_is g m (calls.Waitany qs) asked held routed =
    ap (λ (c : core_calls.RoutedCall). Some (in_queues.call_seen c)) (same_Some (core_calls.Waitany qs) asked routed)
queue_call_is g m (calls.Waitall qs) asked held routed =
    ap (λ (c : core_calls.RoutedCall). Some (in_queues.call_seen c)) (same_Some (core_calls.Waitall qs) asked routed)
queue_call_is g m (calls.Cancel q) asked held routed =
    ap (λ (c : core_calls.RoutedCall). Some (in_queues.call_seen c)) (same_Some (core_calls.Cancel q) asked routed)
queue_call_is g m (calls.Iprobe p) asked held routed = absurd cc
queue_call_is g m (calls.Improbe p) asked held routed =
    go (held_at (member_of g) p.comm) (named_same m (member_of g) p.comm held) routed
  where
    go : (o : Option Communicator) → held_at m p.comm ≡ o →
        option_map (λ (r : RouteText). core_calls.Improbe (probe_by p r)) (option_map (route_on p.source) o) ≡
        Some asked →
        queue_call m (call_seen (calls.Improbe p)) ≡ Some (in_queues.call_seen asked)
    go None named is = absurd cc
    go (Some c) named is =
        ap (option_map (λ (c : Communicator). queues.Improbe (machine.probe_on c p.source p.tag))) named
        ∙ ap (λ (q : core_calls.RoutedCall). Some (in_queues.call_seen q))
        (same_Some (core_calls.Improbe (probe_by p (route_on p.source c))) asked is)
queue_call_is g m (calls.Mrecv q into) asked held routed =
    ap (λ (c : core_calls.RoutedCall). Some (in_queues.call_seen c)) (same_Some (core_calls.Mrecv q into) asked routed)
queue_call_is g m (calls.Enter comm x) asked held routed = absurd cc
queue_call_is g m (calls.Ask comm q) asked held routed = absurd cc

-- it is answered at once as the queues answer it
pub answered_at_once : (e : Endpoint) (l : Local) (m : Membership) (c : machine.Call) (q : queues.Call) →
    queue_call m c ≡ Some q → reply_at_once e l m c ≡ option_map OfRequests (immediate_reply l q)
answered_at_once e l m (machine.Isend mode comm to tag from) q is = ap (queue_reply l) is
answered_at_once e l m (machine.Irecv comm source tag into) q is = ap (queue_reply l) is
answered_at_once e l m (machine.Wait a) q is = ap (queue_reply l) is
answered_at_once e l m (machine.Test r) q is = ap (queue_reply l) is
answered_at_once e l m (machine.Cancel r) q is = ap (queue_reply l) is
answered_at_once e l m (machine.Iprobe comm source tag) q is = ap (queue_reply l) is
answered_at_once e l m (machine.Improbe comm source tag) q is = ap (queue_reply l) is
answered_at_once e l m (machine.Mrecv message into) q is = ap (queue_reply l) is
answered_at_once e l m (machine.Enter comm x) q is = absurd cc
answered_at_once e l m (machine.Inquire comm x) q is = absurd cc

-- ---- WHAT IS SEEN OF IT

same_reply : (d e : Endpoint) (p q : queues.Call) (x y : queues.Reply) →
    ◌≡◌ {A = List queue_events.Entry} (queue_events.Called d p x ∷ []) (queue_events.Called e q y ∷ []) → x ≡ y
same_reply d e p q x y h = cc

-- a reply that the queues' history tells of a call tells the machine's history of the call that it is
replied : (e : Endpoint) (q : queues.Call) (call : Call) (reply : Reply) (asked : core_calls.RoutedCall)
    (answer : core_calls.CoreReply) (x : queues.Reply) → core_reply reply ≡ Some answer →
    queue_events.Called e q x ∷ [] ≡ in_queues.told_call e asked (Some answer) →
    Called e (call_seen call) (OfRequests x) ∷ [] ≡ told_call e call (Some reply)
replied e q call reply asked answer x is h = go reply is
  where
    with : (y : core_calls.CoreReply) → Some y ≡ Some answer → queue_events.Called e q x ∷
        [] ≡ in_queues.told_call e asked (Some y)
    with y same =
        h ∙ ap (λ (z : core_calls.CoreReply). in_queues.told_call e asked (Some z)) (sym (same_Some y answer same))

    seen : (y : queues.Reply) → queue_events.Called e q x ∷ [] ≡ queue_events.Called e (in_queues.call_seen asked) y ∷
        [] → Called e (call_seen call) (OfRequests x) ∷ [] ≡ Called e (call_seen call) (OfRequests y) ∷ []
    seen y same =
        ap (λ (z : queues.Reply). Called e (call_seen call) (OfRequests z) ∷ [])
        (same_reply e e q (in_queues.call_seen asked) x y same)

    go : (r : Reply) → core_reply r ≡ Some answer → Called e (call_seen call) (OfRequests x) ∷
        [] ≡ told_call e call (Some r)
    go (replies.Started s) k = seen (queues.Started s.serial) (with (core_calls.Started s) k)
    go (replies.Done a) k = seen (queues.Done (in_queues.answer_seen a)) (with (core_calls.Done a) k)
    go replies.Pending k = seen queues.Pending (with core_calls.Pending k)
    go replies.Accepted k = seen queues.Accepted (with core_calls.Accepted k)
    go replies.Blocked k = seen queues.Blocked (with core_calls.Blocked k)
    go (replies.Matched found) k =
        seen (queues.Done (completions.ForMatch (in_queues.match_seen found))) (with (core_calls.Matched found) k)
    go (replies.Left o) k = absurd cc
    go (replies.Fact f) k = absurd cc
    go (replies.Probed found) k = absurd cc
    go (replies.Refused why back) k = absurd cc

-- what is seen of a call that the queues tell so
told_same : (e : Endpoint) (q : queues.Call) (call : Call) (reply : Reply) (asked : core_calls.RoutedCall)
    (answer : core_calls.CoreReply) (o : Option queues.Reply) (a : Option (completions.Answer × List ℕ)) →
    core_reply reply ≡ Some answer → told e (Some (q, o)) a ≡ in_queues.told_call e asked (Some answer) →
    told_of e (Some (call_seen call, option_map OfRequests o)) (ready_by None a) ≡ told_call e call (Some reply)
told_same e q call reply asked answer (Some x) a is h = replied e q call reply asked answer x is h
told_same e q call reply asked answer None (Some (x, ks)) is h =
    replied e q call reply asked answer (queues.Done x) is h
told_same e q call reply asked answer None None is h = replied e q call reply asked answer queues.Blocked is h

-- ---- WHAT FOLLOWS

-- what is said of a call, at its place
record IsCalledAt (a : Announcements) (p : Place) (old : CoreState) (known : List ℕ) (core : Core)
    (call : core_calls.RoutedCall) (reply : core_calls.CoreReply) (new : CoreState) : Type 0 where
  shown : IsShown (after_out a (called p.endpoint core (in_queues.call_seen call)).out) new known
      (core_settled (called p.endpoint core (in_queues.call_seen call)).core)
  sends : AreSent (after_out a (called p.endpoint core (in_queues.call_seen call)).out)
      (all_gone known (as_list (call_frame old call))) (called p.endpoint core (in_queues.call_seen call)).out
  leaves : AllByRecursion (CanLeave p) (as_list (call_frame old call))
  tells : told p.endpoint (call_and_reply (view blank core) (Some (in_queues.call_seen call)))
      (core_ready (called p.endpoint core (in_queues.call_seen call)).core) ≡
      in_queues.told_call p.endpoint call (Some reply)

called_at : (a : Announcements) (p : Place) (old : CoreState) (known : List ℕ) (core : Core)
    (call : core_calls.RoutedCall)
    (reply : core_calls.CoreReply) (new : CoreState) → old.place ≡ p →
    IsCalled a old known core call reply new → IsCalledAt a p old known core call reply new
called_at a p old known core call reply new is c =
    subst (λ (q : Place). IsCalledAt a q old known core call reply new) is
    (record { shown = c.shown; sends = c.sends; leaves = c.leaves; tells = c.tells })

pub core_calls_follow : CallsAreShown → EventsAreTrue → QueueCallsHappen → QueueCallsAreCarried → TakenIsFaultless →
    CoreCallsFollow
core_calls_follow shows truth happen carried taken n r engines datagrams history old mid call reply f there is gives
    answer =
    subst (λ (es : List Entry). LeavesFollowedOn n f.limit f.happenings engines datagrams r mid (history ++ es))
    entries_are
    (followed_after n r engines datagrams history _ mid (Ask r (call_seen call)) (core_settled (called own core q).core)
    (accept_all w.net.link own out) (w.member own) w.notices
    f.joined.said (carriers.accept_all f.joined.texts own texts) sessions f after between
    (only_out f.joined.sessions own (frames_carried out)) leaves held (said_same f.joined.said) kept refl old
    there stands)
  where
    w : GroupNetwork
    w = network_after n f.limit f.happenings

    own : Endpoint
    own = here w.net r

    core : Core
    core = w.net.core own

    known : List ℕ
    known = old.sessions.known

    q : queues.Call
    q = in_queues.call_seen answer.asked

    frame : Option OutgoingText
    frame = call_frame old.core answer.asked

    out : List (Endpoint × Frame)
    out = (called own core q).out

    a : ℕ → Announcements
    a serial = announcements_in serial f.joined.sessions own

    sessions : Sessions
    sessions = carriers.accept_all f.joined.sessions own (frames_carried out)

    texts : List (Endpoint × FrameText)
    texts = all_addressed known (as_list frame)

    at_own : IsHeldBy w f.joined.sessions r old
    at_own = f.joined.held r old there

    place : (r < n) × (old.sessions.place ≡ in_job old.sessions.place.message_limit (place_of n own))
    place = place_is n r engines datagrams w old f.joined there

    free : IsAllowed old answer.asked
    free = allowed old call answer.asked answer.allowed answer.routed

    -- no two messages there name one of its own sends
    claimed : ClaimsOnce core
    claimed = (group_meetings_stand n f.limit f.happenings (omega (arith, f.few))).claimed own

    shown : (serial : ℕ) → IsCalled (a serial) old.core known core answer.asked answer.answer mid.core
    shown serial =
        shows (a serial) old.core mid.core known core answer.asked answer.answer (at_own.queues serial) claimed
        answer.within free.core answer.core

    c : (serial : ℕ) →
        IsCalledAt (a serial) (in_job old.sessions.place.message_limit (place_of n own)) old.core known core
        answer.asked answer.answer mid.core
    c serial =
        called_at (a serial) (in_job old.sessions.place.message_limit (place_of n own)) old.core known core
        answer.asked answer.answer mid.core
        (at_own.placed ∙ place.1) (shown serial)

    -- the network takes the call
    queued : queue_call (w.member own).membership (call_seen call) ≡ Some q
    queued = queue_call_is old.groups (w.member own).membership call answer.asked
        (held_same own old.groups (w.member own) at_own.groups) answer.routed

    after : IsAfter w (happens n w (Ask r (call_seen call))) own (core_settled (called own core q).core)
        (accept_all w.net.link own out) (w.member own) w.notices
        (told_of own (Some (call_seen call, reply_of w r (call_seen call)))
        (ready_by None (core_ready (called own core q).core)))
    after = happen n r w (call_seen call) q place.0
        (taken n r engines datagrams history old mid call reply f there is gives).none queued

    -- the sessions do just what is done where a frame is sent and nothing is heard
    sent : LeavesTrue n (sessions_in engines) datagrams r (after_event old.sessions None (as_list frame))
        (carriers.accept_all f.joined.texts own texts) w.net.current
    sent = truth n r (sessions_in engines) datagrams f.joined.texts w.net.current old.sessions None
        (as_list frame) f.joined.links (is_at n r engines datagrams w old f.joined there) tt
        (may_send n old.sessions.place.message_limit own (as_list frame) (c 0).leaves)
        (frame_free old.sessions frame free.frame)

    leaves : LeavesTrue n (sessions_in engines) datagrams r mid.sessions (carriers.accept_all f.joined.texts own texts)
        w.net.current
    leaves = subst
        (λ (s : SessionsState). LeavesTrue n (sessions_in engines) datagrams r s
        (carriers.accept_all f.joined.texts own texts) w.net.current)
        (sym (answer.sessions ∙ frame_event old.sessions frame)) sent

    -- what the sessions send stands for what the network's core gives
    between : AreJoined (happens n w (Ask r (call_seen call))) f.joined.said
        (carriers.accept_all f.joined.texts own texts) (carriers.accept_all f.joined.sessions own (frames_carried out))
    between = carried w (happens n w (Ask r (call_seen call))) f.joined.said f.joined.texts f.joined.sessions own _
        (w.member own) _ out texts f.joined.between after stand
      where
        stand : FramesAreSent f.joined.sessions own texts out
        stand serial =
            sent_more (after_out (a serial) out) (announcements_in serial sessions own) texts out
            (after_grows serial f.joined.sessions own out)
            (subst (λ (ts : List (Endpoint × FrameText)). AreSent (after_out (a serial) out) ts out)
            (sym (all_same known (as_list frame))) (c serial).sends)

    known_is : mid.sessions.known ≡ known
    known_is = ap (λ (s : SessionsState). s.known) answer.sessions ∙ (frame_keeps old.sessions frame).known

    stands : mid.sessions.place ≡ old.sessions.place
    stands = ap (λ (s : SessionsState). s.place) answer.sessions ∙ (frame_keeps old.sessions frame).place

    held : IsHeldUnder sessions own mid (core_settled (called own core q).core) (w.member own)
    held serial = record {
      queues = shown_out serial f.joined.sessions own out mid.core mid.sessions.known
          (core_settled (called own core q).core)
          (subst (λ (k : List ℕ). IsShown (after_out (a serial) out) mid.core k (core_settled (called own core q).core))
          (sym known_is) (c serial).shown);
      groups = subst (λ (g : GroupsState). collectives.IsShown own g.collective g.contexts (w.member own) None)
          (sym answer.groups) at_own.groups;
      placed = (shown 0).place ∙ at_own.placed ∙ sym stands;
    }

    -- what it keeps of payloads stays
    kept : ArePayloads w.net.message_limit sessions f.joined.said own mid.sessions.known mid.payloads
    kept =
        payloads_grow w.net.message_limit f.joined.sessions sessions f.joined.said f.joined.said own mid.sessions.known
        mid.payloads
        (only_out f.joined.sessions own (frames_carried out)).grow (said_same f.joined.said)
        (subst (λ (k : List ℕ). ArePayloads w.net.message_limit f.joined.sessions f.joined.said own k mid.payloads)
        (sym known_is)
        (subst (λ (p : payloads.State). ArePayloads w.net.message_limit f.joined.sessions f.joined.said own known p)
        (sym answer.payloads)
        (f.joined.payloads r old there)))

    clean : IsClean old
    clean = f.joined.clean r old there

    none : completion_of mid ≡ None
    none = ap (λ (o : Option Ending). completion_by o mid.core.completion) (answer.ended ∙ clean.ended) ∙
        ap (completion_by None) ((shown 0).completion ∙ clean.completion)

    entries_are : told_of own (Some (call_seen call, reply_of w r (call_seen call)))
        (ready_by None (core_ready (called own core q).core))
        ≡ told_call old.sessions.place.endpoint call (Some reply) ++
        told_completion old.sessions.place.endpoint (completion_of mid)
    entries_are =
        ap (λ (o : Option machine.Reply). told_of own (Some (call_seen call, o))
        (ready_by None (core_ready (called own core q).core)))
        (answered_at_once own (view blank core) (w.member own).membership (call_seen call) q queued)
        ∙ told_same own q call reply answer.asked answer.answer (immediate_reply (view blank core) q)
        (core_ready (called own core q).core) answer.told (c 0).tells
        ∙ ap (λ (p : Place). told_call p.endpoint call (Some reply)) (sym place.1)
        ∙ sym (append-nil (told_call old.sessions.place.endpoint call (Some reply)))
        ∙ ap (λ (o : Option Completion). told_call old.sessions.place.endpoint call (Some reply) ++
        told_completion old.sessions.place.endpoint o) (sym none)
