-- The first rule or limit that a call meets.
use Rattle.std.specs.Prelude.{ℕ, ◌||◌, Bool, List, length, Option, Some, None, if◌then◌else◌, is_none, is_some, nat_lt}
use Rattle.std.specs.Prelude.{option_map}
use Rattle.collective_messages.specs.declared.entry.Entry.{Entry}
use Rattle.communicators.specs.Members.{held_in}
use Rattle.communicators.specs.Questions.{question_of}
use Rattle.communicators.specs.Routes.{RouteText}
use Rattle.communicators.specs.Rules.{known_by, limit_in, rule_in}
use Rattle.communicators.specs.declared.question.Question.{Question}
use Rattle.perfect_groups.specs.Calls.{held_at}
use Rattle.perfect_groups.specs.Faults.{asks_of_none, has_replaced, is_no_target, is_source_beyond, is_within}
use Rattle.perfect_groups.specs.Faults.{names_replaced}
use Rattle.point_to_point_calls.specs.CoreCalls as core_calls
use Rattle.point_to_point_calls.specs.declared.refusal.Refusal.{Refusal}
use Rattle.point_to_point_calls.specs.declared.refusal.Refusal.TheVariants as refusals
use Rattle.point_to_point.specs.Calls.{argument_fault, call_frame, free_request_fault, limit_fault}
use Rattle.vocabulary.specs.declared.envelope.Source.{Source}
use Rattle.engine_calls.specs.EngineState.{EngineState, member_of}
use Rattle.engine_calls.specs.Frames.{frame_limit}
use Rattle.engine_calls.specs.Refusals.{first_fault, of_entry_rule}
use Rattle.engine_calls.specs.Routes.{probe_by, receive_by, route_at, send_by}
use Rattle.engine_calls.specs.declared.call.Call.{Call}
use Rattle.engine_calls.specs.declared.call.Call.TheVariants as calls
use Rattle.point_to_point_calls.specs.declared.call.Probe.{Probe}
use Rattle.point_to_point_calls.specs.declared.call.Receive.{Receive}
use Rattle.point_to_point_calls.specs.declared.call.Send.{Send}
use Rattle.vocabulary.specs.MessageLimits.{limit_of}

-- ---- point to point

-- a rule, where it is broken
abbrev pub broken : Bool → Refusal → Option Refusal
broken b rule = if b then Some rule else None

-- whether the member that a call names is known at another incarnation; on world none counts
abbrev pub is_replaced : EngineState → (comm : Option ℕ) → Source → Bool
is_replaced e comm named = names_replaced (known_by e.sessions.known) (held_at (member_of e.groups) comm) named

-- a group is shared among receives where it has at most 65,535 members (our own; a world has at most 1,024 ranks)
abbrev pub group_limit : Option (List ℕ) → Option Refusal
group_limit None = None
group_limit (Some group) = broken (nat_lt 65535 (length group)) refusals.Limit

-- the limits that a call with a route meets (13): of the core, and of its frame
abbrev pub routed_limit : EngineState → core_calls.RoutedCall → Option Refusal
routed_limit e q = first_fault (limit_fault e.core q) (frame_limit e.sessions (call_frame e.core q))

-- of a send with a route: 2, 1, 3, 5, 11, 13
abbrev pub send_rules : EngineState → Send → RouteText → Option Refusal
send_rules e s r =
    first_fault (argument_fault e.core.place (core_calls.Isend (send_by s r)))
    (first_fault (broken (is_no_target (held_at (member_of e.groups) s.comm) s.target) refusals.Rank)
    (first_fault (broken (is_replaced e s.comm s.target) refusals.Replaced)
    (routed_limit e (core_calls.Isend (send_by s r)))))

-- of a receive with a route: 2, 1, 3, 5, 11, 13
abbrev pub receive_rules : EngineState → Receive → RouteText → Option Refusal
receive_rules e v r =
    first_fault (argument_fault e.core.place (core_calls.Irecv (receive_by v r)))
    (first_fault (broken (is_source_beyond (held_at (member_of e.groups) v.comm) v.source) refusals.Rank)
    (first_fault (broken (is_replaced e v.comm v.source) refusals.Replaced)
    (first_fault (group_limit r.group) (routed_limit e (core_calls.Irecv (receive_by v r))))))

-- of a probe with a route, by what it names: 3, 5, 11. Its group has at most 65,535 members, as for a receive
abbrev pub look_rules : EngineState → Probe → RouteText → Option Refusal
look_rules e p r =
    first_fault (argument_fault e.core.place (core_calls.Improbe (probe_by p r)))
    (first_fault (broken (is_source_beyond (held_at (member_of e.groups) p.comm) p.source) refusals.Rank)
    (first_fault (broken (is_replaced e p.comm p.source) refusals.Replaced) (group_limit r.group)))

-- of a matching probe with a route: the same, and then 13, where a message was found
abbrev pub probe_rules : EngineState → Probe → RouteText → Option Refusal
probe_rules e p r = first_fault (look_rules e p r) (routed_limit e (core_calls.Improbe (probe_by p r)))

-- of the receive of a message: 6, 2, 1, 13
abbrev pub message_rules : EngineState → core_calls.RoutedCall → Option Refusal
message_rules e q =
    first_fault (free_request_fault e.core q) (first_fault (argument_fault e.core.place q) (routed_limit e q))

-- where there is no route, the rank holds no such communicator (4)
abbrev pub on_route : Option RouteText → (RouteText → Option Refusal) → Option Refusal
on_route None rules = Some refusals.Communicator
on_route (Some r) rules = rules r

-- ---- collectives and questions

-- of what is handed in: 2, 1, 7, 9
abbrev pub handed_rules : EngineState → (comm : Option ℕ) → Entry → Option Refusal
handed_rules e comm x =
    option_map of_entry_rule
    (rule_in (limit_of e.sessions.place.message_limit) e.groups.collective.own (held_in e.groups.contexts comm) x)

-- of entering: 4, 2, 1, 7, 9, 11, 13
abbrev pub entry_rules : EngineState → (comm : Option ℕ) → Entry → Option Refusal
entry_rules e comm x =
    first_fault (broken (is_none (held_at (member_of e.groups) comm)) refusals.Communicator)
    (first_fault (handed_rules e comm x)
    (first_fault
    (broken (has_replaced (known_by e.sessions.known) (held_at (member_of e.groups) comm)) refusals.Replaced)
    (broken (limit_in e.groups.collective e.groups.contexts comm x) refusals.Limit)))

-- of a question: 4
abbrev pub question_rules : EngineState → (comm : Option ℕ) → Question → Option Refusal
question_rules e comm q =
    broken (is_none (held_at (member_of e.groups) comm) || asks_of_none (member_of e.groups) (question_of q))
    refusals.Communicator

-- ---- all calls

-- of a call while no earlier one is blocked
abbrev pub free_fault : EngineState → Call → Option Refusal
free_fault e (calls.Isend s) = on_route (route_at e.groups s.comm s.target) (send_rules e s)
free_fault e (calls.Irecv v) = on_route (route_at e.groups v.comm v.source) (receive_rules e v)
free_fault e (calls.Wait q) = free_request_fault e.core (core_calls.Wait q)
free_fault e (calls.Test q) = free_request_fault e.core (core_calls.Test q)
free_fault e (calls.Waitany qs) = free_request_fault e.core (core_calls.Waitany qs)
free_fault e (calls.Waitall qs) = free_request_fault e.core (core_calls.Waitall qs)
free_fault e (calls.Cancel q) = free_request_fault e.core (core_calls.Cancel q)
free_fault e (calls.Enter comm entry) = entry_rules e comm entry
free_fault e (calls.Ask comm question) = question_rules e comm question
free_fault e (calls.Iprobe p) = on_route (route_at e.groups p.comm p.source) (look_rules e p)
free_fault e (calls.Improbe p) = on_route (route_at e.groups p.comm p.source) (probe_rules e p)
free_fault e (calls.Mrecv message into) = message_rules e (core_calls.Mrecv message into)

-- whether an earlier call is blocked, on requests or in a collective
abbrev pub is_busy : EngineState → Bool
is_busy e = is_some e.core.blocked || is_within (member_of e.groups).present

-- The first rule or limit that a call meets, whatever memory there is: 6 while an earlier one is blocked
abbrev pub fault_of : EngineState → Call → Option Refusal
fault_of e call = first_fault (broken (is_busy e) refusals.Request) (free_fault e call)
