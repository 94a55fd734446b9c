-- What the core is asked by a call, and what becomes of its answer.
use Rattle.std.specs.Prelude.{◌≡◌, ◌<◌, ◌||◌, ℕ, Bool, false, IfSome, List, Option, Some, None, Result, Ok, Err}
use Rattle.std.specs.Prelude.{is_some, option_map}
use Rattle.communicators.specs.Members.{Held}
use Rattle.communicators.specs.Routes.{RouteText, route_text}
use Rattle.communicators.specs.Rules.{known_by}
use Rattle.communicators.specs.declared.route.Route.{Route}
use Rattle.datagram.specs.Spellings.{FrameFits, frame_text}
use Rattle.perfect_groups.specs.Calls.{held_at}
use Rattle.perfect_groups.specs.Faults.{is_no_target, is_source_beyond, is_within, names_replaced}
use Rattle.point_to_point_calls.specs.Calls as cores
use Rattle.point_to_point_calls.specs.CoreCalls.{RoutedCall}
use Rattle.point_to_point_calls.specs.CoreCalls as core_calls
use Rattle.point_to_point_calls.specs.declared.call.HandedBack.{HandedBack}
use Rattle.point_to_point_calls.specs.declared.refusal.Refusal.{Refusal}
use Rattle.point_to_point_calls.specs.declared.refusal.Refusal.TheVariants as refusals
use Rattle.point_to_point.specs.Calls.{argument_fault, call_fault, call_frame, limit_fault}
use Rattle.point_to_point.specs.CoreState.{CoreState}
use Rattle.point_to_point.specs.Messages.{looked, message_frame}
use Rattle.sessions.specs.SessionsState.{SessionsState}
use Rattle.vocabulary.specs.declared.envelope.Source.{Source}
use Rattle.vocabulary.specs.declared.envelope.Source.TheVariants.{Any, Null, Rank}
use Rattle.vocabulary.specs.declared.envelope.Status.{Status}
use Rattle.engine_calls.specs.EngineState.{EngineState, GroupsState, Rest, member_of}
use Rattle.engine_calls.specs.Faults.{broken, fault_of, group_limit}
use Rattle.engine_calls.specs.Frames.{frame_limit}
use Rattle.engine_calls.specs.Refusals.{first_fault}
use Rattle.engine_calls.specs.Routes.{call_route, core_call, route_at, send_by}
use Rattle.engine_calls.specs.declared.probes.JudgedProbe.{JudgedProbe}
use Rattle.engine_calls.specs.declared.receives.JudgedReceive.{JudgedReceive}
use Rattle.engine_calls.specs.declared.call.Call.{Call}
use Rattle.engine_calls.specs.declared.call.Call.TheVariants as calls
use Rattle.point_to_point_calls.specs.Frames.{addressed}
use Rattle.point_to_point_calls.specs.SendRules.{IsAddressed}
use Rattle.point_to_point_calls.specs.declared.call.MessageReceive.{MessageReceive}
use Rattle.point_to_point_calls.specs.declared.sends.AddressedSend.{AddressedSend}
use Rattle.requests.specs.declared.region.Region.{Region}
use Rattle.requests.specs.declared.table.Request.{Request}
use Rattle.point_to_point_calls.specs.declared.call.Probe.{Probe}
use Rattle.point_to_point_calls.specs.declared.call.Receive.{Receive}
use Rattle.point_to_point_calls.specs.declared.call.Send.{Send}

-- THE PARTS OF AN ENGINE

-- what its communicators are to the machine
abbrev pub groups_of : Held → GroupsState
groups_of h = record { collective = h.collective.state; contexts = h.contexts.state }

-- the engine of these parts
abbrev pub engine_of : CoreState → GroupsState → Rest → SessionsState → EngineState
engine_of c g rest s = record { core = c; groups = g; ended = rest.ended; payloads = rest.payloads; sessions = s }

-- WHAT THE CORE IS ASKED

-- the group of a route, if there is a route
abbrev pub group_in : Option RouteText → Option (List ℕ)
group_in None = None
group_in (Some r) = r.group

-- the group by which a receive on the communicator at a place has its status
abbrev pub group_at : GroupsState → (comm : Option ℕ) → Source → Option (List ℕ)
group_at g comm named = group_in (route_at g comm named)

-- the same call of the core, where a receive or a probe has this group
abbrev pub with_group : Option (List ℕ) → RoutedCall → RoutedCall
with_group group (core_calls.Isend s) = core_calls.Isend s
with_group group (core_calls.Irecv v) = core_calls.Irecv (record v { group = group })
with_group group (core_calls.Wait q) = core_calls.Wait q
with_group group (core_calls.Test q) = core_calls.Test q
with_group group (core_calls.Waitany qs) = core_calls.Waitany qs
with_group group (core_calls.Waitall qs) = core_calls.Waitall qs
with_group group (core_calls.Cancel q) = core_calls.Cancel q
with_group group (core_calls.Improbe p) = core_calls.Improbe (record p { group = group })
with_group group (core_calls.Mrecv message into) = core_calls.Mrecv message into

-- the group of a receive or a probe can be shared
abbrev pub IsShareable : Option (List ℕ) → RoutedCall → Type 0
IsShareable group (core_calls.Irecv v) = group_limit group ≡ None
IsShareable group (core_calls.Improbe p) = group_limit group ≡ None
IsShareable group q = Unit {0}

-- a call on requests alone: it hands nothing in
abbrev pub IsOnRequests : RoutedCall → Type 0
IsOnRequests (core_calls.Isend s) = ⊥
IsOnRequests (core_calls.Irecv v) = ⊥
IsOnRequests (core_calls.Improbe p) = ⊥
IsOnRequests (core_calls.Mrecv message into) = ⊥
IsOnRequests q = Unit {0}

-- the group by which a call has its status: that of the communicator that a receive or a probe names
abbrev pub group_of : GroupsState → RoutedCall → Option (List ℕ)
group_of g (core_calls.Irecv v) = group_at g v.receive.comm v.receive.source
group_of g (core_calls.Improbe p) = group_at g p.probe.comm p.probe.source
group_of g q = None

-- what a send asks on this route
abbrev pub route_send : Send → RouteText → RoutedCall
route_send s r = core_calls.Isend (send_by s r)

-- what a receive asks on this route, before it has its group
abbrev pub route_receive : Receive → RouteText → RoutedCall
route_receive v r = core_calls.Irecv (record { route = call_route r; group = None; receive = v })

-- what a matching probe asks on this route, before it has its group
abbrev pub route_probe : Probe → RouteText → RoutedCall
route_probe p r = core_calls.Improbe (record { route = call_route r; group = None; probe = p })

-- the call by which it is asked, as that was handed in
abbrev pub call_of : RoutedCall → Call
call_of (core_calls.Isend s) = calls.Isend s.send
call_of (core_calls.Irecv v) = calls.Irecv v.receive
call_of (core_calls.Wait q) = calls.Wait q
call_of (core_calls.Test q) = calls.Test q
call_of (core_calls.Waitany qs) = calls.Waitany qs
call_of (core_calls.Waitall qs) = calls.Waitall qs
call_of (core_calls.Cancel q) = calls.Cancel q
call_of (core_calls.Improbe p) = calls.Improbe p.probe
call_of (core_calls.Mrecv message into) = calls.Mrecv message into

-- ITS RULES

-- of the rank that a send names: 5 and 11
abbrev pub target_rule : GroupsState → (known : List ℕ) → (comm : Option ℕ) → Source → Option Refusal
target_rule g known comm named =
    first_fault (broken (is_no_target (held_at (member_of g) comm) named) refusals.Rank)
    (broken (names_replaced (known_by known) (held_at (member_of g) comm) named) refusals.Replaced)

-- of the rank that a receive or a probe names, and of the group by which it has its status: 5, 11 and 13
abbrev pub source_rule : GroupsState → (known : List ℕ) → (comm : Option ℕ) → Source → RouteText → Option Refusal
source_rule g known comm named r =
    first_fault (broken (is_source_beyond (held_at (member_of g) comm) named) refusals.Rank)
    (first_fault (broken (names_replaced (known_by known) (held_at (member_of g) comm) named) refusals.Replaced)
    (group_limit r.group))

-- so they are told by a route: what the communicator lacks, and who was replaced
abbrev pub rule_of_target : (beyond replaced : Bool) → Source → Option Refusal
rule_of_target beyond replaced Any = Some refusals.Rank
rule_of_target beyond replaced (Rank r) =
    first_fault (broken beyond refusals.Rank) (broken replaced refusals.Replaced)
rule_of_target beyond replaced Null = first_fault (broken beyond refusals.Rank) (broken replaced refusals.Replaced)

abbrev pub rule_of_source : (beyond replaced : Bool) → (group : Option (List ℕ)) → Option Refusal
rule_of_source beyond replaced group =
    first_fault (broken beyond refusals.Rank) (first_fault (broken replaced refusals.Replaced) (group_limit group))

-- the first rule or limit of what the core is asked, where this one comes behind those on what the call hands in
abbrev pub asked_fault : CoreState → SessionsState → (rule : Option Refusal) → RoutedCall → Option Refusal
asked_fault c s rule q =
    first_fault (argument_fault c.place q)
    (first_fault rule (first_fault (limit_fault c q) (frame_limit s (call_frame c q))))

-- the core breaks no rule by it, and meets no limit, nor does its frame
abbrev pub IsClear : CoreState → SessionsState → RoutedCall → Type 0
IsClear c s q = (call_fault c q ≡ None) × (frame_limit s (call_frame c q) ≡ None)

-- the call breaks no rule and meets no limit, and this is what the core is asked by it
pub record IsAsked (e : EngineState) (call : Call) (a : RoutedCall) : Type 0 where
  pub allowed : fault_of e call ≡ None
  pub back : call_of a ≡ call
  pub routed : core_call e.groups call ≡ Some (with_group (group_of e.groups a) a)
  pub shareable : IsShareable (group_of e.groups a) a
  pub within : cores.IsWithin a
  pub clear : IsClear e.core e.sessions a

-- a send comes back with its first rule or limit, or is addressed
abbrev pub SendJudged : EngineState → Send → Result AddressedSend (HandedBack Send) → Type 0
SendJudged e v (Ok a) = IsAsked e (calls.Isend v) (core_calls.Isend a.routed) × IsAddressed e.core.place a
SendJudged e v (Err h) = (fault_of e (calls.Isend v) ≡ Some h.refused) × (h.value ≡ v)

-- the group that is lent to a receive or a probe that was judged
abbrev pub receive_group : JudgedReceive → Option (List ℕ)
receive_group j = option_map (λ ranks. ranks.now) j.group

abbrev pub probe_group : JudgedProbe → Option (List ℕ)
probe_group j = option_map (λ ranks. ranks.now) j.group

-- a receive comes back so, or is asked for with the group of its communicator
abbrev pub ReceiveJudged : EngineState → Receive → Result JudgedReceive (HandedBack Receive) → Type 0
ReceiveJudged e v (Ok j) =
    IsAsked e (calls.Irecv v) (core_calls.Irecv j.sought.routed) ×
    (group_of e.groups (core_calls.Irecv j.sought.routed) ≡ receive_group j)
ReceiveJudged e v (Err h) = (fault_of e (calls.Irecv v) ≡ Some h.refused) × (h.value ≡ v)

-- a probe goes on this route: no earlier call is blocked, and it breaks no rule by what it names
pub record IsProbed (c : CoreState) (g : GroupsState) (s : SessionsState) (p : Probe) (r : RouteText) : Type 0 where
  pub free : (is_some c.blocked || is_within (member_of g).present) ≡ false
  pub route_is : route_at g p.comm p.source ≡ Some r
  pub rules : first_fault (argument_fault c.place (route_probe p r)) (source_rule g s.known p.comm p.source r) ≡ None

-- or whether it looks or takes out, this is its first rule
abbrev pub ProbeJudged : CoreState → GroupsState → SessionsState → Probe → Result Route Refusal → Type 0
ProbeJudged c g s p (Ok r) = IsProbed c g s p (route_text r)
ProbeJudged c g s p (Err why) =
    (rest : Rest) → (fault_of (engine_of c g rest s) (calls.Iprobe p) ≡ Some why) ×
    (fault_of (engine_of c g rest s) (calls.Improbe p) ≡ Some why)

-- a matching probe has this first rule or limit, or is asked for with the group of its communicator
abbrev pub SearchJudged : EngineState → Probe → Result JudgedProbe Refusal → Type 0
SearchJudged e p (Ok j) =
    IsAsked e (calls.Improbe p) (core_calls.Improbe j.sought.routed) ×
    (group_of e.groups (core_calls.Improbe j.sought.routed) ≡ probe_group j)
SearchJudged e p (Err why) = fault_of e (calls.Improbe p) ≡ Some why

-- this frame answers the sender of a message that is received
pub record IsAnswering (c : CoreState) (m : MessageReceive) : Type 0 where
  pub answer_is : addressed m.answer ≡ message_frame c m.message m.into
  pub fits : IfSome m.answer (λ a. FrameFits (frame_text a.frame))
  pub there : IfSome m.answer (λ a. a.target < c.place.size)

-- the receive of a message comes back with its first rule or limit, or is asked for
abbrev pub MessageJudged : EngineState → (message : Option Request) → Region →
    Result MessageReceive (HandedBack Region) → Type 0
MessageJudged e message into (Ok m) = IsAsked e (calls.Mrecv message into) (core_calls.Mrecv m.message m.into)
MessageJudged e message into (Err h) = (fault_of e (calls.Mrecv message into) ≡ Some h.refused) × (h.value ≡ into)

-- A probe that takes nothing out is refused by its first rule, whatever memory there is; or this is what such a receive
-- would take now, with the status by the group of its communicator
abbrev pub LookGives : EngineState → Probe → Result (Option Status) Refusal → Type 0
LookGives e p (Err why) = fault_of e (calls.Iprobe p) ≡ Some why
LookGives e p (Ok found) =
    (fault_of e (calls.Iprobe p) ≡ None)
    × (option_map (λ r. looked e.core r.named p.tag r.context r.group) (route_at e.groups p.comm p.source) ≡ Some found)
