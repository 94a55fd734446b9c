-- An engine with such a core judges each call as it did, but for limits.
use Rattle.std.proofs.Common.{◌≡◌, Bool, ◌||◌, Option, Some, None, if◌then◌else◌, refl, sym, ap, subst, inl, inr, ◌⊎◌}
use Rattle.communicators.specs.Routes.{RouteText}
use Rattle.engine_calls.specs.EngineState.{EngineState, member_of}
use Rattle.engine_calls.specs.Faults.{broken, free_fault, group_limit, is_replaced, look_rules, message_rules, on_route}
use Rattle.engine_calls.specs.Faults.{probe_rules, receive_rules, routed_limit, send_rules}
use Rattle.engine_calls.specs.Refusals.{first_fault}
use Rattle.engine_calls.specs.Routes.{probe_by, receive_by, route_at, send_by}
use Rattle.engine_calls.specs.declared.call.Call.{Call}
use Rattle.engine_calls.specs.declared.call.Call.TheVariants as calls
use Rattle.point_to_point_calls.specs.declared.call.Probe.{Probe}
use Rattle.point_to_point_calls.specs.declared.call.Receive.{Receive}
use Rattle.point_to_point_calls.specs.declared.call.Send.{Send}
use Rattle.perfect_groups.specs.Calls.{held_at}
use Rattle.perfect_groups.specs.Faults.{is_no_target, is_source_beyond}
use Rattle.proof_engine_faults.proofs.Calm.{message_alike, one_absent_alike, receive_alike}
use Rattle.proof_engine_faults.proofs.Rows.{calm_core}
use Rattle.proof_network_bridge.proofs.RoutedFaults.{routed_full}
use Rattle.point_to_point_calls.specs.CoreCalls as cores
use Rattle.point_to_point_calls.specs.declared.refusal.Refusal.{Refusal}
use Rattle.point_to_point_calls.specs.declared.refusal.Refusal.TheVariants as refusals
use Rattle.point_to_point.specs.Calls.{argument_fault}
use Rattle.point_to_point.specs.CoreState.{CoreState}
use Rattle.point_to_point.specs.Completions.{cancel_fault, wait_fault}
use Rattle.point_to_point.specs.Messages.{message_fault}
use Rattle.requests.specs.Completions.{awaited_requests}
use Rattle.requests.specs.Lists as lists
use Rattle.requests.specs.declared.awaited_requests.Awaited.{Awaited}
use Rattle.requests.specs.declared.awaited_requests.Awaited.TheVariants as awaiteds
use Rattle.requests.specs.declared.region.Region.{Region}
use Rattle.requests.specs.declared.table.Request.{Request}

-- the same engine with such a core
abbrev pub calm_engine : EngineState → EngineState
calm_engine e = record e { core = calm_core e.core }

-- no rule is broken; a limit may be met
abbrev pub IsFull : Option Refusal → Type 0
IsFull o = (o ≡ None) ⊎ (o ≡ Some refusals.Limit)

-- both break the same rule; or neither breaks one
pub data Alike (o p : Option Refusal) : Type 0 where
  Same : o ≡ p → Alike o p
  Full : IsFull o → IsFull p → Alike o p

-- a rule that both look at first
first_alike : (rule o p : Option Refusal) → Alike o p → Alike (first_fault rule o) (first_fault rule p)
first_alike None o p h = h
first_alike (Some x) o p h = Same refl

only_full : (o : Option Refusal) → ((x : Refusal) → o ≡ Some x → x ≡ refusals.Limit) → IsFull o
only_full None h = inl refl
only_full (Some x) h = inr (ap (λ (y : Refusal). Some y) (h x refl))

-- the limits of a call with a route
limits_alike : (e : EngineState) (q : cores.RoutedCall) → Alike (routed_limit e q) (routed_limit (calm_engine e) q)
limits_alike e q =
    Full (only_full (routed_limit e q) (routed_full e q))
    (only_full (routed_limit (calm_engine e) q) (routed_full (calm_engine e) q))

-- ---- point to point

send_alike : (e : EngineState) (s : Send) (r : RouteText) → Alike (send_rules e s r) (send_rules (calm_engine e) s r)
send_alike e s r =
    first_alike (argument_fault e.core.place q) _ _
    (first_alike (broken (is_no_target (held_at (member_of e.groups) s.comm) s.target) refusals.Rank) _ _
    (first_alike (broken (is_replaced e s.comm s.target) refusals.Replaced) _ _ (limits_alike e q)))
  where
    q : cores.RoutedCall
    q = cores.Isend (send_by s r)

receive_alike_by : (e : EngineState) (v : Receive) (r : RouteText) →
    Alike (receive_rules e v r) (receive_rules (calm_engine e) v r)
receive_alike_by e v r =
    first_alike (argument_fault e.core.place q) _ _
    (first_alike (broken (is_source_beyond (held_at (member_of e.groups) v.comm) v.source) refusals.Rank) _ _
    (first_alike (broken (is_replaced e v.comm v.source) refusals.Replaced) _ _
    (first_alike (group_limit r.group) _ _ (limits_alike e q))))
  where
    q : cores.RoutedCall
    q = cores.Irecv (receive_by v r)

probe_alike : (e : EngineState) (p : Probe) (r : RouteText) →
    Alike (probe_rules e p r) (probe_rules (calm_engine e) p r)
probe_alike e p r = first_alike (look_rules e p r) _ _ (limits_alike e (cores.Improbe (probe_by p r)))

-- ---- requests

wait_same : (c : CoreState) (a : Awaited) → wait_fault c a ≡ wait_fault (calm_core c) a
wait_same c a =
    sym (ap (λ (b : Bool). if b || lists.is_twice (awaited_requests a) then Some refusals.Request else None)
    (one_absent_alike c.slots (awaited_requests a)))

cancel_same : (c : CoreState) (q : Option Request) → cancel_fault c q ≡ cancel_fault (calm_core c) q
cancel_same c None = refl
cancel_same c (Some q) = sym (ap (λ (b : Bool). if b then None else Some refusals.Request) (receive_alike c.slots q))

message_same : (c : CoreState) (q : Option Request) → message_fault c q ≡ message_fault (calm_core c) q
message_same c None = refl
message_same c (Some q) = sym (ap (λ (b : Bool). if b then None else Some refusals.Request) (message_alike c.slots q))

message_rules_alike : (e : EngineState) (q : Option Request) (into : Region) →
    Alike (message_rules e (cores.Mrecv q into)) (message_rules (calm_engine e) (cores.Mrecv q into))
message_rules_alike e q into =
    subst (λ (o : Option Refusal). Alike (message_rules e call)
    (first_fault o (first_fault (argument_fault e.core.place call) (routed_limit (calm_engine e) call))))
    (message_same e.core q)
    (first_alike (message_fault e.core q) _ _
    (first_alike (argument_fault e.core.place call) _ _ (limits_alike e call)))
  where
    call : cores.RoutedCall
    call = cores.Mrecv q into

-- ---- all calls

pub judged_alike : (e : EngineState) (call : Call) → Alike (free_fault e call) (free_fault (calm_engine e) call)
judged_alike e (calls.Isend s) = go (route_at e.groups s.comm s.target)
  where
    go : (o : Option RouteText) → Alike (on_route o (send_rules e s)) (on_route o (send_rules (calm_engine e) s))
    go None = Same refl
    go (Some r) = send_alike e s r
judged_alike e (calls.Irecv v) = go (route_at e.groups v.comm v.source)
  where
    go : (o : Option RouteText) → Alike (on_route o (receive_rules e v)) (on_route o (receive_rules (calm_engine e) v))
    go None = Same refl
    go (Some r) = receive_alike_by e v r
judged_alike e (calls.Wait q) = Same (wait_same e.core (awaiteds.One q))
judged_alike e (calls.Test q) = Same (wait_same e.core (awaiteds.One q))
judged_alike e (calls.Waitany qs) = Same (wait_same e.core (awaiteds.AnyOf qs))
judged_alike e (calls.Waitall qs) = Same (wait_same e.core (awaiteds.AllOf qs))
judged_alike e (calls.Cancel q) = Same (cancel_same e.core q)
judged_alike e (calls.Enter comm x) = Same refl
judged_alike e (calls.Ask comm question) = Same refl
judged_alike e (calls.Iprobe p) = Same refl
judged_alike e (calls.Improbe p) = go (route_at e.groups p.comm p.source)
  where
    go : (o : Option RouteText) → Alike (on_route o (probe_rules e p)) (on_route o (probe_rules (calm_engine e) p))
    go None = Same refl
    go (Some r) = probe_alike e p r
judged_alike e (calls.Mrecv q into) = message_rules_alike e q into
