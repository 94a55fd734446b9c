-- What a call asks of the core, and its first rule or limit.
use Rattle.std.proofs.Common.{◌≡◌, ◌||◌, ℕ, Bool, true, false, List, Option, Some, None, refl, sym, ap, ap₂, subst}
use Rattle.std.proofs.Common.{◌∙◌, is_some, option_map}
use Rattle.std.specs.Prelude.{IfSome}
use Rattle.communicators.specs.Routes.{RouteText, route_text}
use Rattle.communicators.specs.declared.route.Route.{Route}
use Rattle.communicators.specs.Rules.{known_by}
use Rattle.perfect_groups.specs.Calls.{held_at}
use Rattle.perfect_groups.specs.Faults.{is_no_target, is_source_beyond, is_within, names_replaced}
use Rattle.point_to_point_calls.specs.CoreCalls.{RoutedCall}
use Rattle.point_to_point_calls.specs.CoreCalls as core_calls
use Rattle.point_to_point_calls.specs.declared.refusal.Refusal.{Refusal}
use Rattle.point_to_point_calls.specs.declared.refusal.Refusal.TheVariants as refusals
use Rattle.point_to_point.specs.Calls.{argument_fault, call_frame, free_request_fault, limit_fault, request_fault, request_fault_at}
use Rattle.point_to_point.specs.Messages.{message_fault, probe_rule, search_limit}
use Rattle.point_to_point_calls.specs.Calls.{IsWithin}
use Rattle.point_to_point_calls.specs.declared.call.CallRoute.{CallRoute}
use Rattle.point_to_point_calls.specs.declared.call.RoutedProbe.{RoutedProbe}
use Rattle.point_to_point_calls.specs.declared.call.RoutedReceive.{RoutedReceive}
use Rattle.point_to_point_calls.specs.declared.call.RoutedSend.{RoutedSend}
use Rattle.vocabulary.specs.declared.envelope.Source.{Source}
use Rattle.vocabulary.specs.declared.envelope.Source.TheVariants.{Any, Null, Rank}
use Rattle.point_to_point.specs.CoreState.{CoreState}
use Rattle.requests.specs.declared.awaited_requests.Awaited.{Awaited}
use Rattle.requests.specs.declared.region.Region.{Region}
use Rattle.requests.specs.declared.table.Request.{Request}
use Rattle.sessions.specs.SessionsState.{SessionsState}
use Rattle.engine_calls.proofs.Clear.{allowed_by, arguments_same, frames_same, is_clear, limits_same}
use Rattle.engine_calls.specs.Asks.{IsAsked, IsClear, IsOnRequests, IsProbed, asked_fault, call_of, engine_of, group_in}
use Rattle.engine_calls.specs.Asks.{group_of, route_probe, route_receive, route_send, rule_of_source, rule_of_target}
use Rattle.engine_calls.specs.Asks.{source_rule, target_rule, with_group}
use Rattle.engine_calls.specs.EngineState.{EngineState, GroupsState, Rest, member_of}
use Rattle.engine_calls.specs.Faults.{broken, fault_of, free_fault, group_limit, is_busy, on_route, probe_rules}
use Rattle.engine_calls.specs.Faults.{receive_rules, routed_limit, send_rules}
use Rattle.engine_calls.specs.Frames.{frame_limit}
use Rattle.engine_calls.specs.Refusals.{first_fault}
use Rattle.engine_calls.specs.Routes.{call_route, probe_by, receive_by, route_at, send_by}
use Rattle.engine_calls.specs.declared.call.Call.{Call}
use Rattle.engine_calls.specs.declared.call.Call.TheVariants as calls
use Rattle.point_to_point_calls.specs.declared.call.Probe.{Probe}
use Rattle.point_to_point_calls.specs.declared.call.Receive.{Receive}
use Rattle.point_to_point_calls.specs.declared.call.Send.{Send}

-- the option of a call of the core
abbrev some : RoutedCall → Option RoutedCall
some q = Some q

-- ---- an earlier call is blocked, or none

first_none : (a b : Bool) → (a || b) ≡ false → a ≡ false
first_none false b is = refl
first_none true b is = absurd cc

-- while a call is blocked, each one is refused so
pub busy_is : (e : EngineState) (call : Call) → is_busy e ≡ true → fault_of e call ≡ Some refusals.Request
busy_is e call busy = ap (λ (b : Bool). first_fault (broken b refusals.Request) (free_fault e call)) busy

-- and else by its own rules
pub free_is : (e : EngineState) (call : Call) → is_busy e ≡ false → fault_of e call ≡ free_fault e call
free_is e call free = ap (λ (b : Bool). first_fault (broken b refusals.Request) (free_fault e call)) free

requests_at : (a : Option Awaited) (c : CoreState) (q : RoutedCall) → is_some a ≡ false →
    request_fault_at a c q ≡ free_request_fault c q
requests_at None c q free = refl
requests_at (Some a) c q free = absurd cc

-- while none is blocked, the rules on requests are those of the call alone
pub requests_free : (c : CoreState) (b : Bool) (q : RoutedCall) → (is_some c.blocked || b) ≡ false →
    request_fault c q ≡ free_request_fault c q
requests_free c b q free = requests_at c.blocked c q (first_none (is_some c.blocked) b free)

-- no fault was found
pub no_fault : (o : Option Refusal) → ((why : Refusal) → o ≡ Some why → ⊥) → None ≡ o
no_fault None none = refl
no_fault (Some why) none = absurd (none why refl)

-- ---- a route

-- what is known of each route is known of this one
of_some : {A : Type 0} (P : A → Type 0) (o : Option A) (x : A) → o ≡ Some x → IfSome o P → P x
of_some P o x is held = subst (λ p. IfSome p P) is held

-- its rule is told by the route
target_same : (g : GroupsState) (known : List ℕ) (comm : Option ℕ) (named : Source) →
    rule_of_target (is_source_beyond (held_at (member_of g) comm) named)
    (names_replaced (known_by known) (held_at (member_of g) comm) named) named
    ≡ target_rule g known comm named
target_same g known comm Any = refl
target_same g known comm (Rank r) = refl
target_same g known comm Null = refl

pub target_is : (g : GroupsState) (known : List ℕ) (comm : Option ℕ) (named : Source) (beyond replaced : Bool)
    (rule : Option Refusal) → beyond ≡ is_source_beyond (held_at (member_of g) comm) named →
    replaced ≡ names_replaced (known_by known) (held_at (member_of g) comm) named →
    rule ≡ rule_of_target beyond replaced named → rule ≡ target_rule g known comm named
target_is g known comm named beyond replaced rule lacks left is =
    is ∙ ap₂ (λ (b p : Bool). rule_of_target b p named) lacks left ∙ target_same g known comm named

-- its rule is told by the route
pub source_is : (g : GroupsState) (known : List ℕ) (comm : Option ℕ) (named : Source) (r : RouteText)
    (beyond replaced : Bool) (rule : Option Refusal) → beyond ≡ is_source_beyond (held_at (member_of g) comm) named →
    replaced ≡ names_replaced (known_by known) (held_at (member_of g) comm) named →
    rule ≡ rule_of_source beyond replaced r.group → rule ≡ source_rule g known comm named r
source_is g known comm named r beyond replaced rule lacks left is =
    is ∙ ap₂ (λ (b p : Bool). rule_of_source b p r.group) lacks left

-- a receive on a route, before it has its group
abbrev pub receive_on : Receive → RouteText → RoutedReceive
receive_on v r = record { route = call_route r; group = None; receive = v }

-- a probe on a route, before it has its group
abbrev pub probe_on : Probe → RouteText → RoutedProbe
probe_on p r = record { route = call_route r; group = None; probe = p }

-- the incarnations that are known are those that the sessions know
pub known_same : (g : GroupsState) (comm : Option ℕ) (named : Source) (o : Option Route) (ks known : List ℕ) →
    ks ≡ known →
    IfSome o (λ r. r.is_replaced ≡ names_replaced (known_by ks) (held_at (member_of g) comm) named) →
    IfSome o (λ r. r.is_replaced ≡ names_replaced (known_by known) (held_at (member_of g) comm) named)
known_same g comm named o ks known is left =
    subst (λ (ns : List ℕ). IfSome o
    (λ r. r.is_replaced ≡ names_replaced (known_by ns) (held_at (member_of g) comm) named)) is left

-- whom a send names is judged by the route
pub send_ruled : (g : GroupsState) (known : List ℕ) (comm : Option ℕ) (named : Source) (o : Option Route) (x : Route)
    (rule : Option Refusal) → o ≡ Some x →
    IfSome o (λ r. r.is_beyond ≡ is_source_beyond (held_at (member_of g) comm) named) →
    IfSome o (λ r. r.is_replaced ≡ names_replaced (known_by known) (held_at (member_of g) comm) named) →
    rule ≡ rule_of_target x.is_beyond x.is_replaced named → rule ≡ target_rule g known comm named
send_ruled g known comm named o x rule is lacks left ruled =
    target_is g known comm named x.is_beyond x.is_replaced rule
    (of_some (λ r. r.is_beyond ≡ is_source_beyond (held_at (member_of g) comm) named) o x is lacks)
    (of_some (λ r. r.is_replaced ≡ names_replaced (known_by known) (held_at (member_of g) comm) named) o x is left) ruled

-- so is whom a receive or a probe names, with its group
pub source_ruled : (g : GroupsState) (known : List ℕ) (comm : Option ℕ) (named : Source) (o : Option Route) (x : Route)
    (rule : Option Refusal) → o ≡ Some x →
    IfSome o (λ r. r.is_beyond ≡ is_source_beyond (held_at (member_of g) comm) named) →
    IfSome o (λ r. r.is_replaced ≡ names_replaced (known_by known) (held_at (member_of g) comm) named) →
    rule ≡ rule_of_source x.is_beyond x.is_replaced (route_text x).group →
    rule ≡ source_rule g known comm named (route_text x)
source_ruled g known comm named o x rule is lacks left ruled =
    source_is g known comm named (route_text x) x.is_beyond x.is_replaced rule
    (of_some (λ r. r.is_beyond ≡ is_source_beyond (held_at (member_of g) comm) named) o x is lacks)
    (of_some (λ r. r.is_replaced ≡ names_replaced (known_by known) (held_at (member_of g) comm) named) o x is left) ruled

-- what a probe names is judged by the route
pub probe_ruled : (c : CoreState) (g : GroupsState) (s : SessionsState) (p : Probe) (o : Option Route) (x : Route)
    (fault : Option Refusal) → o ≡ Some x →
    IfSome o (λ r. r.is_beyond ≡ is_source_beyond (held_at (member_of g) p.comm) p.source) →
    IfSome o (λ r. r.is_replaced ≡ names_replaced (known_by s.known) (held_at (member_of g) p.comm) p.source) →
    fault ≡ first_fault (probe_rule c.place.size (route_text x).named p.tag)
    (rule_of_source x.is_beyond x.is_replaced (route_text x).group) →
    fault ≡ first_fault (argument_fault c.place (route_probe p (route_text x)))
    (source_rule g s.known p.comm p.source (route_text x))
probe_ruled c g s p o x fault is lacks left ruled =
    ruled ∙ ap (first_fault (probe_rule c.place.size (route_text x).named p.tag))
    (source_ruled g s.known p.comm p.source o x (rule_of_source x.is_beyond x.is_replaced (route_text x).group) is lacks
    left refl)

-- what is made of a route
pub send_made : (route : CallRoute) (v : Send) (r : RouteText) (a : RoutedSend) → route ≡ call_route r →
    a ≡ record { route = route; send = v } → a ≡ send_by v r
send_made route v r a is made = subst (λ (t : CallRoute). a ≡ record { route = t; send = v }) is made

pub receive_made : (route : CallRoute) (v : Receive) (r : RouteText) (a : RoutedReceive) → route ≡ call_route r →
    a ≡ record { route = route; group = None; receive = v } → a ≡ receive_on v r
receive_made route v r a is made = subst (λ (t : CallRoute). a ≡ record { route = t; group = None; receive = v }) is made

pub probe_made : (route : CallRoute) (v : Probe) (r : RouteText) (a : RoutedProbe) → route ≡ call_route r →
    a ≡ record { route = route; group = None; probe = v } → a ≡ probe_on v r
probe_made route v r a is made = subst (λ (t : CallRoute). a ≡ record { route = t; group = None; probe = v }) is made

-- ---- a send

joined : (r p l : Option Refusal) → first_fault r (first_fault p l) ≡ first_fault (first_fault r p) l
joined None p l = refl
joined (Some e) p l = refl

send_fault_is : (c : CoreState) (g : GroupsState) (rest : Rest) (s : SessionsState) (v : Send) (r : RouteText) →
    is_busy (engine_of c g rest s) ≡ false → route_at g v.comm v.target ≡ Some r →
    fault_of (engine_of c g rest s) (calls.Isend v) ≡
    asked_fault c s (target_rule g s.known v.comm v.target) (route_send v r)
send_fault_is c g rest s v r free route =
    free_is (engine_of c g rest s) (calls.Isend v) free
    ∙ ap (λ (o : Option RouteText). on_route o (send_rules (engine_of c g rest s) v)) route
    ∙ ap (first_fault (argument_fault c.place (core_calls.Isend (send_by v r))))
    (joined (broken (is_no_target (held_at (member_of g) v.comm) v.target) refusals.Rank)
    (broken (names_replaced (known_by s.known) (held_at (member_of g) v.comm) v.target) refusals.Replaced)
    (routed_limit (engine_of c g rest s) (core_calls.Isend (send_by v r))))

-- without a route it is refused with 4
pub unrouted_send : (c : CoreState) (g : GroupsState) (rest : Rest) (s : SessionsState) (v : Send) →
    is_busy (engine_of c g rest s) ≡ false → route_at g v.comm v.target ≡ None →
    fault_of (engine_of c g rest s) (calls.Isend v) ≡ Some refusals.Communicator
unrouted_send c g rest s v free route =
    free_is (engine_of c g rest s) (calls.Isend v) free ∙
    ap (λ (o : Option RouteText). on_route o (send_rules (engine_of c g rest s) v)) route

-- with a route it has this fault
send_faulty : (c : CoreState) (g : GroupsState) (s : SessionsState) (v : Send) (r : RouteText) (rule : Option Refusal)
    (a : RoutedSend) (o : Option Refusal) → (is_some c.blocked || is_within (member_of g).present) ≡ false →
    route_at g v.comm v.target ≡ Some r → rule ≡ target_rule g s.known v.comm v.target → a ≡ send_by v r →
    o ≡ asked_fault c s rule (core_calls.Isend a) →
    (rest : Rest) → fault_of (engine_of c g rest s) (calls.Isend v) ≡ o
send_faulty c g s v r rule a o free route ruled made is rest =
    send_fault_is c g rest s v r free route
    ∙ sym (is ∙ ap (λ (x : RoutedSend). asked_fault c s rule (core_calls.Isend x)) made
    ∙ ap (λ (x : Option Refusal). asked_fault c s x (route_send v r)) ruled)

pub send_refused : (c : CoreState) (g : GroupsState) (s : SessionsState) (v : Send) (r : RouteText)
    (rule : Option Refusal) (a : RoutedSend) (why : Refusal) (back : Send) →
    (is_some c.blocked || is_within (member_of g).present) ≡ false →
    route_at g v.comm v.target ≡ Some r → rule ≡ target_rule g s.known v.comm v.target → a ≡ send_by v r →
    Some why ≡ asked_fault c s rule (core_calls.Isend a) → back ≡ a.send →
    (rest : Rest) → (fault_of (engine_of c g rest s) (calls.Isend v) ≡ Some why) × (back ≡ v)
send_refused c g s v r rule a why back free route ruled made is handed rest = (
  send_faulty c g s v r rule a (Some why) free route ruled made is rest,
  handed ∙ ap (λ (x : RoutedSend). x.send) made,
)

-- or is asked for
pub send_asked : (c : CoreState) (g : GroupsState) (s : SessionsState) (v : Send) (r : RouteText)
    (rule : Option Refusal) (a : RoutedSend) → (is_some c.blocked || is_within (member_of g).present) ≡ false →
    route_at g v.comm v.target ≡ Some r → rule ≡ target_rule g s.known v.comm v.target → a ≡ send_by v r →
    None ≡ asked_fault c s rule (core_calls.Isend a) → IsWithin (core_calls.Isend a) →
    (rest : Rest) → IsAsked (engine_of c g rest s) (calls.Isend v) (core_calls.Isend a)
send_asked c g s v r rule a free route ruled made none within rest =
    record {
      allowed = send_faulty c g s v r rule a None free route ruled made none rest;
      back = ap (λ (x : RoutedSend). calls.Isend x.send) made;
      routed = ap (λ (o : Option RouteText). option_map (λ (t : RouteText). core_calls.Isend (send_by v t)) o) route
          ∙ sym (ap (λ (x : RoutedSend). some (core_calls.Isend x)) made);
      shareable = tt;
      within = within;
      clear = is_clear c s rule (core_calls.Isend a)
          (requests_free c (is_within (member_of g).present) (core_calls.Isend a) free) none;
    }

-- ---- a receive

by_parts : (a a2 b p g l f f2 : Option Refusal) → a2 ≡ a → f2 ≡ f →
    first_fault a2 (first_fault b (first_fault p (first_fault g (first_fault l f2))))
    ≡ first_fault a (first_fault (first_fault b (first_fault p g)) (first_fault l f))
by_parts a a2 b p g l f f2 arguments frame =
    ap (λ (o : Option Refusal). first_fault o (first_fault b (first_fault p (first_fault g (first_fault l f2)))))
    arguments
    ∙ ap (λ (o : Option Refusal). first_fault a (first_fault b (first_fault p (first_fault g (first_fault l o))))) frame
    ∙ ap (first_fault a) (regrouped b p g (first_fault l f))
  where
    regrouped : (b p g l : Option Refusal) → first_fault b (first_fault p (first_fault g l)) ≡
        first_fault (first_fault b (first_fault p g)) l
    regrouped None None g l = refl
    regrouped None (Some e) g l = refl
    regrouped (Some e) p g l = refl

receive_fault_is : (c : CoreState) (g : GroupsState) (rest : Rest) (s : SessionsState) (v : Receive) (r : RouteText) →
    is_busy (engine_of c g rest s) ≡ false → route_at g v.comm v.source ≡ Some r →
    fault_of (engine_of c g rest s) (calls.Irecv v) ≡
    asked_fault c s (source_rule g s.known v.comm v.source r) (route_receive v r)
receive_fault_is c g rest s v r free route =
    free_is (engine_of c g rest s) (calls.Irecv v) free
    ∙ ap (λ (o : Option RouteText). on_route o (receive_rules (engine_of c g rest s) v)) route
    ∙ by_parts _ _ (broken (is_source_beyond (held_at (member_of g) v.comm) v.source) refusals.Rank)
    (broken (names_replaced (known_by s.known) (held_at (member_of g) v.comm) v.source) refusals.Replaced)
    (group_limit r.group)
    (limit_fault c (route_receive v r)) _ _ (arguments_same c.place r.group (route_receive v r))
    (ap (frame_limit s) (frames_same c r.group (route_receive v r)))

-- without a route it is refused with 4
pub unrouted_receive : (c : CoreState) (g : GroupsState) (rest : Rest) (s : SessionsState) (v : Receive) →
    is_busy (engine_of c g rest s) ≡ false → route_at g v.comm v.source ≡ None →
    fault_of (engine_of c g rest s) (calls.Irecv v) ≡ Some refusals.Communicator
unrouted_receive c g rest s v free route =
    free_is (engine_of c g rest s) (calls.Irecv v) free
    ∙ ap (λ (o : Option RouteText). on_route o (receive_rules (engine_of c g rest s) v)) route

-- with a route it has this fault
receive_faulty : (c : CoreState) (g : GroupsState) (s : SessionsState) (v : Receive) (r : RouteText)
    (rule : Option Refusal) (a : RoutedReceive) (o : Option Refusal) →
    (is_some c.blocked || is_within (member_of g).present) ≡ false →
    route_at g v.comm v.source ≡ Some r → rule ≡ source_rule g s.known v.comm v.source r → a ≡ receive_on v r →
    o ≡ asked_fault c s rule (core_calls.Irecv a) →
    (rest : Rest) → fault_of (engine_of c g rest s) (calls.Irecv v) ≡ o
receive_faulty c g s v r rule a o free route ruled made is rest =
    receive_fault_is c g rest s v r free route
    ∙ sym (is ∙ ap (λ (x : RoutedReceive). asked_fault c s rule (core_calls.Irecv x)) made
    ∙ ap (λ (x : Option Refusal). asked_fault c s x (route_receive v r)) ruled)

pub receive_refused : (c : CoreState) (g : GroupsState) (s : SessionsState) (v : Receive) (r : RouteText)
    (rule : Option Refusal) (a : RoutedReceive) (why : Refusal) (back : Receive) →
    (is_some c.blocked || is_within (member_of g).present) ≡ false →
    route_at g v.comm v.source ≡ Some r → rule ≡ source_rule g s.known v.comm v.source r → a ≡ receive_on v r →
    Some why ≡ asked_fault c s rule (core_calls.Irecv a) → back ≡ a.receive →
    (rest : Rest) → (fault_of (engine_of c g rest s) (calls.Irecv v) ≡ Some why) × (back ≡ v)
receive_refused c g s v r rule a why back free route ruled made is handed rest = (
  receive_faulty c g s v r rule a (Some why) free route ruled made is rest,
  handed ∙ ap (λ (x : RoutedReceive). x.receive) made,
)

second_none : (a r l : Option Refusal) → first_fault a (first_fault r l) ≡ None → r ≡ None
second_none None None l is = refl
second_none None (Some e) l is = absurd cc
second_none (Some e) r l is = absurd cc

third_none : (b p g : Option Refusal) → first_fault b (first_fault p g) ≡ None → g ≡ None
third_none None None g is = is
third_none None (Some e) g is = absurd cc
third_none (Some e) p g is = absurd cc

-- a source that breaks no rule has a group that can be shared
pub source_shares : (g : GroupsState) (known : List ℕ) (comm : Option ℕ) (named : Source) (r : RouteText) →
    source_rule g known comm named r ≡ None → group_limit r.group ≡ None
source_shares g known comm named r none =
    third_none (broken (is_source_beyond (held_at (member_of g) comm) named) refusals.Rank)
    (broken (names_replaced (known_by known) (held_at (member_of g) comm) named) refusals.Replaced)
    (group_limit r.group) none

-- or is asked for
pub receive_asked : (c : CoreState) (g : GroupsState) (s : SessionsState) (v : Receive) (r : RouteText)
    (rule : Option Refusal) (a : RoutedReceive) → (is_some c.blocked || is_within (member_of g).present) ≡ false →
    route_at g v.comm v.source ≡ Some r → rule ≡ source_rule g s.known v.comm v.source r → a ≡ receive_on v r →
    None ≡ asked_fault c s rule (core_calls.Irecv a) →
    (rest : Rest) → IsAsked (engine_of c g rest s) (calls.Irecv v) (core_calls.Irecv a)
receive_asked c g s v r rule a free route ruled made none rest =
    subst (λ (x : RoutedReceive). IsAsked (engine_of c g rest s) (calls.Irecv v) (core_calls.Irecv x)) (sym made)
    (record {
      allowed = receive_faulty c g s v r rule a None free route ruled made none rest;
      back = refl;
      routed =
          ap (λ (o : Option RouteText). option_map (λ (t : RouteText). core_calls.Irecv (receive_by v t)) o) route
          ∙ sym (ap (λ (o : Option RouteText). some (with_group (group_in o) (route_receive v r))) route);
      shareable =
          ap (λ (o : Option RouteText). group_limit (group_in o)) route
          ∙ source_shares g s.known v.comm v.source r
          (sym ruled ∙ second_none _ rule _ (sym none));
      within = tt;
      clear =
          subst (λ (x : RoutedReceive). IsClear c s (core_calls.Irecv x)) made
          (is_clear c s rule (core_calls.Irecv a)
          (requests_free c (is_within (member_of g).present) (core_calls.Irecv a) free) none);
    })

-- and its group is the one of its route
pub receive_grouped : (g : GroupsState) (v : Receive) (r : RouteText) (a : RoutedReceive) →
    route_at g v.comm v.source ≡ Some r → a ≡ receive_on v r → group_of g (core_calls.Irecv a) ≡ r.group
receive_grouped g v r a route made =
    ap (λ (x : RoutedReceive). group_of g (core_calls.Irecv x)) made ∙ ap group_in route

-- ---- a matching probe

probe_parts : (a a2 b p g l l2 f f2 : Option Refusal) → a2 ≡ a → l2 ≡ l → f2 ≡ f →
    first_fault (first_fault a2 (first_fault b (first_fault p g))) (first_fault l2 f2)
    ≡ first_fault a (first_fault (first_fault b (first_fault p g)) (first_fault l f))
probe_parts None a2 b p g l l2 f f2 arguments limit frame =
    ap (λ (o : Option Refusal). first_fault (first_fault o (first_fault b (first_fault p g))) (first_fault l2 f2))
    arguments
    ∙ ap (λ (o : Option Refusal). first_fault (first_fault b (first_fault p g)) (first_fault o f2)) limit
    ∙ ap (λ (o : Option Refusal). first_fault (first_fault b (first_fault p g)) (first_fault l o)) frame
probe_parts (Some e) a2 b p g l l2 f f2 arguments limit frame =
    ap (λ (o : Option Refusal). first_fault (first_fault o (first_fault b (first_fault p g))) (first_fault l2 f2))
    arguments

probe_fault_is : (c : CoreState) (g : GroupsState) (rest : Rest) (s : SessionsState) (v : Probe) (r : RouteText) →
    is_busy (engine_of c g rest s) ≡ false → route_at g v.comm v.source ≡ Some r →
    fault_of (engine_of c g rest s) (calls.Improbe v) ≡
    asked_fault c s (source_rule g s.known v.comm v.source r) (route_probe v r)
probe_fault_is c g rest s v r free route =
    free_is (engine_of c g rest s) (calls.Improbe v) free
    ∙ ap (λ (o : Option RouteText). on_route o (probe_rules (engine_of c g rest s) v)) route
    ∙ probe_parts _ _ (broken (is_source_beyond (held_at (member_of g) v.comm) v.source) refusals.Rank)
    (broken (names_replaced (known_by s.known) (held_at (member_of g) v.comm) v.source) refusals.Replaced)
    (group_limit r.group) _ _ _ _
    (arguments_same c.place r.group (route_probe v r)) (limits_same c r.group (route_probe v r))
    (ap (frame_limit s) (frames_same c r.group (route_probe v r)))

-- without a route it is refused with 4
pub unrouted_probe : (c : CoreState) (g : GroupsState) (rest : Rest) (s : SessionsState) (v : Probe) →
    is_busy (engine_of c g rest s) ≡ false → route_at g v.comm v.source ≡ None →
    fault_of (engine_of c g rest s) (calls.Improbe v) ≡ Some refusals.Communicator
unrouted_probe c g rest s v free route =
    free_is (engine_of c g rest s) (calls.Improbe v) free ∙
    ap (λ (o : Option RouteText). on_route o (probe_rules (engine_of c g rest s) v)) route

-- where it goes on a route, it has the limit that it meets
pub probed_fault : (c : CoreState) (g : GroupsState) (s : SessionsState) (v : Probe) (r : RouteText) (a : RoutedProbe)
    (o : Option Refusal) → IsProbed c g s v r → a ≡ probe_on v r → o ≡ search_limit a.route.named c a →
    (rest : Rest) → fault_of (engine_of c g rest s) (calls.Improbe v) ≡ o
probed_fault c g s v r a o goes made is rest =
    probe_fault_is c g rest s v r goes.free goes.route_is
    ∙ behind _ _ _ goes.rules
    ∙ last_first (limit_fault c (route_probe v r))
    ∙ sym (is ∙ ap (λ (x : RoutedProbe). search_limit x.route.named c x) made)
  where
    behind : (a r l : Option Refusal) → first_fault a r ≡ None → first_fault a (first_fault r l) ≡ l
    behind None None l is = refl
    behind None (Some e) l is = absurd cc
    behind (Some e) r l is = absurd cc

    last_first : (l : Option Refusal) → first_fault l None ≡ l
    last_first None = refl
    last_first (Some e) = refl

-- where it meets none, it is asked for
pub probe_asked : (c : CoreState) (g : GroupsState) (s : SessionsState) (v : Probe) (r : RouteText) (a : RoutedProbe) →
    IsProbed c g s v r → a ≡ probe_on v r → None ≡ search_limit a.route.named c a →
    (rest : Rest) → IsAsked (engine_of c g rest s) (calls.Improbe v) (core_calls.Improbe a)
probe_asked c g s v r a goes made none rest =
    subst (λ (x : RoutedProbe). IsAsked (engine_of c g rest s) (calls.Improbe v) (core_calls.Improbe x)) (sym made)
    (record {
      allowed = probed_fault c g s v r a None goes made none rest;
      back = refl;
      routed =
          ap (λ (o : Option RouteText). option_map (λ (t : RouteText). core_calls.Improbe (probe_by v t)) o)
          goes.route_is
          ∙ sym (ap (λ (o : Option RouteText). some (with_group (group_in o) (route_probe v r))) goes.route_is);
      shareable =
          ap (λ (o : Option RouteText). group_limit (group_in o)) goes.route_is
          ∙ source_shares g s.known v.comm v.source r (last_none _ _ goes.rules);
      within = tt;
      clear = (
        allowed_by c (route_probe v r)
            (requests_free c (is_within (member_of g).present) (route_probe v r) goes.free)
            (front_none _ _ goes.rules)
            (sym (none ∙ ap (λ (x : RoutedProbe). search_limit x.route.named c x) made)),
        refl,
      );
    })
  where
    front_none : (a b : Option Refusal) → first_fault a b ≡ None → a ≡ None
    front_none None b is = refl
    front_none (Some e) b is = absurd cc

    last_none : (a b : Option Refusal) → first_fault a b ≡ None → b ≡ None
    last_none None b is = is
    last_none (Some e) b is = absurd cc

-- and its group is the one of its route
pub probe_grouped : (g : GroupsState) (v : Probe) (r : RouteText) (a : RoutedProbe) →
    route_at g v.comm v.source ≡ Some r → a ≡ probe_on v r → group_of g (core_calls.Improbe a) ≡ r.group
probe_grouped g v r a route made =
    ap (λ (x : RoutedProbe). group_of g (core_calls.Improbe x)) made ∙ ap group_in route

-- a probe that can't go so has this fault, whether it looks or takes out
pub probe_refused : (c : CoreState) (g : GroupsState) (s : SessionsState) (v : Probe) (r : RouteText) (why : Refusal) →
    (is_some c.blocked || is_within (member_of g).present) ≡ false → route_at g v.comm v.source ≡ Some r →
    Some why ≡ first_fault (argument_fault c.place (route_probe v r)) (source_rule g s.known v.comm v.source r) →
    (rest : Rest) → fault_of (engine_of c g rest s) (calls.Improbe v) ≡ Some why
probe_refused c g s v r why free route is rest =
    probe_fault_is c g rest s v r free route ∙
    stops (argument_fault c.place (route_probe v r)) (source_rule g s.known v.comm v.source r)
    (first_fault (limit_fault c (route_probe v r)) (frame_limit s (call_frame c (route_probe v r)))) (sym is)
  where
    stops : (a r l : Option Refusal) → first_fault a r ≡ Some why → first_fault a (first_fault r l) ≡ Some why
    stops None None l is = absurd cc
    stops None (Some e) l is = is
    stops (Some e) r l is = is

-- ---- the receive of a message

-- a request that is none is refused with 6
pub message_refused : (c : CoreState) (g : GroupsState) (s : SessionsState) (message : Option Request) (into : Region)
    (why : Refusal) → (is_some c.blocked || is_within (member_of g).present) ≡ false →
    message_fault c message ≡ Some why →
    (rest : Rest) → fault_of (engine_of c g rest s) (calls.Mrecv message into) ≡ Some why
message_refused c g s message into why free is rest =
    free_is (engine_of c g rest s) (calls.Mrecv message into) free
    ∙ ap (λ (x : Option Refusal). first_fault x (asked_fault c s None (core_calls.Mrecv message into))) is

-- and else it has this fault
pub message_faulty : (c : CoreState) (g : GroupsState) (s : SessionsState) (message : Option Request) (into : Region)
    (o : Option Refusal) → (is_some c.blocked || is_within (member_of g).present) ≡ false →
    message_fault c message ≡ None → o ≡ asked_fault c s None (core_calls.Mrecv message into) →
    (rest : Rest) → fault_of (engine_of c g rest s) (calls.Mrecv message into) ≡ o
message_faulty c g s message into o free none is rest =
    free_is (engine_of c g rest s) (calls.Mrecv message into) free
    ∙ ap (λ (x : Option Refusal). first_fault x (asked_fault c s None (core_calls.Mrecv message into))) none ∙ sym is

-- or is asked for
pub message_asked : (c : CoreState) (g : GroupsState) (s : SessionsState) (message : Option Request) (into : Region) →
    (is_some c.blocked || is_within (member_of g).present) ≡ false → message_fault c message ≡ None →
    None ≡ asked_fault c s None (core_calls.Mrecv message into) →
    (rest : Rest) → IsAsked (engine_of c g rest s) (calls.Mrecv message into) (core_calls.Mrecv message into)
message_asked c g s message into free none is rest =
    record {
      allowed = message_faulty c g s message into None free none is rest;
      back = refl;
      routed = refl;
      shareable = tt;
      within = tt;
      clear = is_clear c s None (core_calls.Mrecv message into)
          (requests_free c (is_within (member_of g).present) (core_calls.Mrecv message into) free ∙ none) is;
    }

-- ---- a call on requests

free_requests : (e : EngineState) (q : RoutedCall) → IsOnRequests q → free_fault e (call_of q) ≡
    free_request_fault e.core q
free_requests e (core_calls.Isend s) on = absurd on
free_requests e (core_calls.Irecv v) on = absurd on
free_requests e (core_calls.Wait q) on = refl
free_requests e (core_calls.Test q) on = refl
free_requests e (core_calls.Waitany qs) on = refl
free_requests e (core_calls.Waitall qs) on = refl
free_requests e (core_calls.Cancel q) on = refl
free_requests e (core_calls.Improbe p) on = absurd on
free_requests e (core_calls.Mrecv message into) on = absurd on

asked_by : (e : EngineState) (q : RoutedCall) → IsOnRequests q → fault_of e (call_of q) ≡ None →
    request_fault e.core q ≡ None →
    IsAsked e (call_of q) q
asked_by e (core_calls.Isend s) on allowed free = absurd on
asked_by e (core_calls.Irecv v) on allowed free = absurd on
asked_by e (core_calls.Wait q) on allowed free =
    record {
      allowed = allowed;
      back = refl;
      routed = refl;
      shareable = tt;
      within = tt;
      clear =
          (allowed_by e.core (core_calls.Wait q) free refl refl, refl);
    }
asked_by e (core_calls.Test q) on allowed free =
    record {
      allowed = allowed;
      back = refl;
      routed = refl;
      shareable = tt;
      within = tt;
      clear =
          (allowed_by e.core (core_calls.Test q) free refl refl, refl);
    }
asked_by e (core_calls.Waitany qs) on allowed free =
    record {
      allowed = allowed;
      back = refl;
      routed = refl;
      shareable = tt;
      within = tt;
      clear =
          (allowed_by e.core (core_calls.Waitany qs) free refl refl, refl);
    }
asked_by e (core_calls.Waitall qs) on allowed free =
    record {
      allowed = allowed;
      back = refl;
      routed = refl;
      shareable = tt;
      within = tt;
      clear =
          (allowed_by e.core (core_calls.Waitall qs) free refl refl, refl);
    }
asked_by e (core_calls.Cancel q) on allowed free =
    record {
      allowed = allowed;
      back = refl;
      routed = refl;
      shareable = tt;
      within = tt;
      clear =
          (allowed_by e.core (core_calls.Cancel q) free refl refl, refl);
    }
asked_by e (core_calls.Improbe p) on allowed free = absurd on
asked_by e (core_calls.Mrecv message into) on allowed free = absurd on

-- what is allowed is asked while no earlier call is blocked
not_busy : (b : Bool) (f : Option Refusal) → first_fault (broken b refusals.Request) f ≡ None → b ≡ false
not_busy true f is = absurd cc
not_busy false f is = refl

own_rule : (b : Bool) (f : Option Refusal) → first_fault (broken b refusals.Request) f ≡ None → f ≡ None
own_rule true f is = absurd cc
own_rule false f is = is

-- a call on requests that is allowed is asked
pub requests_asked : (e : EngineState) (q : RoutedCall) → IsOnRequests q → fault_of e (call_of q) ≡ None →
    IsAsked e (call_of q) q
requests_asked e q on allowed =
    asked_by e q on allowed
    (requests_free e.core (is_within (member_of e.groups).present) q
    (not_busy (is_busy e) (free_fault e (call_of q)) allowed)
    ∙ sym (free_requests e q on) ∙ own_rule (is_busy e) (free_fault e (call_of q)) allowed)

-- while no earlier call is blocked, none waits for requests
pub none_blocked : (a : Option Awaited) (b : Bool) → (is_some a || b) ≡ false → a ≡ None
none_blocked None b free = refl
none_blocked (Some a) b free = absurd cc
