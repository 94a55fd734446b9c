-- What a probe finds that takes nothing out, and its first rule.
use Rattle.std.proofs.Common.{◌≡◌, ◌≤◌, ◌||◌, ℕ, Bool, true, false, List, length, Option, Some, None, Ok, Err, refl}
use Rattle.std.proofs.Common.{sym, ap, subst, ◌∙◌, is_some, option_map}
use Rattle.std.specs.Prelude.{IfSome, nat_lt}
use Rattle.std.proofs.lemmas.Bool.{ltb-false}
use Rattle.communicators.specs.Routes.{RouteText}
use Rattle.match_queues.specs.declared.envelope.Message.{Message}
use Rattle.perfect_groups.specs.Faults.{is_within}
use Rattle.point_to_point_calls.specs.ReceiveMatches.{status_of}
use Rattle.point_to_point_calls.specs.declared.refusal.Refusal.{Refusal}
use Rattle.point_to_point_calls.specs.declared.refusal.Refusal.TheVariants as refusals
use Rattle.point_to_point.specs.Calls.{argument_fault}
use Rattle.point_to_point.specs.CoreState.{CoreState}
use Rattle.point_to_point.specs.Messages.{found_for, looked}
use Rattle.sessions.specs.SessionsState.{SessionsState}
use Rattle.communicator_members.specs.Statuses.{status_in}
use Rattle.vocabulary.specs.declared.envelope.Source.{Source}
use Rattle.vocabulary.specs.declared.envelope.Source.TheVariants as sources
use Rattle.vocabulary.specs.declared.envelope.Status.{Status}
use Rattle.engine_calls.proofs.Asks.{busy_is, free_is, source_shares}
use Rattle.engine_calls.specs.Asks.{IsProbed, LookGives, engine_of, route_probe, source_rule}
use Rattle.engine_calls.specs.Calls.{LookingGives, WhyRefused}
use Rattle.engine_calls.specs.EngineState.{EngineState, GroupsState, Rest, member_of}
use Rattle.engine_calls.specs.Faults.{broken, fault_of, group_limit, look_rules}
use Rattle.engine_calls.specs.Faults.{on_route}
use Rattle.engine_calls.specs.Refusals.{first_fault}
use Rattle.engine_calls.specs.Routes.{route_at}
use Rattle.engine_calls.specs.declared.call.Call.TheVariants as calls
use Rattle.point_to_point_calls.specs.declared.call.Probe.{Probe}
use Rattle.engine_calls.specs.declared.reply.Reply.TheVariants as replies

-- ---- its rule

-- while an earlier call is blocked (6)
pub busy_look : (c : CoreState) (g : GroupsState) (s : SessionsState) (p : Probe) →
    (is_some c.blocked || is_within (member_of g).present) ≡ true →
    (rest : Rest) → Some refusals.Request ≡ fault_of (engine_of c g rest s) (calls.Iprobe p)
busy_look c g s p busy rest = sym (busy_is (engine_of c g rest s) (calls.Iprobe p) busy)

-- without a route (4)
pub unrouted_look : (c : CoreState) (g : GroupsState) (s : SessionsState) (p : Probe) →
    (is_some c.blocked || is_within (member_of g).present) ≡ false →
    route_at g p.comm p.source ≡ None →
    (rest : Rest) → Some refusals.Communicator ≡ fault_of (engine_of c g rest s) (calls.Iprobe p)
unrouted_look c g s p free route rest =
    sym (free_is (engine_of c g rest s) (calls.Iprobe p) free ∙
    ap (λ (o : Option RouteText). on_route o (look_rules (engine_of c g rest s) p)) route)

-- with one, by what it names
pub routed_look : (c : CoreState) (g : GroupsState) (s : SessionsState) (p : Probe) (r : RouteText)
    (rule : Option Refusal) →
    (is_some c.blocked || is_within (member_of g).present) ≡ false → route_at g p.comm p.source ≡ Some r →
    rule ≡ first_fault (argument_fault c.place (route_probe p r)) (source_rule g s.known p.comm p.source r) →
    (rest : Rest) → rule ≡ fault_of (engine_of c g rest s) (calls.Iprobe p)
routed_look c g s p r rule free route is rest =
    is ∙ sym (free_is (engine_of c g rest s) (calls.Iprobe p) free ∙
    ap (λ (o : Option RouteText). on_route o (look_rules (engine_of c g rest s) p)) route)

-- ---- what it finds

-- the option of a status
abbrev some : Status → Option Status
some s = Some s

by_message : (group : Option (List ℕ)) (o : Option Message) →
    option_map (status_in group) (option_map (λ (m : Message). status_in None (status_of m)) o) ≡
    option_map (λ (m : Message). status_in group (status_of m)) o
by_message group None = refl
by_message group (Some m) = refl

-- the status of what the core finds, by the group of its communicator
looked_by : (source : Source) (c : CoreState) (tag : Option ℕ) (context : ℕ) (group : Option (List ℕ)) →
    option_map (status_in group) (looked c source tag context None) ≡ looked c source tag context group
looked_by sources.Null c tag context group = refl
looked_by sources.Any c tag context group = by_message group (found_for c sources.Any tag context)
looked_by (sources.Rank r) c tag context group = by_message group (found_for c (sources.Rank r) tag context)

-- a message is found
pub found_by : (c : CoreState) (source : Source) (tag : Option ℕ) (context : ℕ) (group : Option (List ℕ))
    (s t : Status) →
    Some s ≡ looked c source tag context None → t ≡ status_in group s → Some t ≡ looked c source tag context group
found_by c source tag context group s t found told =
    ap some told ∙ ap (option_map (status_in group)) found ∙ looked_by source c tag context group

-- or none is
pub none_found : (c : CoreState) (source : Source) (tag : Option ℕ) (context : ℕ) (group : Option (List ℕ)) →
    None ≡ looked c source tag context None →
    None ≡ looked c source tag context group
none_found c source tag context group none = ap (option_map (status_in group)) none ∙
    looked_by source c tag context group

-- ---- what follows of both

-- the option of what is found
abbrev whatever : Option Status → Option (Option Status)
whatever o = Some o

-- a probe that goes on a route breaks no rule
pub look_allowed : (c : CoreState) (g : GroupsState) (s : SessionsState) (p : Probe) (r : RouteText) →
    IsProbed c g s p r → (rest : Rest) → None ≡ fault_of (engine_of c g rest s) (calls.Iprobe p)
look_allowed c g s p r goes rest = routed_look c g s p r None goes.free goes.route_is (sym goes.rules) rest

-- what it finds is told
pub look_told : (c : CoreState) (g : GroupsState) (s : SessionsState) (p : Probe) (r : RouteText)
    (found : Option Status) → IsProbed c g s p r → found ≡ looked c r.named p.tag r.context r.group →
    (rest : Rest) → LookGives (engine_of c g rest s) p (Ok found)
look_told c g s p r found goes is rest = (
  sym (look_allowed c g s p r goes rest),
  ap (λ (o : Option RouteText). option_map (λ (t : RouteText). looked c t.named p.tag t.context t.group) o)
      goes.route_is ∙
      ap whatever (sym is),
)

last_none : (a b : Option Refusal) → first_fault a b ≡ None → b ≡ None
last_none None b is = is
last_none (Some e) b is = absurd cc

-- nor does its group meet the limit
pub look_shares : (c : CoreState) (g : GroupsState) (s : SessionsState) (p : Probe) (r : RouteText) →
    IsProbed c g s p r → group_limit r.group ≡ None
look_shares c g s p r goes = source_shares g s.known p.comm p.source r (last_none _ _ goes.rules)

-- a group that can be shared has at most 65,535 members
pub few_members : (group : Option (List ℕ)) → group_limit group ≡ None → IfSome group (λ ranks. length ranks ≤ 65535)
few_members None is = tt
few_members (Some ranks) is = within (nat_lt 65535 (length ranks)) refl is
  where
    within : (b : Bool) → nat_lt 65535 (length ranks) ≡ b → broken b refusals.Limit ≡ None → length ranks ≤ 65535
    within true large limit = absurd cc
    within false small limit = ltb-false 65535 (length ranks) small

-- ---- as the engine answers

-- what it finds
pub looking_gives : (e : EngineState) (p : Probe) (found : Option Status) → LookGives e p (Ok found) →
    LookingGives e p (replies.Probed found) e
looking_gives e p found is = record { allowed = is.0; unchanged = refl; found_is = is.1 }

-- or its first rule
pub looking_refused : (e : EngineState) (p : Probe) (why : Refusal) → LookGives e p (Err why) →
    LookingGives e p (replies.Refused why (calls.Iprobe p)) e
looking_refused e p why is =
    record {
      handed = refl;
      unchanged = refl;
      reason =
          subst (λ (o : Option Refusal). WhyRefused o e (calls.Iprobe p) why) (sym is) refl;
    }
