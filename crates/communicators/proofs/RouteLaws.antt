-- Calls of point to point on a communicator, as the queues see them.
use Rattle.std.proofs.Common.{◌≡◌, ℕ, Bool, true, false, ◌==◌, refl, sym, ap, ◌∙◌, List, [], ◌∷◌, map, Option, Some}
use Rattle.std.proofs.Common.{None, option_map, slice_get, if◌then◌else◌}
use Rattle.collective_messages.specs.Notes.{member_at}
use Rattle.collectives.specs.State.{State, members_incarnation}
use Rattle.communicators.proofs.PlaceLaws.{held_same}
use Rattle.communicators.specs.Members.{communicator_of, held_in, membership_of}
use Rattle.communicators.specs.Routes.{CallsAreRouted, RouteText, probe_by, receive_by, route_in, route_on}
use Rattle.context_agreement.specs.Communicators.{ContextsState}
use Rattle.context_agreement.specs.Numbers.{number_of}
use Rattle.context_agreement.specs.declared.communicator.Communicator as held
use Rattle.perfect_groups.specs.Calls.{held_at, in_world, probe_on, receive_on, rank_or_null}
use Rattle.perfect_groups.specs.Communicators.{Communicator, group_of}
use Rattle.perfect_queues.specs.Buffers.{Handed}
use Rattle.perfect_queues.specs.Calls as queues
use Rattle.perfect_queues.specs.Refusals.{world}
use Rattle.vocabulary.specs.declared.endpoint.Endpoint.{Endpoint}
use Rattle.vocabulary.specs.declared.envelope.Source.{Source}
use Rattle.vocabulary.specs.declared.envelope.Source.TheVariants.{Any, Null, Rank}
use Rattle.vocabulary.specs.declared.mode.Mode.{Mode}

-- the ranks of members at an incarnation
pub ranks_same : (i : ℕ) (group : List ℕ) → map (λ (m : Endpoint). m.rank) (map (member_at i) group) ≡ group
ranks_same i [] = refl
ranks_same i (r ∷ rs) = ap (λ (t : List ℕ). r ∷ t) (ranks_same i rs)

pub group_same : (e : Endpoint) (c : held.Communicator) → group_of (communicator_of e c) ≡ c.group
group_same e c = ranks_same (members_incarnation e (number_of c.context)) c.group

route_by : (e : Endpoint) (s : Source) (c : held.Communicator) → route_on s (communicator_of e c) ≡ route_in s c
route_by e Any c =
    ap (λ (g : List ℕ). record {
      context = number_of c.context;
      named = Any;
      group =
          if number_of c.context == world then None else Some g;
    }) (group_same e c)
route_by e Null c =
    ap (λ (g : List ℕ). record {
      context = number_of c.context;
      named = Null;
      group =
          if number_of c.context == world then None else Some g;
    }) (group_same e c)
route_by e (Rank r) c =
    ap (λ (g : List ℕ). record {
      context = number_of c.context;
      named = rank_or_null (slice_get g r);
      group = if number_of c.context == world then None else Some g;
    }) (group_same e c)

routes_by : (e : Endpoint) (s : Source) (o : Option held.Communicator) →
    option_map (route_on s) (option_map (communicator_of e) o) ≡ option_map (route_in s) o
routes_by e s None = refl
routes_by e s (Some c) = ap (λ (r : RouteText). Some r) (route_by e s c)

-- the route on the communicator at a place
pub route_same : (s : State) (h : ContextsState) (comm : Option ℕ) (named : Source) →
    option_map (route_on named) (held_at (membership_of s h) comm) ≡ option_map (route_in named) (held_in h comm)
route_same s h comm named = ap (λ (o : Option Communicator). option_map (route_on named) o) (held_same s h comm) ∙
    routes_by s.own named (held_in h comm)

sends_by : (o : Option Communicator) (named : Source) (mode : Mode) (tag : Option ℕ) (buffer : Handed) →
    option_map (λ c. queues.Isend mode c.context (in_world c named) tag buffer) o
    ≡ option_map (λ (r : RouteText). queues.Isend mode r.context r.named tag buffer) (option_map (route_on named) o)
sends_by None named mode tag buffer = refl
sends_by (Some c) named mode tag buffer = refl

receives_by : (o : Option Communicator) (named : Source) (tag : Option ℕ) (buffer : Handed) →
    option_map (λ c. queues.Irecv (receive_on c named tag buffer)) o ≡
    option_map (receive_by tag buffer) (option_map (route_on named) o)
receives_by None named tag buffer = refl
receives_by (Some c) named tag buffer = refl

looks_by : (o : Option Communicator) (named : Source) (tag : Option ℕ) →
    option_map (λ c. queues.Iprobe (probe_on c named tag)) o
    ≡ option_map (λ (r : RouteText). queues.Iprobe (probe_by tag r)) (option_map (route_on named) o)
looks_by None named tag = refl
looks_by (Some c) named tag = refl

searches_by : (o : Option Communicator) (named : Source) (tag : Option ℕ) →
    option_map (λ c. queues.Improbe (probe_on c named tag)) o
    ≡ option_map (λ (r : RouteText). queues.Improbe (probe_by tag r)) (option_map (route_on named) o)
searches_by None named tag = refl
searches_by (Some c) named tag = refl

pub calls_routed : CallsAreRouted
calls_routed m comm named mode tag buffer = (
  sends_by (held_at m comm) named mode tag buffer,
  receives_by (held_at m comm) named tag buffer,
  looks_by (held_at m comm) named tag,
  searches_by (held_at m comm) named tag,
)
