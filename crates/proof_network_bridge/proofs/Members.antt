-- What an engine keeps of communicators is what the member of its rank's endpoint holds.
use Rattle.std.proofs.Common.{◌≡◌, ℕ, ◌<◌, Bool, ◌||◌, List, [], ◌∷◌, map, Option, Some, None, is_some, slice_get, refl}
use Rattle.std.proofs.Common.{sym, ap, ◌∙◌}
use Rattle.std.specs.List.{AllByRecursion}
use Rattle.collective_messages.specs.declared.entry.Inside.{Inside}
use Rattle.communicators.specs.Members.{present_of}
use Rattle.context_agreement.specs.Communicators.{ContextsState}
use Rattle.engine_calls.specs.EngineState.{EngineState, GroupsState, member_of}
use Rattle.engine_calls.specs.Faults.{is_busy}
use Rattle.perfect_groups.specs.Calls.{held_at}
use Rattle.perfect_groups.specs.Communicators.{Communicator}
use Rattle.perfect_groups.specs.Faults.{is_blocked, is_within}
use Rattle.perfect_groups.specs.Membership.{Membership, Present}
use Rattle.perfect_queues.specs.Completions.{Unanswered}
use Rattle.perfect_queues.specs.Refusals.{is_held}
use Rattle.proof_collective_steps.specs.Counterparts.{communicator_of}
use Rattle.proof_collective_steps.specs.MemberViews as collectives
use Rattle.proof_collective_steps.specs.MemberViews.{IsPresent}
use Rattle.proof_engine_steps.proofs.ListsApart.{all_at}
use Rattle.proof_engine_view.specs.CoreViews.{IsBlocked, IsShown}
use Rattle.proof_engine_view.specs.Rows.{Row}
use Rattle.proof_engine_view.specs.Transfers.{Announcements}
use Rattle.proof_group_network.specs.Notices.{Member}
use Rattle.proof_group_network.specs.NoticesStand.{IsOfWorld}
use Rattle.proof_pure_network.specs.Core.{Core, view}
use Rattle.proof_pure_network.specs.WaitingMessages.{blank}
use Rattle.proof_queue_calls.specs.Halves.{AreInWorld}
use Rattle.requests.specs.declared.awaited_requests.Awaited as rank
use Rattle.vocabulary.specs.declared.endpoint.Endpoint.{Endpoint}

-- ---- what is held

-- the communicators of both are the same
pub held_same : (own : Endpoint) (g : GroupsState) (m : Member) →
    collectives.IsShown own g.collective g.contexts m None → m.membership.held ≡ (member_of g).held
held_same own g m s = s.held ∙ ap (λ (e : Endpoint). map (communicator_of e) g.contexts.held) (sym s.own)

-- so is the one at a place
pub named_same : (a b : Membership) (comm : Option ℕ) → a.held ≡ b.held → held_at a comm ≡ held_at b comm
named_same a b None h = refl
named_same a b (Some place) h = ap (λ (cs : List Communicator). slice_get cs place) h

-- members of communicators of ranks of world are ranks of world
in_world : (n : ℕ) (members : List Endpoint) (r x : ℕ) → AllByRecursion (λ (m : Endpoint). m.rank < n) members →
    slice_get (map (λ (m : Endpoint). m.rank) members) r ≡ Some x → x < n
in_world n members r x all at =
    all_at (λ (y : ℕ). y < n) (map (λ (m : Endpoint). m.rank) members) r x (ranks members all) at
  where
    ranks : (ms : List Endpoint) → AllByRecursion (λ (m : Endpoint). m.rank < n) ms →
        AllByRecursion (λ (y : ℕ). y < n) (map (λ (m : Endpoint). m.rank) ms)
    ranks [] h = tt
    ranks (m ∷ ms) h = (h.0, ranks ms h.1)

pub are_in_world : (n : ℕ) (m : Membership) → AllByRecursion (IsOfWorld n) m.held → AreInWorld n m
are_in_world n m all None c r x named at = absurd cc
are_in_world n m all (Some place) c r x named at =
    in_world n c.members r x (all_at (IsOfWorld n) m.held place c all named).there at

-- ---- whether an earlier call is blocked

within_by : (own e : Endpoint) (h : ContextsState) (o : Option Inside) (p : Option Present) → IsPresent own h o p →
    is_within p ≡ is_within (present_of e h o)
within_by own e h None p is = ap is_within is
within_by own e h (Some i) p is = ap is_within is.is

-- both are in a collective, or neither
pub within_same : (own : Endpoint) (g : GroupsState) (m : Member) →
    collectives.IsShown own g.collective g.contexts m None → is_within m.membership.present ≡
    is_within (member_of g).present
within_same own g m s = within_by own g.collective.own g.contexts g.collective.present m.membership.present s.present

blocked_by : (rows : List Row) (o : Option rank.Awaited) (b : Option Unanswered) → IsBlocked rows o b →
    is_held b ≡ is_some o
blocked_by rows None b is = ap is_held is
blocked_by rows (Some a) b is = ap is_held is.0

-- an earlier call of both is blocked, or none is
pub busy_same : (a : Announcements) (own : Endpoint) (e : EngineState) (core : Core) (m : Member) →
    IsShown a e.core e.sessions.known core → collectives.IsShown own e.groups.collective e.groups.contexts m None →
    is_blocked (view blank core) m.membership ≡ is_busy e
busy_same a own e core m shown groups =
    ap (λ (b : Bool). b || is_within m.membership.present)
    (blocked_by shown.rows e.core.blocked core.blocked shown.blocked)
    ∙ ap (λ (b : Bool). is_some e.core.blocked || b) (within_same own e.groups m groups)
