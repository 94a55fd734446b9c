-- The rules on a communicator: told of what is held, and as the machine says them.
use Rattle.std.proofs.Common.{◌≡◌, ℕ, Bool, true, false, not, ◌&&◌, ◌||◌, ◌==◌, refl, sym, ap, ◌∙◌, List, [], ◌∷◌}
use Rattle.std.proofs.Common.{length, map, Option, Some, None, option_map, slice_get, nat_le}
use Rattle.std.specs.List.{list_any}
use Rattle.std.proofs.lemmas.List.{length-map}
use Rattle.std.proofs.lemmas.Option.{slice_get-map}
use Rattle.collective_messages.specs.Notes.{member_at}
use Rattle.collectives.specs.State.{State, members_incarnation}
use Rattle.communicators.proofs.PlaceLaws.{held_same}
use Rattle.communicators.specs.Members.{communicator_of, held_in, membership_of}
use Rattle.communicators.specs.Rules.{beyond_in, is_member_other, is_other, known_by, named_beyond, named_replaced}
use Rattle.communicators.specs.Rules.{replaced_at, replaced_in}
use Rattle.context_agreement.specs.Communicators.{ContextsState}
use Rattle.context_agreement.specs.Numbers.{number_of}
use Rattle.context_agreement.specs.declared.communicator.Communicator as held
use Rattle.perfect_groups.specs.Calls.{held_at}
use Rattle.perfect_groups.specs.Communicators.{Communicator}
use Rattle.perfect_groups.specs.Faults.{has_replaced, is_beyond, is_member_replaced, is_no_target, is_replaced}
use Rattle.perfect_groups.specs.Faults.{is_replaced_at, is_source_beyond, names_replaced}
use Rattle.perfect_queues.specs.Refusals.{world}
use Rattle.vocabulary.specs.declared.endpoint.Endpoint.{Endpoint}
use Rattle.vocabulary.specs.declared.envelope.Source.{Source}
use Rattle.vocabulary.specs.declared.envelope.Source.TheVariants.{Any, Null, Rank}

beyond_by : (e : Endpoint) (o : Option held.Communicator) (r : ℕ) → is_beyond (option_map (communicator_of e) o) r ≡
    beyond_in o r
beyond_by e None r = refl
beyond_by e (Some c) r =
    ap (λ n. nat_le n r) (length-map c.group (member_at (members_incarnation e (number_of c.context))))

-- no such rank
pub beyond_same : (s : State) (h : ContextsState) (comm : Option ℕ) (r : ℕ) →
    is_beyond (held_at (membership_of s h) comm) r ≡ beyond_in (held_in h comm) r
beyond_same s h comm r = ap (λ (o : Option Communicator). is_beyond o r) (held_same s h comm) ∙
    beyond_by s.own (held_in h comm) r

any_same : (known : List ℕ) (i : ℕ) (group : List ℕ) →
    list_any (is_replaced (known_by known)) (map (member_at i) group) ≡ list_any (is_other known i) group
any_same known i [] = refl
any_same known i (r ∷ rs) = ap (λ (t : Bool). is_other known i r || t) (any_same known i rs)

replaced_by : (e : Endpoint) (known : List ℕ) (o : Option held.Communicator) →
    has_replaced (known_by known) (option_map (communicator_of e) o) ≡ replaced_in e known o
replaced_by e known None = refl
replaced_by e known (Some c) = any_same known (members_incarnation e (number_of c.context)) c.group

-- a member that is known at another incarnation
pub replaced_same : (s : State) (h : ContextsState) (known : List ℕ) (comm : Option ℕ) →
    has_replaced (known_by known) (held_at (membership_of s h) comm) ≡ replaced_in s.own known (held_in h comm)
replaced_same s h known comm = ap (λ (o : Option Communicator). has_replaced (known_by known) o) (held_same s h comm) ∙
    replaced_by s.own known (held_in h comm)

member_by : (known : List ℕ) (i : ℕ) (o : Option ℕ) → is_member_replaced (known_by known) (option_map (member_at i) o) ≡
    is_member_other known i o
member_by known i None = refl
member_by known i (Some r) = refl

at_by : (e : Endpoint) (known : List ℕ) (o : Option held.Communicator) (r : ℕ) →
    is_replaced_at (known_by known) (option_map (communicator_of e) o) r ≡ replaced_at e known o r
at_by e known None r = refl
at_by e known (Some c) r =
    let i = members_incarnation e (number_of c.context) in
    ap (λ (t : Bool). not (number_of c.context == world) && t)
    (ap (λ (o : Option Endpoint). is_member_replaced (known_by known) o) (slice_get-map (member_at i) c.group r) ∙
    member_by known i (slice_get c.group r))

-- the same of the member with a rank
pub at_same : (s : State) (h : ContextsState) (known : List ℕ) (comm : Option ℕ) (r : ℕ) →
    is_replaced_at (known_by known) (held_at (membership_of s h) comm) r ≡ replaced_at s.own known (held_in h comm) r
at_same s h known comm r = ap (λ (o : Option Communicator). is_replaced_at (known_by known) o r) (held_same s h comm) ∙
    at_by s.own known (held_in h comm) r

-- whom a call names
pub named_beyond_same : (s : State) (h : ContextsState) (comm : Option ℕ) (named : Source) →
    is_source_beyond (held_at (membership_of s h) comm) named ≡ named_beyond (held_in h comm) named
named_beyond_same s h comm Any = refl
named_beyond_same s h comm Null = refl
named_beyond_same s h comm (Rank r) = beyond_same s h comm r

pub named_replaced_same : (s : State) (h : ContextsState) (known : List ℕ) (comm : Option ℕ) (named : Source) →
    names_replaced (known_by known) (held_at (membership_of s h) comm) named
    ≡ named_replaced s.own known (held_in h comm) named
named_replaced_same s h known comm Any = refl
named_replaced_same s h known comm Null = refl
named_replaced_same s h known comm (Rank r) = at_same s h known comm r
