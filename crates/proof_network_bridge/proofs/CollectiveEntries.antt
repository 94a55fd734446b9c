-- A collective that is entered is followed.
use Rattle.std.proofs.Common.{◌≡◌, ℕ, ◌<◌, ◌≤◌, Bool, true, false, cond, ◌||◌, ◌==◌, List, [], ◌∷◌, ◌++◌, map, Option}
use Rattle.std.proofs.Common.{Some, None, is_some, not, option_map, slice_index, refl, sym, ap, subst, ◌∙◌, arith}
use Rattle.std.proofs.Common.{append-nil}
use Rattle.std.specs.Prelude.{is_none, slice_get}
use Rattle.std.specs.List.{AllByRecursion, list_any}
use Rattle.std.specs.Option.{option_or}
use Rattle.std.proofs.lemmas.Bool.{eqb-true}
use Rattle.std.proofs.lemmas.Option.{slice_get-map}
use Rattle.collective_progress.specs.Rules.{number_of_rule}
use Rattle.collective_progress.specs.declared.rules.Rule.{Rule}
use Rattle.collective_messages.specs.Notes.{member_at}
use Rattle.collective_messages.specs.declared.entry.Entry.{Entry}
use Rattle.collective_messages.specs.declared.message.CollectiveMessage.{CollectiveMessage}
use Rattle.collective_messages.specs.declared.refusal.CollectiveRefusal as notes
use Rattle.rendezvous.specs.PayloadState as payloads
use Rattle.rendezvous.specs.PayloadState.{after_announcing}
use Rattle.collectives.specs.Calls.{context_of, entry_fault, inside_of, limit_at, or_limit}
use Rattle.collectives.specs.State.{State, members_incarnation}
use Rattle.collective_steps.specs.Steps.{ranks_at, ranks_of}
use Rattle.collective_steps.specs.declared.step.Ending.{Ending}
use Rattle.communicators.proofs.RuleLaws.{entries_allowed, entry_judged}
use Rattle.communicators.specs.Members as communicators
use Rattle.communicators.specs.Members.{call_of, held_in, membership_of}
use Rattle.communicators.specs.Rules.{Allows, known_by, limit_in, no_requests, or_limited, rule_in}
use Rattle.context_agreement.specs.Communicators.{ContextsState}
use Rattle.context_agreement.specs.declared.communicator.Communicator as held
use Rattle.datagram.specs.Spellings.{FrameText}
use Rattle.engine_calls.specs.Calls.{reply_on_entry}
use Rattle.engine_calls.specs.EngineState.{EngineState, completion_by, completion_of, member_of}
use Rattle.engine_calls.specs.Faults.{broken, entry_rules, fault_of, is_busy}
use Rattle.engine_calls.specs.Frames.{all_can_go, step_payloads, step_sendings}
use Rattle.engine_calls.specs.Refusals.{of_entry_rule}
use Rattle.engine_calls.specs.declared.call.Call.TheVariants as calls
use Rattle.engine_calls.specs.declared.reply.Reply.{Reply}
use Rattle.incarnation.specs.declared.place.Place.{Place}
use Rattle.perfect_groups.specs.Calls.{Enter, held_at}
use Rattle.perfect_groups.specs.Communicators.{Communicator}
use Rattle.perfect_groups.specs.Events as seen
use Rattle.perfect_groups.specs.Events.{ready_by, told_of}
use Rattle.perfect_groups.specs.Faults.{fault_by, has_replaced, is_replaced, is_within}
use Rattle.proof_collective_steps.specs.RankLaws.{EntriesOfRanksFollow, Follows}
use Rattle.observation.specs.Endings.{ending_is}
use Rattle.proof_engine_view.specs.CoreViews.{IsShown}
use Rattle.proof_group_network.specs.Network.{Ask, GroupNetwork, happens, notify_all}
use Rattle.proof_link_truth.specs.Events.{EventsAreTrue, LeavesTrue}
use Rattle.link_truth.specs.Wire.{in_job, place_of}
use Rattle.endpoint_links.specs.Links.{accept_all}
use Rattle.proof_pure_network.specs.Network.{here}
use Rattle.proof_session_carrying.specs.Announcements.{announcements_in}
use Rattle.proof_session_carrying.specs.SessionViews.{say_all}
use Rattle.proof_session_carrying.specs.EventLaws.{Bring, EntriesAreCarried, all_carried}
use Rattle.proof_group_network.specs.SessionContents.{Sessions}
use Rattle.point_to_point_calls.specs.declared.refusal.Refusal.{Refusal}
use Rattle.point_to_point_calls.specs.declared.refusal.Refusal.TheVariants as refusals
use Rattle.point_to_point.specs.CoreState.{CoreState, with_numbers}
use Rattle.rendezvous.specs.declared.transfers.Numbers.{Numbers}
use Rattle.requests.specs.declared.answer.Answer.{Answer}
use Rattle.sessions.specs.SessionsState.{SessionsState}
use Rattle.vocabulary.specs.declared.endpoint.Endpoint.{Endpoint}
use Rattle.vocabulary.specs.declared.message_limit.MessageLimit.{MessageLimit}
use Rattle.proof_network_bridge.specs.GoingOn.{LeavesFollowedOn}
use Rattle.proof_network_bridge.specs.WorldViews.{IsClean, network_after}
use Rattle.observation.specs.Sessions.{sessions_in}
use Rattle.proof_network_bridge.specs.Payloads.{ArePayloads}
use Rattle.observation.specs.EngineCalls.{told_call, told_completion}
use Rattle.proof_network_bridge.proofs.Calls.{EntriesFollow}
use Rattle.proof_network_bridge.proofs.RankEvents as followed
use Rattle.proof_network_bridge.proofs.RankEvents.{IsHeldUnder, followed_after}
use Rattle.proof_network_bridge.proofs.Reasons.{allowed_faultless}
use Rattle.proof_network_bridge.proofs.Halves.{Keeps, neither_fault, sends_keep}
use Rattle.proof_network_bridge.proofs.StepFrames.{AreBounded, IsKnown, are_within, bring, meets_none, step_is_true}
use Rattle.proof_network_bridge.proofs.StepAnnouncements.{
  IsSending,
  IsStepSent,
  as_many,
  numbers_bounded_by,
  step_sent,
  texts_gone,
}
use Rattle.proof_network_bridge.proofs.StepTargets.{AreMembers, GoTo, prepared_go}
use Rattle.proof_network_bridge.proofs.Worlds.{is_at, only_out, place_alike, place_is}
use Rattle.vocabulary.specs.MessageLimits.{limit_of}

-- ---- what entering breaks

-- nothing: the rank isn't blocked, holds the communicator, hands in what it may, knows the members as they were, and
-- meets no limit
record IsAllowed (e : EngineState) (comm : Option ℕ) (x : Entry) : Type 0 where
  free : is_some e.core.blocked ≡ false
  outside : is_within (member_of e.groups).present ≡ false
  there : is_none (held_at (member_of e.groups) comm) ≡ false
  ruled : rule_in (limit_of e.sessions.place.message_limit) e.groups.collective.own (held_in e.groups.contexts comm)
      x ≡ None
  alike : has_replaced (known_by e.sessions.known) (held_at (member_of e.groups) comm) ≡ false
  unlimited : limit_in e.groups.collective e.groups.contexts comm x ≡ false

not_broken : (b : Bool) (rule : Refusal) → broken b rule ≡ None → b ≡ false
not_broken false rule h = refl
not_broken true rule h = absurd cc

not_ruled : (o : Option Rule) → option_map of_entry_rule o ≡ None → o ≡ None
not_ruled None h = refl
not_ruled (Some r) h = absurd cc

neither : (a b : Bool) → (a || b) ≡ false → (a ≡ false) × (b ≡ false)
neither false b h = (refl, h)
neither true b h = absurd cc

is_allowed : (e : EngineState) (comm : Option ℕ) (x : Entry) → fault_of e (calls.Enter comm x) ≡ None →
    IsAllowed e comm x
is_allowed e comm x none =
    let whole = neither_fault (broken (is_busy e) refusals.Request) (entry_rules e comm x) none in
    let busy = neither (is_some e.core.blocked) (is_within (member_of e.groups).present) (not_broken (is_busy e) refusals.Request whole.0) in
    let first = neither_fault (broken (is_none (held_at (member_of e.groups) comm)) refusals.Communicator) _ whole.1 in
    let second = neither_fault (option_map of_entry_rule (rule_in (limit_of e.sessions.place.message_limit) e.groups.collective.own (held_in e.groups.contexts comm) x)) _ first.1 in
    let third = neither_fault (broken (has_replaced (known_by e.sessions.known) (held_at (member_of e.groups) comm)) refusals.Replaced) _ second.1 in
    record {
      free = busy.0;
      outside = busy.1;
      there = not_broken _ refusals.Communicator first.0;
      ruled = not_ruled
          (rule_in (limit_of e.sessions.place.message_limit) e.groups.collective.own (held_in e.groups.contexts comm)
          x) second.0;
      alike = not_broken _ refusals.Replaced third.0;
      unlimited = not_broken _ refusals.Limit third.1;
    }

-- ---- by the rank's rules

-- 6, 4, those on what is handed in, and 11
no_fault : (b n : Bool) (o : Option ℕ) (r : Bool) → b ≡ false → n ≡ false → o ≡ None → r ≡ false →
    cond {A = Option ℕ} b (Some 6) (cond n (Some 4) (option_or o (cond r (Some 11) None))) ≡ None
no_fault false false None false p q t s = refl
no_fault true n o r p q t s = absurd cc
no_fault false true o r p q t s = absurd cc
no_fault false false (Some k) r p q t s = absurd cc
no_fault false false None true p q t s = absurd cc

no_entry_fault : (old : EngineState) (place : ℕ) (x : Entry) → IsAllowed old (Some place) x →
    entry_fault old.groups.collective old.groups.contexts place x ≡ None
no_entry_fault old place x allowed =
    ap (λ (o : Option notes.CollectiveRefusal). or_limit o (limit_at s h place x)) allows.0 ∙
    ap (λ (b : Bool). or_limit None b) allows.1
  where
    s : State
    s = old.groups.collective

    h : ContextsState
    h = old.groups.contexts

    b : Bool
    b = is_some old.core.blocked || is_within (membership_of s h).present

    free : b ≡ false
    free = ap (λ (t : Bool). t || is_within (membership_of s h).present) allowed.free ∙ allowed.outside

    judged : fault_by old.sessions.place.message_limit b no_requests s.own (known_by old.sessions.known)
        (membership_of s h)
        (Enter (Some place) (call_of x)) ≡ None
    judged =
        entry_judged old.sessions.place.message_limit b s h (known_by old.sessions.known) (Some place) x
        ∙ no_fault b (is_none (held_at (membership_of s h) (Some place)))
        (option_map number_of_rule
        (rule_in (limit_of old.sessions.place.message_limit) s.own (held_in h (Some place)) x))
        (has_replaced (known_by old.sessions.known) (held_at (membership_of s h) (Some place))) free allowed.there
        (ap (λ (o : Option Rule). option_map number_of_rule o) allowed.ruled) allowed.alike

    allows : Allows s h (Some place) x
    allows =
        entries_allowed old.sessions.place.message_limit s h (is_some old.core.blocked)
        (known_by old.sessions.known) (Some place) x
        (ap (λ (o : Option ℕ). or_limited o (limit_in s h (Some place) x)) judged ∙
        ap (λ (t : Bool). or_limited None t) allowed.unlimited)

-- ---- whom it tells

-- members of whom none is known otherwise
each_known : (known : List ℕ) (incarnation : ℕ) (group : List ℕ) →
    list_any (is_replaced (known_by known)) (map (member_at incarnation) group) ≡ false →
    AllByRecursion (λ r. IsKnown known (member_at incarnation r)) group
each_known known incarnation [] none = tt
each_known known incarnation (r ∷ rs) none =
    let parts = neither (is_replaced (known_by known) (member_at incarnation r)) _ none in
    (go (slice_index known r == incarnation) refl parts.0, each_known known incarnation rs parts.1)
  where
    go : (t : Bool) → (slice_index known r == incarnation) ≡ t → not (slice_index known r == incarnation) ≡ false →
        slice_index known r ≡ incarnation
    go true is h = eqb-true (slice_index known r) incarnation is
    go false is h = absurd (let z : not false ≡ false = ap not (sym is) ∙ h in cc)

-- the members of the communicator are known as they were
members_known : (old : EngineState) (place : ℕ) (x : Entry) → IsAllowed old (Some place) x →
    AreMembers (IsKnown old.sessions.known) (inside_of old.groups.collective old.groups.contexts place x)
    (ranks_at old.groups.contexts place)
members_known old place x allowed =
    go (slice_get old.groups.contexts.held place)
    (ap (λ (o : Option Communicator). has_replaced (known_by old.sessions.known) o)
    (sym (slice_get-map (communicators.communicator_of own) old.groups.contexts.held place)) ∙ allowed.alike)
  where
    own : Endpoint
    own = old.groups.collective.own

    go : (o : Option held.Communicator) →
        has_replaced (known_by old.sessions.known) (option_map (communicators.communicator_of own) o) ≡ false →
        AllByRecursion (λ r. IsKnown old.sessions.known (member_at (members_incarnation own (context_of o)) r))
        (ranks_of o)
    go None none = tt
    go (Some c) none = each_known old.sessions.known (members_incarnation own (context_of (Some c))) c.group none

-- ---- what is seen

-- what is told of entering is the call, with how it ended, if it did
told_entry : (e : Endpoint) (place : ℕ) (x : Entry) (ending : Option Ending) →
    told_of e (Some (Enter (Some place) (call_of x), None)) (ready_by (option_map ending_is ending) None) ≡
    told_call e (calls.Enter (Some place) x) (Some (reply_on_entry ending))
told_entry e place x None = refl
told_entry e place x (Some o) = refl

-- nothing is completed
no_completion : (e : Endpoint) (ended : Option Ending) (answer : Option Answer) → ended ≡ None → answer ≡ None →
    told_completion e (completion_by ended answer) ≡ []
no_completion e None None p q = refl
no_completion e (Some o) answer p q = absurd cc
no_completion e None (Some a) p q = absurd cc

-- ---- the call

pub entries_follow : EntriesOfRanksFollow → EntriesAreCarried → EventsAreTrue → EntriesFollow
entries_follow ranks carried truth n r engines datagrams history old mid comm x reply f there entered =
    subst (λ (es : List seen.Entry). LeavesFollowedOn n f.limit f.happenings engines datagrams r mid (history ++ es))
    told
    (followed_after n r engines datagrams history _ mid (Ask r (Enter (Some place) (call_of x)))
    (w.net.core e) w.net.link fo.member (notify_all w.notices e fo.out) _ _ sessions f fo.happened
    (carried n w (happens n w (Ask r (Enter (Some place) (call_of x)))) f.joined.said f.joined.texts f.joined.sessions e
    (w.net.core e) mid.groups.collective mid.groups.contexts None sent _ gone f.joined.between fo brought
    stepped.numbered)
    (only_out f.joined.sessions e (all_carried w.notices e fo.out gone)) leaves held_as stepped.grows kept refl old
    there keeps.place)
  where
    w : GroupNetwork
    w = network_after n f.limit f.happenings

    e : Endpoint
    e = here w.net r

    place : ℕ
    place = entered.place

    s : State
    s = old.groups.collective

    h : ContextsState
    h = old.groups.contexts

    sent : List CollectiveMessage
    sent = entered.step.messages

    shown : IsHeldUnder f.joined.sessions e old (w.net.core e) (w.member e)
    shown serial = followed.held_at n r engines datagrams w old f.joined there serial

    stands : (r < n) × (old.sessions.place ≡ in_job old.sessions.place.message_limit (place_of n e))
    stands = place_is n r engines datagrams w old f.joined there

    fine : fault_of old (calls.Enter (Some place) x) ≡ None
    fine = subst (λ (o : Option ℕ). fault_of old (calls.Enter o x) ≡ None) entered.named entered.allowed

    allowed : IsAllowed old (Some place) x
    allowed = is_allowed old (Some place) x fine

    fo : Follows n w (happens n w (Ask r (Enter (Some place) (call_of x)))) e (w.net.core e) w.net.link w.notices
        mid.groups.collective mid.groups.contexts None sent
        (told_of e (Some (Enter (Some place) (call_of x), None)) (ready_by (option_map ending_is entered.ending) None))
    fo =
        ranks n f.limit r f.happenings place (call_of x) x s h (entered.ending, entered.step) mid.groups.collective
        mid.groups.contexts (few n f.few) stands.0 refl (shown 0).groups
        (allowed_faultless n r engines datagrams history old (calls.Enter (Some place) x) f there fine).none
        (no_entry_fault old place x allowed) entered.enters (are_within sent entered.whole)
      where
        few : (n : ℕ) → n ≤ 1024 → n ≤ 65536
        few n le = omega (arith, le)

    -- the engine's limit, which is the network's
    l : MessageLimit
    l = old.sessions.place.message_limit

    limited : l ≡ w.net.message_limit
    limited = f.joined.limits r old there

    ns : List Numbers
    ns = old.core.transfers.numbers

    gone : List (Endpoint × FrameText)
    gone = texts_gone l old.sessions.known ns sent

    goes_to : GoTo (IsKnown old.sessions.known) sent
    goes_to = prepared_go (IsKnown old.sessions.known) s.own s.own (inside_of s h place x) h s.kept entered.step
        (members_known old place x allowed) refl entered.enters.0

    brought : Bring w.net.message_limit sent gone
    brought = subst (λ (limit : MessageLimit). Bring limit sent gone) limited
        (bring l old.sessions.known ns sent entered.whole goes_to)

    -- what the engine holds before it sends
    started : IsSending l n e old.sessions.known (w.net.core e) f.joined.sessions f.joined.said w.notices
        (with_numbers old.core ns) old.payloads
    started = record {
      placed = place_alike old.core.place old.sessions.place (place_of n e) (shown 0).placed stands.1;
      shown = λ serial. (shown serial).queues;
      many = λ d. as_many e d (f.joined.said e d) (w.notices e d).accepted (f.joined.between.brought e d);
      kept = subst
          (λ (limit : MessageLimit). ArePayloads limit f.joined.sessions f.joined.said e old.sessions.known
          old.payloads)
          (sym limited) (f.joined.payloads r old there);
    }

    can : all_can_go (in_job l (place_of n e)) ns sent ≡ true
    can = subst (λ (p : Place). all_can_go p ns sent ≡ true) stands.1
        (meets_none old.sessions ns None sent entered.goes).can

    stepped : IsStepSent l n e old.sessions.known (w.net.core e) f.joined.sessions f.joined.said w.notices ns old.core
        old.payloads sent fo.out
    stepped =
        step_sent l n e old.sessions.known (w.net.core e) f.joined.sessions f.joined.said w.notices ns old.core
        old.payloads sent fo.out started can fo.sendable goes_to fo.said

    bounded : AreBounded n ns
    bounded =
        numbers_bounded_by l n e old.sessions.known (w.net.core e) f.joined.sessions f.joined.said w.notices ns old.core
        old.payloads started

    leaves : LeavesTrue n (sessions_in engines) datagrams r mid.sessions (accept_all f.joined.texts e gone)
        w.net.current
    leaves =
        subst (λ (t : SessionsState). LeavesTrue n (sessions_in engines) datagrams r t
        (accept_all f.joined.texts e gone) w.net.current) (sym entered.sessions)
        (step_is_true truth n r (sessions_in engines) datagrams f.joined.texts w.net.current old.sessions None ns sent
        f.joined.links (is_at n r engines datagrams w old f.joined there) tt stands.1 bounded fo.sendable
        entered.whole entered.goes)

    keeps : Keeps old.sessions mid.sessions
    keeps = subst (λ (t : SessionsState). Keeps old.sessions t) (sym entered.sessions)
        (sends_keep old.sessions (step_sendings old.sessions.place ns sent))

    sessions : Sessions
    sessions = accept_all f.joined.sessions e (all_carried w.notices e fo.out gone)

    held_as : IsHeldUnder sessions e mid (w.net.core e) fo.member
    held_as serial = record {
      queues = subst (λ (known : List ℕ). IsShown (announcements_in serial sessions e) mid.core known (w.net.core e))
          (sym keeps.known)
          (subst (λ (c : CoreState). IsShown (announcements_in serial sessions e) c old.sessions.known (w.net.core e))
          (sym entered.core) (stepped.after.shown serial));
      groups = fo.shown;
      placed = ap (λ (c : CoreState). c.place) entered.core ∙ ((shown 0).placed ∙ sym keeps.place);
    }

    kept : ArePayloads w.net.message_limit sessions (say_all f.joined.said e sent) e mid.sessions.known mid.payloads
    kept = subst (λ (known : List ℕ). ArePayloads w.net.message_limit sessions (say_all f.joined.said e sent) e known
        mid.payloads)
        (sym keeps.known)
        (subst (λ (p : payloads.State). ArePayloads w.net.message_limit sessions (say_all f.joined.said e sent) e
        old.sessions.known p)
        (sym entered.payloads)
        (subst (λ (limit : MessageLimit). ArePayloads limit sessions (say_all f.joined.said e sent) e old.sessions.known
        (after_announcing old.payloads (step_payloads l ns sent))) limited stepped.after.kept))

    told : told_of e (Some (Enter (Some place) (call_of x), None)) (ready_by (option_map ending_is entered.ending) None)
        ≡ told_call old.sessions.place.endpoint (calls.Enter comm x) (Some reply) ++
        told_completion old.sessions.place.endpoint (completion_of mid)
    told =
        told_entry e place x entered.ending
        ∙ (ap (λ (o : Reply). told_call e (calls.Enter (Some place) x) (Some o)) (sym entered.replied)
        ∙ (ap (λ (o : Option ℕ). told_call e (calls.Enter o x) (Some reply)) (sym entered.named)
        ∙ (ap (λ (d : Endpoint). told_call d (calls.Enter comm x) (Some reply))
        (sym (ap (λ (p : Place). p.endpoint) stands.1))
        ∙ (sym (append-nil (told_call old.sessions.place.endpoint (calls.Enter comm x) (Some reply)))
        ∙ ap (λ (es : List seen.Entry). told_call old.sessions.place.endpoint (calls.Enter comm x) (Some reply) ++ es)
        (sym (no_completion old.sessions.place.endpoint mid.ended mid.core.completion (entered.ended ∙ clean.ended)
        (ap (λ (c : CoreState). c.completion) entered.core ∙ clean.completion)))))))
      where
        clean : IsClean old
        clean = f.joined.clean r old there
