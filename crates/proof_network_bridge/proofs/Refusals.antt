-- Why calls are refused, and that one that is taken has no fault: each kind of call, while no earlier one is blocked.
use Rattle.std.proofs.Common.{◌≡◌, ℕ, Bool, true, false, ◌&&◌, ◌||◌, cond, if◌then◌else◌, List, [], ◌∷◌, Option, Some}
use Rattle.std.proofs.Common.{None, option_map, refl, sym, ap, ◌∙◌, subst, inl, inr}
use Rattle.std.specs.Prelude.{is_none, slice_get}
use Rattle.std.specs.Option.{option_or}
use Rattle.collective_progress.specs.Rules.{number_of_rule}
use Rattle.collective_progress.specs.declared.rules.Rule.{Rule}
use Rattle.collective_progress.specs.declared.rules.Rule.TheVariants as entry_faults
use Rattle.collective_messages.specs.declared.entry.Entry.{Entry}
use Rattle.communicators.proofs.RuleLaws.{entry_judged, question_judged}
use Rattle.communicators.specs.Members.{call_of, held_in}
use Rattle.communicators.specs.Questions.{question_of}
use Rattle.communicators.specs.Routes.{RouteText, route_on}
use Rattle.communicators.specs.Rules.{known_by, limit_in, rule_in}
use Rattle.communicators.specs.declared.question.Question.{Question}
use Rattle.communicators.specs.declared.question.Question.TheVariants as questions
use Rattle.engine_calls.specs.Calls.{LacksRoom, WhyRefused}
use Rattle.engine_calls.specs.EngineState.{EngineState, member_of}
use Rattle.engine_calls.specs.Faults.{broken, free_fault, group_limit, is_replaced, on_route, probe_rules}
use Rattle.engine_calls.specs.Faults.{receive_rules, routed_limit, send_rules}
use Rattle.engine_calls.specs.Refusals.{first_fault, of_entry_rule}
use Rattle.engine_calls.specs.Routes.{probe_by, receive_by, send_by}
use Rattle.engine_calls.specs.declared.call.Call as engine
use Rattle.engine_calls.specs.declared.call.Call.TheVariants as calls
use Rattle.point_to_point_calls.specs.declared.call.Probe.{Probe}
use Rattle.point_to_point_calls.specs.declared.call.Receive.{Receive}
use Rattle.point_to_point_calls.specs.declared.call.Send.{Send}
use Rattle.perfect_groups.specs.Calls.{Call, Enter, Improbe, Inquire, Irecv, Isend, Mrecv}
use Rattle.perfect_groups.specs.Calls.{held_at, in_world, probe_on, queue_call, receive_on}
use Rattle.perfect_groups.specs.Collectives.{CollectiveCall, part_of}
use Rattle.perfect_groups.specs.Communicators.{Communicator}
use Rattle.perfect_groups.specs.Faults.{asks_of_none, fault, fault_by, has_replaced, is_beyond, is_blocked}
use Rattle.perfect_groups.specs.Faults.{is_no_target, is_rooted, is_source_beyond, is_within, names_replaced}
use Rattle.perfect_groups.specs.Faults.{wrong_block, wrong_communicator, wrong_count, wrong_data, wrong_incarnation}
use Rattle.perfect_groups.specs.Faults.{wrong_operation, wrong_rank, wrong_request, wrong_root, wrong_tag, wrong_type}
use Rattle.perfect_groups.specs.Membership.{Membership}
use Rattle.perfect_groups.specs.Operations.{is_undefined}
use Rattle.perfect_queues.specs.Calls as queues
use Rattle.perfect_queues.specs.Buffers.{Handed}
use Rattle.perfect_queues.specs.Refusals as rules
use Rattle.perfect_queues.specs.Refusals.{Standing, is_held, standing}
use Rattle.perfect_queues.specs.State.{Local}
use Rattle.proof_engine_steps.proofs.RefusedCalls.{allowed_calls_are_faultless, faults_have_reasons, room_is_a_reason}
use Rattle.proof_engine_steps.proofs.RequestStarts.{core_free}
use Rattle.proof_engine_steps.specs.Refusals.{HasReason}
use Rattle.observation.specs.Reasons.{IsOutOfRoom, IsReason, MachinesFault, NoRoom}
use Rattle.proof_engine_view.specs.Faults.{queue_fault}
use Rattle.observation.specs.CoreCalls as in_queues
use Rattle.proof_engine_view.specs.Transfers.{Announcements}
use Rattle.proof_network_bridge.proofs.Halves.{neither_fault}
use Rattle.proof_network_bridge.proofs.Members.{named_same}
use Rattle.proof_network_bridge.proofs.RequestRefusals.{as_call, cancel_found, held_alone, requests_faultless}
use Rattle.proof_network_bridge.proofs.RequestRefusals.{requests_reason, test_found, wait_found}
use Rattle.proof_network_bridge.proofs.RoutedFaults.{IsFree, fault_cut, group_full, group_routed_full, or_fault}
use Rattle.proof_network_bridge.proofs.RoutedFaults.{routed_full}
use Rattle.proof_network_bridge.proofs.RoutedFaults.{rule_broken, rule_kept}
use Rattle.observation.specs.Faults.{IsFaultless}
use Rattle.observation.specs.EngineCalls.{call_meant, call_seen}
use Rattle.proof_pure_network.specs.Core.{Core, view}
use Rattle.proof_pure_network.specs.WaitingMessages.{blank}
use Rattle.point_to_point_calls.specs.Refusals.{number_of_refusal}
use Rattle.point_to_point_calls.specs.CoreCalls as core_calls
use Rattle.point_to_point_calls.specs.declared.refusal.Refusal.{Refusal}
use Rattle.point_to_point_calls.specs.declared.refusal.Refusal.TheVariants as refusals
use Rattle.point_to_point_calls.specs.FrameNews.{first_of}
use Rattle.point_to_point.specs.Calls.{argument_fault, call_fault, fault_at, free_request_fault}
use Rattle.requests.specs.Regions.{handed_of}
use Rattle.requests.specs.declared.region.Region.{Region}
use Rattle.requests.specs.declared.awaited_requests.Awaited.{Awaited}
use Rattle.requests.specs.declared.awaited_requests.Awaited.TheVariants as awaiteds
use Rattle.requests.specs.declared.table.Request.{Request}
use Rattle.incarnation.specs.declared.place.Place.{Place}
use Rattle.vocabulary.specs.declared.envelope.Source.{Source}
use Rattle.vocabulary.specs.declared.endpoint.Endpoint.{Endpoint}
use Rattle.vocabulary.specs.MessageLimits.{limit_of}
use Rattle.vocabulary.specs.declared.message_limit.MessageLimit.{MessageLimit}

-- what the machine finds is the refusal's number
pub by_rule : (found : Option ℕ) (x why : Refusal) → why ≡ x → found ≡ Some (number_of_refusal x) → IsReason found why
by_rule found x why is h = MachinesFault (h ∙ ap (λ (y : Refusal). Some (number_of_refusal y)) (sym is))

-- ---- POINT TO POINT

-- a call with a route that is refused
routed_reason : (a : Announcements) (own : Endpoint) (e : EngineState) (core : Core) (m : Membership)
    (call : engine.Call) (q : core_calls.RoutedCall) (c : Call) (five eleven : Bool) (limit : Option Refusal)
    (why : Refusal) → IsFree a e core m → queue_call m c ≡ Some (in_queues.call_meant e.core q) →
    in_queues.call_meant e.core q ≡ in_queues.call_seen q → free_request_fault e.core q ≡ None →
    wrong_rank m c ≡ five → wrong_incarnation core.known m c ≡ eleven →
    ((x : Refusal) → limit ≡ Some x → x ≡ refusals.Limit) → (LacksRoom e call why → IsOutOfRoom why) →
    WhyRefused
    (first_fault (argument_fault e.core.place q)
    (first_fault (broken five refusals.Rank) (first_fault (broken eleven refusals.Replaced) limit))) e call why →
    IsReason (fault own (view blank core) m c) why
routed_reason a own e core m call q c five eleven limit why free routed same requests is_five is_eleven full lacks
    reason = by_argument (argument_fault e.core.place q) refl reason
  where
    found : Option ℕ
    found = fault own (view blank core) m c

    found_is : (o : Option ℕ) → queue_fault e.core.place (view blank core) (in_queues.call_meant e.core q) ≡ o →
        found ≡ or_fault o (rules.first_fault ((five, 5) ∷ (eleven, 11) ∷ []))
    found_is o is =
        fault_cut a own e core m c (in_queues.call_meant e.core q) free routed
        ∙ ap (λ (p : Option ℕ). or_fault p
        (rules.first_fault ((wrong_rank m c, 5) ∷ (wrong_incarnation core.known m c, 11) ∷ []))) is
        ∙ ap (λ (b : Bool). or_fault o (rules.first_fault ((b, 5) ∷ (wrong_incarnation core.known m c, 11) ∷ [])))
        is_five
        ∙ ap (λ (b : Bool). or_fault o (rules.first_fault ((five, 5) ∷ (b, 11) ∷ []))) is_eleven

    by_limit : (o : Option Refusal) → ((x : Refusal) → o ≡ Some x → x ≡ refusals.Limit) → found ≡ None →
        WhyRefused o e call why → IsReason found why
    by_limit (Some x) is none because = NoRoom (inl (because ∙ is x refl)) none
    by_limit None is none because = NoRoom (lacks because) none

    by_rank : (b d : Bool) → found ≡ rules.first_fault ((b, 5) ∷ (d, 11) ∷ []) →
        WhyRefused (first_fault (broken b refusals.Rank) (first_fault (broken d refusals.Replaced) limit)) e call why →
        IsReason found why
    by_rank true d is because = by_rule found refusals.Rank why because is
    by_rank false true is because = by_rule found refusals.Replaced why because is
    by_rank false false is because = by_limit limit full is because

    by_argument : (o : Option Refusal) → argument_fault e.core.place q ≡ o →
        WhyRefused
        (first_fault o
        (first_fault (broken five refusals.Rank) (first_fault (broken eleven refusals.Replaced) limit))) e call
        why → IsReason found why
    by_argument (Some x) is because =
        by_rule found x why because
        (found_is (Some (number_of_refusal x)) (rule_broken a e core m q x free requests is))
    by_argument None is because =
        by_rank five eleven (found_is None (rule_kept a e core m q free requests same is)) because

-- one that is taken
routed_faultless : (a : Announcements) (own : Endpoint) (e : EngineState) (core : Core) (m : Membership)
    (q : core_calls.RoutedCall) (c : Call) (five eleven : Bool) (limit : Option Refusal) →
    IsFree a e core m → queue_call m c ≡ Some (in_queues.call_meant e.core q) → in_queues.call_meant e.core q ≡
    in_queues.call_seen q → free_request_fault e.core q ≡ None →
    wrong_rank m c ≡ five → wrong_incarnation core.known m c ≡ eleven →
    first_fault (argument_fault e.core.place q)
    (first_fault (broken five refusals.Rank) (first_fault (broken eleven refusals.Replaced) limit)) ≡ None →
    fault own (view blank core) m c ≡ None
routed_faultless a own e core m q c five eleven limit free routed same requests is_five is_eleven allowed =
    by_argument (argument_fault e.core.place q) refl allowed
  where
    found : Option ℕ
    found = fault own (view blank core) m c

    by_rank : (b d : Bool) → found ≡ rules.first_fault ((b, 5) ∷ (d, 11) ∷ []) →
        first_fault (broken b refusals.Rank) (first_fault (broken d refusals.Replaced) limit) ≡ None → found ≡ None
    by_rank true d is h = absurd cc
    by_rank false true is h = absurd cc
    by_rank false false is h = is

    by_argument : (o : Option Refusal) → argument_fault e.core.place q ≡ o →
        first_fault o (first_fault (broken five refusals.Rank) (first_fault (broken eleven refusals.Replaced) limit)) ≡
        None → found ≡ None
    by_argument (Some x) is h = absurd cc
    by_argument None is h = by_rank five eleven
        (fault_cut a own e core m c (in_queues.call_meant e.core q) free routed
        ∙ ap (λ (p : Option ℕ). or_fault p
        (rules.first_fault ((wrong_rank m c, 5) ∷ (wrong_incarnation core.known m c, 11) ∷ [])))
        (rule_kept a e core m q free requests same is)
        ∙ ap (λ (b : Bool). rules.first_fault ((b, 5) ∷ (wrong_incarnation core.known m c, 11) ∷ [])) is_five
        ∙ ap (λ (b : Bool). rules.first_fault ((five, 5) ∷ (b, 11) ∷ [])) is_eleven) h

-- ---- where the machine and the engine look

-- at the same communicator
at_same : (a : Announcements) (e : EngineState) (core : Core) (m : Membership) (comm : Option ℕ) → IsFree a e core m →
    held_at m comm ≡ held_at (member_of e.groups) comm
at_same a e core m comm free = named_same m (member_of e.groups) comm free.held

-- and at the same member of it
named_alike : (a : Announcements) (e : EngineState) (core : Core) (m : Membership) (comm : Option ℕ) (named : Source) →
    IsFree a e core m →
    names_replaced core.known (held_at m comm) named ≡ is_replaced e comm named
named_alike a e core m comm named free =
    ap (λ (o : Option Communicator). names_replaced core.known o named) (at_same a e core m comm free)
    ∙ ap (λ (known : ℕ → ℕ). names_replaced known (held_at (member_of e.groups) comm) named) free.known

-- no earlier call is blocked there
not_blocked : (a : Announcements) (e : EngineState) (core : Core) (m : Membership) → IsFree a e core m →
    is_blocked (view blank core) m ≡ false
not_blocked a e core m free =
    held_alone (view blank core) m free.apart ∙
    ap is_held (core_free a e.core e.sessions.known core free.shown free.idle)

lacking : (six four : Bool) (rest : List (Bool × ℕ)) → six ≡ false → four ≡ true →
    rules.first_fault ((six, 6) ∷ (four, 4) ∷ rest) ≡ Some 4
lacking six four rest no_six is_four = rw (no_six, is_four)

-- a call whose communicator the caller doesn't hold
lacks_reason : (a : Announcements) (own : Endpoint) (e : EngineState) (core : Core) (m : Membership) (c : Call)
    (why : Refusal) → IsFree a e core m →
    wrong_request (λ k. standing (slice_get (view blank core).requests k)) c ≡ false → wrong_communicator m c ≡ true →
    why ≡ refusals.Communicator → IsReason (fault own (view blank core) m c) why
lacks_reason a own e core m c why free requests lacks because =
    by_rule (fault own l m c) refusals.Communicator why because
    (lacking (is_blocked l m || wrong) (wrong_communicator m c)
    ((wrong_type own m c, 2) ∷ (wrong_count l.message_limit own m c, 1) ∷
    (wrong_tag c, 3) ∷ (wrong_rank m c, 5) ∷ (wrong_root m c, 7) ∷ (wrong_operation c, 9) ∷
    (wrong_incarnation l.known m c, 11) ∷ [])
    (ap (λ (b : Bool). b || wrong) (not_blocked a e core m free) ∙ requests) lacks)
  where
    l : Local
    l = view blank core

    wrong : Bool
    wrong = wrong_request (λ k. standing (slice_get l.requests k)) c

none_is : (o : Option Communicator) → o ≡ None → is_none o ≡ true
none_is o h = ap is_none h

-- ---- sends

-- the call of the queues that a send with a route is
send_routed : (a : Announcements) (e : EngineState) (core : Core) (m : Membership) (s : Send) (c : Communicator) →
    IsFree a e core m → held_at (member_of e.groups) s.comm ≡ Some c →
    queue_call m (Isend s.mode s.comm s.target s.tag (handed_of s.from)) ≡
    Some (queues.Isend s.mode c.context (in_world c s.target) s.tag (handed_of s.from))
send_routed a e core m s c free at =
    ap (λ (o : Option Communicator). option_map
    (λ c. queues.Isend s.mode c.context (in_world c s.target) s.tag (handed_of s.from)) o)
    (at_same a e core m s.comm free ∙ at)

send_reason : (a : Announcements) (own : Endpoint) (e : EngineState) (core : Core) (m : Membership) (s : Send)
    (why : Refusal) → IsFree a e core m →
    WhyRefused (free_fault e (calls.Isend s)) e (calls.Isend s) why →
    IsReason (fault own (view blank core) m (Isend s.mode s.comm s.target s.tag (handed_of s.from))) why
send_reason a own e core m s why free reason = go (held_at (member_of e.groups) s.comm) refl reason
  where
    c : Call
    c = Isend s.mode s.comm s.target s.tag (handed_of s.from)

    go : (o : Option Communicator) → held_at (member_of e.groups) s.comm ≡ o →
        WhyRefused (on_route (option_map (route_on s.target) o) (send_rules e s)) e (calls.Isend s) why →
        IsReason (fault own (view blank core) m c) why
    go None at because =
        lacks_reason a own e core m c why free refl (none_is (held_at m s.comm) (at_same a e core m s.comm free ∙ at))
        because
    go (Some k) at because =
        routed_reason a own e core m (calls.Isend s) (core_calls.Isend (send_by s (route_on s.target k))) c
        (is_no_target (held_at (member_of e.groups) s.comm) s.target) (is_replaced e s.comm s.target)
        (routed_limit e (core_calls.Isend (send_by s (route_on s.target k)))) why free
        (send_routed a e core m s k free at) refl refl
        (ap (λ (o : Option Communicator). is_no_target o s.target) (at_same a e core m s.comm free))
        (named_alike a e core m s.comm s.target free)
        (λ x h. routed_full e (core_calls.Isend (send_by s (route_on s.target k))) x h) (λ lacks. inr lacks.0) because

send_faultless : (a : Announcements) (own : Endpoint) (e : EngineState) (core : Core) (m : Membership) (s : Send) →
    IsFree a e core m → free_fault e (calls.Isend s) ≡ None →
    fault own (view blank core) m (Isend s.mode s.comm s.target s.tag (handed_of s.from)) ≡ None
send_faultless a own e core m s free allowed = go (held_at (member_of e.groups) s.comm) refl allowed
  where
    c : Call
    c = Isend s.mode s.comm s.target s.tag (handed_of s.from)

    go : (o : Option Communicator) → held_at (member_of e.groups) s.comm ≡ o →
        on_route (option_map (route_on s.target) o) (send_rules e s) ≡ None → fault own (view blank core) m c ≡ None
    go None at h = absurd cc
    go (Some k) at h =
        routed_faultless a own e core m (core_calls.Isend (send_by s (route_on s.target k))) c
        (is_no_target (held_at (member_of e.groups) s.comm) s.target) (is_replaced e s.comm s.target)
        (routed_limit e (core_calls.Isend (send_by s (route_on s.target k)))) free (send_routed a e core m s k free at)
        refl refl
        (ap (λ (o : Option Communicator). is_no_target o s.target) (at_same a e core m s.comm free))
        (named_alike a e core m s.comm s.target free) h

-- ---- receives

-- the call of the queues that a receive with a route is
receive_routed : (a : Announcements) (e : EngineState) (core : Core) (m : Membership) (v : Receive) (c : Communicator) →
    IsFree a e core m → held_at (member_of e.groups) v.comm ≡ Some c →
    queue_call m (Irecv v.comm v.source v.tag (handed_of v.into)) ≡
    Some (queues.Irecv (receive_on c v.source v.tag (handed_of v.into)))
receive_routed a e core m v c free at =
    ap (λ (o : Option Communicator). option_map (λ c. queues.Irecv (receive_on c v.source v.tag (handed_of v.into))) o)
    (at_same a e core m v.comm free ∙ at)

receive_reason : (a : Announcements) (own : Endpoint) (e : EngineState) (core : Core) (m : Membership) (v : Receive)
    (why : Refusal) → IsFree a e core m →
    WhyRefused (free_fault e (calls.Irecv v)) e (calls.Irecv v) why →
    IsReason (fault own (view blank core) m (Irecv v.comm v.source v.tag (handed_of v.into))) why
receive_reason a own e core m v why free reason = go (held_at (member_of e.groups) v.comm) refl reason
  where
    c : Call
    c = Irecv v.comm v.source v.tag (handed_of v.into)

    go : (o : Option Communicator) → held_at (member_of e.groups) v.comm ≡ o →
        WhyRefused (on_route (option_map (route_on v.source) o) (receive_rules e v)) e (calls.Irecv v) why →
        IsReason (fault own (view blank core) m c) why
    go None at because =
        lacks_reason a own e core m c why free refl (none_is (held_at m v.comm) (at_same a e core m v.comm free ∙ at))
        because
    go (Some k) at because =
        let r : RouteText = route_on v.source k in
        routed_reason a own e core m (calls.Irecv v) (core_calls.Irecv (receive_by v r)) c
        (is_source_beyond (held_at (member_of e.groups) v.comm) v.source) (is_replaced e v.comm v.source)
        (first_fault (group_limit r.group) (routed_limit e (core_calls.Irecv (receive_by v r)))) why free
        (receive_routed a e core m v k free at) refl refl
        (ap (λ (o : Option Communicator). is_source_beyond o v.source) (at_same a e core m v.comm free))
        (named_alike a e core m v.comm v.source free)
        (λ x h. group_routed_full e r.group (core_calls.Irecv (receive_by v r)) x h) (λ lacks. inr lacks.0) because

receive_faultless : (a : Announcements) (own : Endpoint) (e : EngineState) (core : Core) (m : Membership)
    (v : Receive) → IsFree a e core m → free_fault e (calls.Irecv v) ≡ None →
    fault own (view blank core) m (Irecv v.comm v.source v.tag (handed_of v.into)) ≡ None
receive_faultless a own e core m v free allowed = go (held_at (member_of e.groups) v.comm) refl allowed
  where
    c : Call
    c = Irecv v.comm v.source v.tag (handed_of v.into)

    go : (o : Option Communicator) → held_at (member_of e.groups) v.comm ≡ o →
        on_route (option_map (route_on v.source) o) (receive_rules e v) ≡ None → fault own (view blank core) m c ≡ None
    go None at h = absurd cc
    go (Some k) at h =
        let r : RouteText = route_on v.source k in
        routed_faultless a own e core m (core_calls.Irecv (receive_by v r)) c
        (is_source_beyond (held_at (member_of e.groups) v.comm) v.source) (is_replaced e v.comm v.source)
        (first_fault (group_limit r.group) (routed_limit e (core_calls.Irecv (receive_by v r)))) free
        (receive_routed a e core m v k free at) refl refl
        (ap (λ (o : Option Communicator). is_source_beyond o v.source) (at_same a e core m v.comm free))
        (named_alike a e core m v.comm v.source free) h

-- ---- probes

-- the call of the queues that a matching probe with a route is
probe_routed : (a : Announcements) (e : EngineState) (core : Core) (m : Membership) (p : Probe) (c : Communicator) →
    IsFree a e core m → held_at (member_of e.groups) p.comm ≡ Some c →
    queue_call m (Improbe p.comm p.source p.tag) ≡ Some (queues.Improbe (probe_on c p.source p.tag))
probe_routed a e core m p c free at =
    ap (λ (o : Option Communicator). option_map (λ c. queues.Improbe (probe_on c p.source p.tag)) o)
    (at_same a e core m p.comm free ∙ at)

-- the rules of a probe, and then more
rules_first : (a b c d e : Option Refusal) → first_fault (first_fault a (first_fault b (first_fault c d))) e ≡
    first_fault a (first_fault b (first_fault c (first_fault d e)))
rules_first (Some x) b c d e = refl
rules_first None (Some x) c d e = refl
rules_first None None (Some x) d e = refl
rules_first None None None d e = refl

-- a probe is refused for the machine's reasons, whatever limits it meets behind its rules
probing_reason : (a : Announcements) (own : Endpoint) (e : EngineState) (core : Core) (m : Membership) (p : Probe)
    (call : engine.Call) (why : Refusal) (limit : RouteText → Option Refusal) → IsFree a e core m →
    ((r : RouteText) (x : Refusal) → limit r ≡ Some x → x ≡ refusals.Limit) → (LacksRoom e call why → IsOutOfRoom why) →
    WhyRefused (on_route (option_map (route_on p.source) (held_at (member_of e.groups) p.comm)) (λ r.
    first_fault (argument_fault e.core.place (core_calls.Improbe (probe_by p r)))
    (first_fault (broken (is_source_beyond (held_at (member_of e.groups) p.comm) p.source) refusals.Rank)
    (first_fault (broken (is_replaced e p.comm p.source) refusals.Replaced) (limit r))))) e call why →
    IsReason (fault own (view blank core) m (Improbe p.comm p.source p.tag)) why
probing_reason a own e core m p call why limit free full lacks reason =
    go (held_at (member_of e.groups) p.comm) refl reason
  where
    c : Call
    c = Improbe p.comm p.source p.tag

    go : (o : Option Communicator) → held_at (member_of e.groups) p.comm ≡ o →
        WhyRefused (on_route (option_map (route_on p.source) o) (λ r.
        first_fault (argument_fault e.core.place (core_calls.Improbe (probe_by p r)))
        (first_fault (broken (is_source_beyond (held_at (member_of e.groups) p.comm) p.source) refusals.Rank)
        (first_fault (broken (is_replaced e p.comm p.source) refusals.Replaced) (limit r))))) e call why →
        IsReason (fault own (view blank core) m c) why
    go None at because =
        lacks_reason a own e core m c why free refl (none_is (held_at m p.comm) (at_same a e core m p.comm free ∙ at))
        because
    go (Some k) at because =
        let r : RouteText = route_on p.source k in
        routed_reason a own e core m call (core_calls.Improbe (probe_by p r)) c
        (is_source_beyond (held_at (member_of e.groups) p.comm) p.source) (is_replaced e p.comm p.source)
        (limit r) why free (probe_routed a e core m p k free at) refl refl
        (ap (λ (o : Option Communicator). is_source_beyond o p.source) (at_same a e core m p.comm free))
        (named_alike a e core m p.comm p.source free)
        (full r) lacks because

-- and one that meets no rule has no fault
probing_faultless : (a : Announcements) (own : Endpoint) (e : EngineState) (core : Core) (m : Membership) (p : Probe)
    (limit : RouteText → Option Refusal) → IsFree a e core m →
    on_route (option_map (route_on p.source) (held_at (member_of e.groups) p.comm)) (λ r.
    first_fault (argument_fault e.core.place (core_calls.Improbe (probe_by p r)))
    (first_fault (broken (is_source_beyond (held_at (member_of e.groups) p.comm) p.source) refusals.Rank)
    (first_fault (broken (is_replaced e p.comm p.source) refusals.Replaced) (limit r)))) ≡ None →
    fault own (view blank core) m (Improbe p.comm p.source p.tag) ≡ None
probing_faultless a own e core m p limit free allowed = go (held_at (member_of e.groups) p.comm) refl allowed
  where
    c : Call
    c = Improbe p.comm p.source p.tag

    go : (o : Option Communicator) → held_at (member_of e.groups) p.comm ≡ o →
        on_route (option_map (route_on p.source) o) (λ r.
        first_fault (argument_fault e.core.place (core_calls.Improbe (probe_by p r)))
        (first_fault (broken (is_source_beyond (held_at (member_of e.groups) p.comm) p.source) refusals.Rank)
        (first_fault (broken (is_replaced e p.comm p.source) refusals.Replaced) (limit r)))) ≡ None →
        fault own (view blank core) m c ≡ None
    go None at h = absurd cc
    go (Some k) at h =
        let r : RouteText = route_on p.source k in
        routed_faultless a own e core m (core_calls.Improbe (probe_by p r)) c
        (is_source_beyond (held_at (member_of e.groups) p.comm) p.source) (is_replaced e p.comm p.source)
        (limit r) free (probe_routed a e core m p k free at) refl refl
        (ap (λ (o : Option Communicator). is_source_beyond o p.source) (at_same a e core m p.comm free))
        (named_alike a e core m p.comm p.source free) h

-- a matching probe's limits are that of its group and those of the core
abbrev search_limit_of : EngineState → Probe → RouteText → Option Refusal
search_limit_of e p r = first_fault (group_limit r.group) (routed_limit e (core_calls.Improbe (probe_by p r)))

search_rules : (e : EngineState) (p : Probe) (o : Option RouteText) → on_route o (probe_rules e p) ≡
    on_route o
    (λ r. first_fault (argument_fault e.core.place (core_calls.Improbe (probe_by p r)))
    (first_fault (broken (is_source_beyond (held_at (member_of e.groups) p.comm) p.source) refusals.Rank)
    (first_fault (broken (is_replaced e p.comm p.source) refusals.Replaced) (search_limit_of e p r))))
search_rules e p None = refl
search_rules e p (Some r) =
    rules_first (argument_fault e.core.place (core_calls.Improbe (probe_by p r)))
    (broken (is_source_beyond (held_at (member_of e.groups) p.comm) p.source) refusals.Rank)
    (broken (is_replaced e p.comm p.source) refusals.Replaced) (group_limit r.group)
    (routed_limit e (core_calls.Improbe (probe_by p r)))

-- ---- the receive of a message

-- the machine finds what its queues find
message_found : (p : Place) (own : Endpoint) (l : Local) (m : Membership) (message : Option ℕ) (into : Handed) →
    is_within m.present ≡ false → fault own l m (Mrecv message into) ≡ queue_fault p l (queues.Mrecv message into)
message_found p own l m message into apart =
    ap (λ (b : Bool). fault_by l.message_limit b (λ k. standing (slice_get l.requests k)) own l.known m
    (Mrecv message into))
    (held_alone l m apart)

-- its core's fault, by its requests and what it hands in
message_cut : (a : Announcements) (e : EngineState) (core : Core) (m : Membership) (q : Option Request) (into : Region)
    (o : Option Refusal) → IsFree a e core m →
    free_request_fault e.core (core_calls.Mrecv q into) ≡ o → call_fault e.core (core_calls.Mrecv q into) ≡
    first_of o (argument_fault e.core.place (core_calls.Mrecv q into))
message_cut a e core m q into o free is =
    ap (λ (b : Option Awaited). fault_at b e.core (core_calls.Mrecv q into)) free.idle
    ∙ ap (λ (p : Option Refusal). first_of p (argument_fault e.core.place (core_calls.Mrecv q into))) is

message_reason : (a : Announcements) (own : Endpoint) (e : EngineState) (core : Core) (m : Membership)
    (q : Option Request) (into : Region) (why : Refusal) → IsFree a e core m →
    WhyRefused (free_fault e (calls.Mrecv q into)) e (calls.Mrecv q into) why →
    IsReason (fault own (view blank core) m (call_meant e.core (calls.Mrecv q into))) why
message_reason a own e core m q into why free reason =
    subst (λ (o : Option ℕ). IsReason o why)
    (sym (message_found e.core.place own (view blank core) m
    (in_queues.request_by (in_queues.serial_meant e.core) q) (handed_of into) free.apart))
    (by_requests (free_request_fault e.core asked) refl reason)
  where
    asked : core_calls.RoutedCall
    asked = core_calls.Mrecv q into

    broken_by : (x : Refusal) → call_fault e.core asked ≡ Some x → why ≡ x → HasReason e.core core asked why
    broken_by x at because =
        faults_have_reasons a e.core e.sessions.known core asked why free.shown (at ∙ ap Some (sym because))

    by_limit : (o : Option Refusal) → routed_limit e asked ≡ o → call_fault e.core asked ≡ None →
        WhyRefused o e (calls.Mrecv q into) why → HasReason e.core core asked why
    by_limit (Some x) is none because =
        room_is_a_reason allowed_calls_are_faultless a e.core e.sessions.known core asked why free.shown none
        (inl (because ∙ routed_full e asked x is))
    by_limit None is none because =
        room_is_a_reason allowed_calls_are_faultless a e.core e.sessions.known core asked why free.shown none
        (inr because.0)

    by_argument : (o : Option Refusal) → argument_fault e.core.place asked ≡ o → free_request_fault e.core asked ≡
        None →
        WhyRefused (first_fault o (routed_limit e asked)) e (calls.Mrecv q into) why → HasReason e.core core asked why
    by_argument (Some x) is requests because =
        broken_by x (message_cut a e core m q into None free requests ∙ is) because
    by_argument None is requests because =
        by_limit (routed_limit e asked) refl (message_cut a e core m q into None free requests ∙ is) because

    by_requests : (o : Option Refusal) → free_request_fault e.core asked ≡ o →
        WhyRefused (first_fault o (first_fault (argument_fault e.core.place asked) (routed_limit e asked))) e
        (calls.Mrecv q into) why → HasReason e.core core asked why
    by_requests (Some x) is because = broken_by x (message_cut a e core m q into (Some x) free is) because
    by_requests None is because = by_argument (argument_fault e.core.place asked) refl is because

message_faultless : (a : Announcements) (own : Endpoint) (e : EngineState) (core : Core) (m : Membership)
    (q : Option Request) (into : Region) → IsFree a e core m →
    free_fault e (calls.Mrecv q into) ≡ None →
    IsFaultless (fault own (view blank core) m (call_seen (calls.Mrecv q into))) e.core (calls.Mrecv q into)
message_faultless a own e core m q into free allowed =
    let asked : core_calls.RoutedCall = core_calls.Mrecv q into in
    let requests = neither_fault (free_request_fault e.core asked) _ allowed in
    let arguments = neither_fault (argument_fault e.core.place asked) (routed_limit e asked) requests.1 in
    let fine = allowed_calls_are_faultless a e.core e.sessions.known core asked free.shown
    (message_cut a e core m q into None free requests.0 ∙ arguments.0) in
    record {
      own = ap as_call fine.own;
      none = message_found e.core.place own (view blank core) m (in_queues.request_by in_queues.own_serial q)
          (handed_of into) free.apart ∙ fine.none;
    }

-- ---- COLLECTIVES AND QUESTIONS

-- the machine's faults of an entry of the rank at e, by the communicator that the call names, while no earlier call is
-- blocked
abbrev entering_fault : (limit : MessageLimit) → (e : Endpoint) → (known : ℕ → ℕ) → Option Communicator →
    CollectiveCall → Option ℕ
entering_fault limit e known o p =
    if is_none o then Some 4 else
    (if wrong_data o e p then Some 2 else
    (if wrong_block limit o e (part_of p) then Some 1 else
    (if is_rooted (part_of p).record_is.kind && is_beyond o (part_of p).record_is.root then Some 7 else
    (if is_undefined (part_of p).record_is.operation (part_of p).record_is.basic then Some 9 else
    (if has_replaced known o then Some 11 else None)))))

-- what the machine finds with an entry, as the engine looks
entry_seen : (a : Announcements) (own : Endpoint) (e : EngineState) (core : Core) (m : Membership) (comm : Option ℕ)
    (x : Entry) → IsFree a e core m → e.groups.collective.own ≡ own →
    fault own (view blank core) m (Enter comm (call_of x))
    ≡ cond (is_none (held_at (member_of e.groups) comm)) (Some 4)
    (option_or (option_map number_of_rule
    (rule_in (limit_of e.sessions.place.message_limit) e.groups.collective.own (held_in e.groups.contexts comm) x))
    (cond (has_replaced (known_by e.sessions.known) (held_at (member_of e.groups) comm)) (Some 11) None))
entry_seen a own e core m comm x free stands =
    ap (λ (b : Bool). fault_by core.message_limit b f own core.known m (Enter comm (call_of x)))
    (not_blocked a e core m free)
    ∙ ap (λ (o : Option Communicator). entering_fault core.message_limit own core.known o (call_of x))
    (at_same a e core m comm free)
    ∙ ap (λ (known : ℕ → ℕ). entering_fault core.message_limit own known (held_at (member_of e.groups) comm)
    (call_of x)) free.known
    ∙ ap (λ (d : Endpoint). entering_fault core.message_limit d (known_by e.sessions.known)
    (held_at (member_of e.groups) comm) (call_of x)) (sym stands)
    ∙ ap (λ (limit : MessageLimit). entering_fault limit e.groups.collective.own (known_by e.sessions.known)
    (held_at (member_of e.groups) comm) (call_of x))
    (free.limit ∙ ap (λ (p : Place). p.message_limit) free.placed)
    ∙ entry_judged e.sessions.place.message_limit false e.groups.collective e.groups.contexts
    (known_by e.sessions.known) comm x
  where
    f : ℕ → Standing
    f k = standing (slice_get (view blank core).requests k)

asks_same : (a b : Membership) (q : Question) → a.held ≡ b.held → asks_of_none a (question_of q) ≡
    asks_of_none b (question_of q)
asks_same a b questions.Rank h = refl
asks_same a b questions.Size h = refl
asks_same a b questions.Group h = refl
asks_same a b (questions.Compare other) h = ap is_none (named_same a b other h)

-- and with a question
question_seen : (a : Announcements) (own : Endpoint) (e : EngineState) (core : Core) (m : Membership) (comm : Option ℕ)
    (q : Question) → IsFree a e core m →
    fault own (view blank core) m (Inquire comm (question_of q))
    ≡ cond (is_none (held_at (member_of e.groups) comm) || asks_of_none (member_of e.groups) (question_of q))
    (Some 4) None
question_seen a own e core m comm q free =
    ap (λ (b : Bool). fault_by core.message_limit b (λ k. standing (slice_get (view blank core).requests k)) own
    core.known m
    (Inquire comm (question_of q))) (not_blocked a e core m free)
    ∙ question_judged core.message_limit false own core.known m comm q
    ∙ ap (λ (o : Option Communicator). cond (is_none o || asks_of_none m (question_of q)) (Some 4) None)
    (at_same a e core m comm free)
    ∙ ap (λ (b : Bool). cond (is_none (held_at (member_of e.groups) comm) || b) (Some 4) None)
    (asks_same m (member_of e.groups) q free.held)

-- the reason why an entry is refused
entry_room : (e : EngineState) (comm : Option ℕ) (x : Entry) (why : Refusal) → LacksRoom e (calls.Enter comm x) why →
    IsOutOfRoom why
entry_room e comm x why (inl is) = inr is
entry_room e comm x why (inr limited) = inl limited.0

-- the number of a rule on what is handed in is that of the engine's refusal
rule_number : (r : Rule) → number_of_rule r ≡ number_of_refusal (of_entry_rule r)
rule_number entry_faults.WrongType = refl
rule_number entry_faults.WrongCount = refl
rule_number entry_faults.NoRoot = refl
rule_number entry_faults.NotDefined = refl

entry_reason : (a : Announcements) (own : Endpoint) (e : EngineState) (core : Core) (m : Membership) (comm : Option ℕ)
    (x : Entry) (why : Refusal) → IsFree a e core m → e.groups.collective.own ≡ own →
    WhyRefused (free_fault e (calls.Enter comm x)) e (calls.Enter comm x) why →
    IsReason (fault own (view blank core) m (Enter comm (call_of x))) why
entry_reason a own e core m comm x why free stands reason =
    subst (λ (o : Option ℕ). IsReason o why) (sym (entry_seen a own e core m comm x free stands))
    (go (is_none (held_at (member_of e.groups) comm))
    (rule_in (limit_of e.sessions.place.message_limit) e.groups.collective.own (held_in e.groups.contexts comm) x)
    (has_replaced (known_by e.sessions.known) (held_at (member_of e.groups) comm))
    (limit_in e.groups.collective e.groups.contexts comm x) reason)
  where
    go : (four : Bool) (rule : Option Rule) (eleven limited : Bool) →
        WhyRefused
        (first_fault (broken four refusals.Communicator)
        (first_fault (option_map of_entry_rule rule)
        (first_fault (broken eleven refusals.Replaced) (broken limited refusals.Limit)))) e
        (calls.Enter comm x) why →
        IsReason (cond {A = Option ℕ} four (Some 4)
        (option_or (option_map number_of_rule rule) (cond eleven (Some 11) None))) why
    go true rule eleven limited because = by_rule (Some 4) refusals.Communicator why because refl
    go false (Some r) eleven limited because =
        by_rule (Some (number_of_rule r)) (of_entry_rule r) why because (ap (λ (k : ℕ). Some k) (rule_number r))
    go false None true limited because = by_rule (Some 11) refusals.Replaced why because refl
    go false None false true because = NoRoom (inl because) refl
    go false None false false because = NoRoom (entry_room e comm x why because) refl

entry_faultless : (a : Announcements) (own : Endpoint) (e : EngineState) (core : Core) (m : Membership)
    (comm : Option ℕ) (x : Entry) → IsFree a e core m → e.groups.collective.own ≡ own →
    free_fault e (calls.Enter comm x) ≡ None → fault own (view blank core) m (Enter comm (call_of x)) ≡ None
entry_faultless a own e core m comm x free stands allowed =
    entry_seen a own e core m comm x free stands
    ∙ go (is_none (held_at (member_of e.groups) comm))
    (rule_in (limit_of e.sessions.place.message_limit) e.groups.collective.own (held_in e.groups.contexts comm) x)
    (has_replaced (known_by e.sessions.known) (held_at (member_of e.groups) comm))
    (limit_in e.groups.collective e.groups.contexts comm x) allowed
  where
    go : (four : Bool) (rule : Option Rule) (eleven limited : Bool) →
        first_fault (broken four refusals.Communicator)
        (first_fault (option_map of_entry_rule rule)
        (first_fault (broken eleven refusals.Replaced) (broken limited refusals.Limit))) ≡ None →
        cond {A = Option ℕ} four (Some 4) (option_or (option_map number_of_rule rule) (cond eleven (Some 11) None)) ≡
        None
    go true rule eleven limited h = absurd cc
    go false (Some r) eleven limited h = absurd cc
    go false None true limited h = absurd cc
    go false None false true h = absurd cc
    go false None false false h = refl

-- the reason why a question is
question_reason : (a : Announcements) (own : Endpoint) (e : EngineState) (core : Core) (m : Membership)
    (comm : Option ℕ) (q : Question) (why : Refusal) → IsFree a e core m →
    WhyRefused (free_fault e (calls.Ask comm q)) e (calls.Ask comm q) why →
    IsReason (fault own (view blank core) m (Inquire comm (question_of q))) why
question_reason a own e core m comm q why free reason =
    subst (λ (o : Option ℕ). IsReason o why) (sym (question_seen a own e core m comm q free))
    (go (is_none (held_at (member_of e.groups) comm) || asks_of_none (member_of e.groups) (question_of q)) reason)
  where
    go : (four : Bool) → WhyRefused (broken four refusals.Communicator) e (calls.Ask comm q) why →
        IsReason (cond {A = Option ℕ} four (Some 4) None) why
    go true because = by_rule (Some 4) refusals.Communicator why because refl
    go false because = NoRoom (inr because.0) refl

question_faultless : (a : Announcements) (own : Endpoint) (e : EngineState) (core : Core) (m : Membership)
    (comm : Option ℕ) (q : Question) → IsFree a e core m →
    free_fault e (calls.Ask comm q) ≡ None → fault own (view blank core) m (Inquire comm (question_of q)) ≡ None
question_faultless a own e core m comm q free allowed =
    question_seen a own e core m comm q free ∙
    go (is_none (held_at (member_of e.groups) comm) || asks_of_none (member_of e.groups) (question_of q)) allowed
  where
    go : (four : Bool) → broken four refusals.Communicator ≡ None → cond {A = Option ℕ} four (Some 4) None ≡ None
    go true h = absurd cc
    go false h = refl

-- ---- ALL CALLS

-- the core's fault of a call on requests is the engine's
free_is : (a : Announcements) (e : EngineState) (core : Core) (m : Membership) (q : core_calls.RoutedCall) →
    IsFree a e core m → call_fault e.core q ≡ fault_at None e.core q
free_is a e core m q free = ap (λ (b : Option Awaited). fault_at b e.core q) free.idle

-- a call that is refused has a reason
pub free_reason : (a : Announcements) (own : Endpoint) (e : EngineState) (core : Core) (m : Membership)
    (call : engine.Call) (why : Refusal) → IsFree a e core m → e.groups.collective.own ≡ own →
    WhyRefused (free_fault e call) e call why → IsReason (fault own (view blank core) m (call_meant e.core call)) why
free_reason a own e core m (calls.Isend s) why free stands reason = send_reason a own e core m s why free reason
free_reason a own e core m (calls.Irecv v) why free stands reason = receive_reason a own e core m v why free reason
free_reason a own e core m (calls.Wait q) why free stands reason =
    requests_reason a e core m (calls.Wait q) (core_calls.Wait q) _ why free
    (free_is a e core m (core_calls.Wait q) free)
    (wait_found e.core.place own (view blank core) m
    (in_queues.awaited_by (in_queues.serial_meant e.core) (awaiteds.One q)) free.apart) (λ lacks. absurd lacks)
    reason
free_reason a own e core m (calls.Test q) why free stands reason =
    requests_reason a e core m (calls.Test q) (core_calls.Test q) _ why free
    (free_is a e core m (core_calls.Test q) free)
    (test_found e.core.place own (view blank core) m (in_queues.request_by (in_queues.serial_meant e.core) q)
    free.apart) (λ lacks. absurd lacks) reason
free_reason a own e core m (calls.Waitany qs) why free stands reason =
    requests_reason a e core m (calls.Waitany qs) (core_calls.Waitany qs) _ why free
    (free_is a e core m (core_calls.Waitany qs) free)
    (wait_found e.core.place own (view blank core) m
    (in_queues.awaited_by (in_queues.serial_meant e.core) (awaiteds.AnyOf qs)) free.apart) (λ lacks. absurd lacks)
    reason
free_reason a own e core m (calls.Waitall qs) why free stands reason =
    requests_reason a e core m (calls.Waitall qs) (core_calls.Waitall qs) _ why free
    (free_is a e core m (core_calls.Waitall qs) free)
    (wait_found e.core.place own (view blank core) m
    (in_queues.awaited_by (in_queues.serial_meant e.core) (awaiteds.AllOf qs)) free.apart) (λ lacks. lacks) reason
free_reason a own e core m (calls.Cancel q) why free stands reason =
    requests_reason a e core m (calls.Cancel q) (core_calls.Cancel q) _ why free
    (free_is a e core m (core_calls.Cancel q) free)
    (cancel_found e.core.place own (view blank core) m (in_queues.request_by (in_queues.serial_meant e.core) q)
    free.apart) (λ lacks. absurd lacks) reason
free_reason a own e core m (calls.Iprobe p) why free stands reason =
    probing_reason a own e core m p (calls.Iprobe p) why (λ r. group_limit r.group) free
    (λ r x h. group_full r.group x h) (λ lacks. absurd lacks) reason
free_reason a own e core m (calls.Improbe p) why free stands reason =
    probing_reason a own e core m p (calls.Improbe p) why (search_limit_of e p) free
    (λ r x h. group_routed_full e r.group (core_calls.Improbe (probe_by p r)) x h) (λ lacks. inr lacks.0)
    (subst (λ (o : Option Refusal). WhyRefused o e (calls.Improbe p) why)
    (search_rules e p (option_map (route_on p.source) (held_at (member_of e.groups) p.comm))) reason)
free_reason a own e core m (calls.Mrecv q into) why free stands reason =
    message_reason a own e core m q into why free reason
free_reason a own e core m (calls.Enter comm x) why free stands reason =
    entry_reason a own e core m comm x why free stands reason
free_reason a own e core m (calls.Ask comm q) why free stands reason =
    question_reason a own e core m comm q why free reason

-- one that is taken has no fault
pub free_faultless : (a : Announcements) (own : Endpoint) (e : EngineState) (core : Core) (m : Membership)
    (call : engine.Call) → IsFree a e core m → e.groups.collective.own ≡ own → free_fault e call ≡ None →
    IsFaultless (fault own (view blank core) m (call_seen call)) e.core call
free_faultless a own e core m (calls.Isend s) free stands allowed =
    record { own = refl; none = send_faultless a own e core m s free allowed }
free_faultless a own e core m (calls.Irecv v) free stands allowed =
    record { own = refl; none = receive_faultless a own e core m v free allowed }
free_faultless a own e core m (calls.Wait q) free stands allowed =
    requests_faultless a e core m (calls.Wait q) (core_calls.Wait q) _ free
    (free_is a e core m (core_calls.Wait q) free)
    (wait_found e.core.place own (view blank core) m (in_queues.awaited_by in_queues.own_serial (awaiteds.One q))
    free.apart) (λ f. refl) allowed
free_faultless a own e core m (calls.Test q) free stands allowed =
    requests_faultless a e core m (calls.Test q) (core_calls.Test q) _ free
    (free_is a e core m (core_calls.Test q) free)
    (test_found e.core.place own (view blank core) m (in_queues.request_by in_queues.own_serial q) free.apart)
    (λ f. refl) allowed
free_faultless a own e core m (calls.Waitany qs) free stands allowed =
    requests_faultless a e core m (calls.Waitany qs) (core_calls.Waitany qs) _ free
    (free_is a e core m (core_calls.Waitany qs) free)
    (wait_found e.core.place own (view blank core) m
    (in_queues.awaited_by in_queues.own_serial (awaiteds.AnyOf qs)) free.apart) (λ f. refl) allowed
free_faultless a own e core m (calls.Waitall qs) free stands allowed =
    requests_faultless a e core m (calls.Waitall qs) (core_calls.Waitall qs) _ free
    (free_is a e core m (core_calls.Waitall qs) free)
    (wait_found e.core.place own (view blank core) m
    (in_queues.awaited_by in_queues.own_serial (awaiteds.AllOf qs)) free.apart) (λ f. refl) allowed
free_faultless a own e core m (calls.Cancel q) free stands allowed =
    requests_faultless a e core m (calls.Cancel q) (core_calls.Cancel q) _ free
    (free_is a e core m (core_calls.Cancel q) free)
    (cancel_found e.core.place own (view blank core) m (in_queues.request_by in_queues.own_serial q) free.apart)
    (λ f. refl) allowed
free_faultless a own e core m (calls.Iprobe p) free stands allowed =
    record { own = refl; none = probing_faultless a own e core m p (λ r. group_limit r.group) free allowed }
free_faultless a own e core m (calls.Improbe p) free stands allowed =
    record {
      own = refl;
      none = probing_faultless a own e core m p (search_limit_of e p) free
          (sym (search_rules e p (option_map (route_on p.source) (held_at (member_of e.groups) p.comm))) ∙ allowed);
    }
free_faultless a own e core m (calls.Mrecv q into) free stands allowed =
    message_faultless a own e core m q into free allowed
free_faultless a own e core m (calls.Enter comm x) free stands allowed =
    record { own = refl; none = entry_faultless a own e core m comm x free stands allowed }
free_faultless a own e core m (calls.Ask comm q) free stands allowed =
    record { own = refl; none = question_faultless a own e core m comm q free allowed }
