-- The fault of a call with a route: the first of the queues' rules, and then of the communicator's.
use Rattle.std.proofs.Common.{◌≡◌, ℕ, Bool, true, false, ◌||◌, arith, if◌then◌else◌, List, [], ◌∷◌, Option, Some, None}
use Rattle.std.proofs.Common.{refl, sym, ap, subst, ◌∙◌, inl, inr}
use Rattle.datagram.specs.Spellings.{OutgoingText}
use Rattle.engine_calls.specs.EngineState.{EngineState, member_of}
use Rattle.engine_calls.specs.Faults.{group_limit, routed_limit}
use Rattle.engine_calls.specs.Frames.{frame_limit}
use Rattle.engine_calls.specs.Refusals.{fault_of_sessions, first_fault}
use Rattle.communicators.specs.Rules.{known_by}
use Rattle.perfect_groups.specs.Calls.{Call, queue_call}
use Rattle.perfect_groups.specs.Faults.{fault, is_within, wrong_incarnation, wrong_rank}
use Rattle.perfect_groups.specs.Membership.{Membership}
use Rattle.perfect_queues.specs.Calls as queues
use Rattle.perfect_queues.specs.Buffers.{differs_in_type, is_too_short}
use Rattle.perfect_queues.specs.Refusals as rules
use Rattle.perfect_queues.specs.Refusals.{is_count_wrong, is_held, is_no_tag, is_no_target, is_rank_wrong}
use Rattle.perfect_queues.specs.Refusals.{is_request_wrong, is_source_beyond, is_tag_above, is_tag_wrong, is_type_wrong}
use Rattle.perfect_queues.specs.Refusals.{standing}
use Rattle.vocabulary.specs.MessageLimits.{limit_of}
use Rattle.vocabulary.specs.declared.envelope.Source.{Source}
use Rattle.vocabulary.specs.declared.envelope.Source.TheVariants as sources
use Rattle.vocabulary.specs.declared.message_limit.MessageLimit.{MessageLimit}
use Rattle.perfect_queues.specs.State.{Local}
use Rattle.incarnation.specs.declared.place.Place.{Place}
use Rattle.proof_engine_steps.proofs.RefusedCalls.{allowed_calls_are_faultless, faults_have_reasons}
use Rattle.proof_engine_steps.specs.Refusals as cores
use Rattle.observation.specs.Reasons.{IsOutOfRoom, IsReason, MachinesFault, NoRoom}
use Rattle.proof_engine_view.specs.Faults.{queue_fault}
use Rattle.observation.specs.CoreCalls.{call_meant, call_seen}
use Rattle.proof_engine_view.specs.CoreViews.{IsShown}
use Rattle.proof_engine_view.specs.Transfers.{Announcements}
use Rattle.proof_pure_network.specs.Core.{Core, view}
use Rattle.proof_pure_network.specs.WaitingMessages.{blank}
use Rattle.proof_queue_calls.proofs.CallFaults.{of_both_halves}
use Rattle.proof_queue_calls.specs.Halves.{AreInWorld}
use Rattle.point_to_point_calls.specs.FrameNews.{first_of}
use Rattle.point_to_point_calls.specs.Refusals.{number_of_refusal}
use Rattle.point_to_point_calls.specs.SendRules.{announced_to, or_worn_out, send_fault}
use Rattle.point_to_point_calls.specs.declared.call.RoutedReceive as core_receives
use Rattle.point_to_point_calls.specs.declared.call.RoutedSend as core_sends
use Rattle.point_to_point_calls.specs.CoreCalls as core_calls
use Rattle.point_to_point_calls.specs.declared.refusal.Refusal.{Refusal}
use Rattle.point_to_point_calls.specs.declared.refusal.Refusal.TheVariants as refusals
use Rattle.point_to_point.specs.Calls.{argument_fault, call_fault, call_frame, fault_at, free_fault, free_request_fault}
use Rattle.point_to_point.specs.Calls.{limit_fault}
use Rattle.match_queues.specs.declared.envelope.Message.{Message}
use Rattle.point_to_point_calls.specs.declared.call.RoutedProbe as core_probes
use Rattle.point_to_point.specs.CoreState.{CoreState}
use Rattle.point_to_point.specs.Messages.{found_for, full_if, probe_rule, region_rule, search_limit}
use Rattle.point_to_point.specs.Receives.{receive_fault, receive_rule}
use Rattle.point_to_point.specs.Sends.{or_full}
use Rattle.rendezvous.specs.State.{State, is_full_to}
use Rattle.requests.specs.Regions.{byte_count, handed_of, is_unfit_to_receive}
use Rattle.requests.specs.declared.region.Region.{Region}
use Rattle.requests.specs.Table.{is_full}
use Rattle.requests.specs.declared.awaited_requests.Awaited.{Awaited}
use Rattle.sessions.specs.SessionsState.{SessionsState}
use Rattle.sessions.specs.Peers.{peer_at}
use Rattle.sessions.specs.Events.{is_worn_out}
use Rattle.sessions.specs.declared.refusal.SessionRefusal.TheVariants as lowers
use Rattle.std.specs.Prelude.{length, nat_lt, slice_get}
use Rattle.vocabulary.specs.declared.endpoint.Endpoint.{Endpoint}

same_refusal : (x y : Refusal) → Some x ≡ Some y → x ≡ y
same_refusal x y h = cc

-- ---- WHERE NO EARLIER CALL IS BLOCKED

-- An engine of which no earlier call is blocked, neither on requests nor in a collective: its core holds what that of
-- the network holds, and what it keeps of communicators and of ranks is what the member and the core hold
pub record IsFree (a : Announcements) (e : EngineState) (core : Core) (m : Membership) : Type 0 where
  pub shown : IsShown a e.core e.sessions.known core
  pub idle : e.core.blocked ≡ None
  pub apart : is_within m.present ≡ false
  pub held : m.held ≡ (member_of e.groups).held
  pub known : core.known ≡ known_by e.sessions.known
  pub inside : AreInWorld e.core.place.size m
  pub placed : e.core.place ≡ e.sessions.place
  pub limit : core.message_limit ≡ e.core.place.message_limit

-- ---- THE MACHINE'S RULES

-- the first of two faults
abbrev pub or_fault : Option ℕ → Option ℕ → Option ℕ
or_fault None other = other
or_fault (Some x) other = Some x

six_same : (h w x : Bool) → w ≡ false → ((h || w) || x) ≡ (h || x)
six_same true w x is = refl
six_same false w x is = ap (λ (t : Bool). t || x) is

halves : (six two one three own five eleven : Bool) →
    rules.first_fault ((six, 6) ∷ (two, 2) ∷ (one, 1) ∷ (three, 3) ∷ (own, 5) ∷ (five, 5) ∷ (eleven, 11) ∷ [])
    ≡ or_fault (rules.first_fault ((six, 6) ∷ (false, 4) ∷ (two, 2) ∷ (one, 1) ∷ (three, 3) ∷ (own, 5) ∷ (false, 7) ∷
    (false, 9) ∷ (false, 11) ∷ []))
    (rules.first_fault ((five, 5) ∷ (eleven, 11) ∷ []))
halves true two one three own five eleven = refl
halves false true one three own five eleven = refl
halves false false true three own five eleven = refl
halves false false false true own five eleven = refl
halves false false false false true five eleven = refl
halves false false false false false five eleven = refl

-- the queues' fault, or else the communicator's
pub fault_cut : (a : Announcements) (own : Endpoint) (e : EngineState) (core : Core) (m : Membership) (c : Call)
    (q : queues.Call) → IsFree a e core m → queue_call m c ≡ Some q →
    fault own (view blank core) m c
    ≡ or_fault (queue_fault e.core.place (view blank core) q)
    (rules.first_fault ((wrong_rank m c, 5) ∷ (wrong_incarnation core.known m c, 11) ∷ []))
fault_cut a own e core m c q free routed =
    of_both_halves n own l m c q free.inside routed
    ∙ ap (λ (most : MessageLimit). rules.first_fault (((is_held l.blocked || is_within m.present) || wrong, 6) ∷
    (is_type_wrong q, 2) ∷ (is_count_wrong most q, 1) ∷ (is_tag_wrong q, 3) ∷ (is_rank_wrong n q, 5) ∷
    (wrong_rank m c, 5) ∷ (wrong_incarnation l.known m c, 11) ∷ [])) free.limit
    ∙ ap (λ (six : Bool). rules.first_fault ((six, 6) ∷ (is_type_wrong q, 2) ∷ (is_count_wrong most q, 1) ∷
    (is_tag_wrong q, 3) ∷ (is_rank_wrong n q, 5) ∷ (wrong_rank m c, 5) ∷ (wrong_incarnation l.known m c, 11) ∷ []))
    (six_same (is_held l.blocked) (is_within m.present) wrong free.apart)
    ∙ halves (is_held l.blocked || wrong) (is_type_wrong q) (is_count_wrong most q) (is_tag_wrong q) (is_rank_wrong n q)
    (wrong_rank m c) (wrong_incarnation l.known m c)
  where
    n : ℕ
    n = e.core.place.size

    -- the job's limit of messages
    most : MessageLimit
    most = e.core.place.message_limit

    l : Local
    l = view blank core

    wrong : Bool
    wrong = is_request_wrong (λ k. standing (slice_get l.requests k)) q

-- the queues never find a limit
thirteen : (six two one three own : Bool) →
    rules.first_fault ((six, 6) ∷ (false, 4) ∷ (two, 2) ∷ (one, 1) ∷ (three, 3) ∷ (own, 5) ∷ (false, 7) ∷ (false, 9) ∷
    (false, 11) ∷ []) ≡ Some 13 → ⊥
thirteen true two one three own h = absurd (grind arith)
thirteen false true one three own h = absurd (grind arith)
thirteen false false true three own h = absurd (grind arith)
thirteen false false false true own h = absurd (grind arith)
thirteen false false false false true h = absurd (grind arith)
thirteen false false false false false h = absurd (grind arith)

-- ---- THE ENGINE'S LIMITS

full_is : (b : Bool) (x : Refusal) → (if b then Some refusals.Limit else None) ≡ Some x → x ≡ refusals.Limit
full_is true x h = sym (same_refusal refusals.Limit x h)
full_is false x h = absurd cc

worn_is : (full : Bool) (rank : Option ℕ) (t : State) (x : Refusal) →
    or_worn_out (if full then Some refusals.Limit else None) rank t ≡ Some x → x ≡ refusals.Limit
worn_is true rank t x h = sym (same_refusal refusals.Limit x h)
worn_is false None t x h = absurd cc
worn_is false (Some rank) t x h = full_is (is_full_to t.numbers rank) x h

held_full : (c : CoreState) (m : Option Message) (x : Refusal) → full_if c m ≡ Some x → x ≡ refusals.Limit
held_full c None x h = absurd cc
held_full c (Some m) x h = full_is (is_full c.slots c.serial) x h

search_full : (source : Source) (c : CoreState) (p : core_probes.RoutedProbe) (x : Refusal) →
    search_limit source c p ≡ Some x → x ≡ refusals.Limit
search_full sources.Null c p x h = absurd cc
search_full sources.Any c p x h = held_full c (found_for c sources.Any p.probe.tag p.route.context) x h
search_full (sources.Rank r) c p x h = held_full c (found_for c (sources.Rank r) p.probe.tag p.route.context) x h

-- the only limit of a core is 13
limit_is : (c : CoreState) (q : core_calls.RoutedCall) (x : Refusal) → limit_fault c q ≡ Some x → x ≡ refusals.Limit
limit_is c (core_calls.Isend s) x h = worn_is (is_full c.slots c.serial) (announced_to c.place s) c.transfers x h
limit_is c (core_calls.Irecv v) x h = full_is (is_full c.slots c.serial) x h
limit_is c (core_calls.Wait q) x h = absurd cc
limit_is c (core_calls.Test q) x h = absurd cc
limit_is c (core_calls.Waitany qs) x h = absurd cc
limit_is c (core_calls.Waitall qs) x h = absurd cc
limit_is c (core_calls.Cancel q) x h = absurd cc
limit_is c (core_calls.Improbe p) x h = search_full p.route.named c p x h
limit_is c (core_calls.Mrecv q into) x h = absurd cc

worn_out : (b : Bool) (x : Refusal) → fault_of_sessions (if b then Some lowers.Limit else None) ≡ Some x →
    x ≡ refusals.Limit
worn_out true x h = sym (same_refusal refusals.Limit x h)
worn_out false x h = absurd cc

-- so is that of a frame
frame_full : (s : SessionsState) (f : Option OutgoingText) (x : Refusal) → frame_limit s f ≡ Some x → x ≡ refusals.Limit
frame_full s None x h = absurd cc
frame_full s (Some f) x h = worn_out (is_worn_out (peer_at s.peers f.target).sender) x h

-- and the first of two
either_is : (o p : Option Refusal) (x : Refusal) → ((y : Refusal) → o ≡ Some y → y ≡ refusals.Limit) →
    ((y : Refusal) → p ≡ Some y → y ≡ refusals.Limit) → first_fault o p ≡ Some x →
    x ≡ refusals.Limit
either_is (Some y) p x one other h = sym (same_refusal y x h) ∙ one y refl
either_is None p x one other h = other x h

pub routed_full : (e : EngineState) (q : core_calls.RoutedCall) (x : Refusal) → routed_limit e q ≡ Some x →
    x ≡ refusals.Limit
routed_full e q x h =
    either_is (limit_fault e.core q) (frame_limit e.sessions (call_frame e.core q)) x (limit_is e.core q)
    (frame_full e.sessions (call_frame e.core q)) h

-- that of a group is
pub group_full : (o : Option (List ℕ)) (x : Refusal) → group_limit o ≡ Some x → x ≡ refusals.Limit
group_full None x h = absurd cc
group_full (Some group) x h = full_is (nat_lt 65535 (length group)) x h

-- and of a receive with its group
pub group_routed_full : (e : EngineState) (group : Option (List ℕ)) (q : core_calls.RoutedCall) (x : Refusal) →
    first_fault (group_limit group) (routed_limit e q) ≡ Some x → x ≡ refusals.Limit
group_routed_full e group q x h =
    either_is (group_limit group) (routed_limit e q) x (group_full group) (routed_full e q) h

-- ---- THE ENGINE'S RULES

four_tests : (a b c d : Bool) (x : Refusal) →
    (if a then Some refusals.WrongType else
    (if b then Some refusals.Count else (if c then Some refusals.Tag else (if d then Some refusals.Rank else None)))) ≡
    Some x →
    IsOutOfRoom x → ⊥
four_tests true b c d x h (inl i) =
    let t : refusals.WrongType ≡ refusals.Limit = same_refusal refusals.WrongType x h ∙ i in absurd cc
four_tests true b c d x h (inr i) =
    let t : refusals.WrongType ≡ refusals.OutOfMemory = same_refusal refusals.WrongType x h ∙ i in absurd cc
four_tests false true c d x h (inl i) =
    let t : refusals.Count ≡ refusals.Limit = same_refusal refusals.Count x h ∙ i in absurd cc
four_tests false true c d x h (inr i) =
    let t : refusals.Count ≡ refusals.OutOfMemory = same_refusal refusals.Count x h ∙ i in absurd cc
four_tests false false true d x h (inl i) =
    let t : refusals.Tag ≡ refusals.Limit = same_refusal refusals.Tag x h ∙ i in absurd cc
four_tests false false true d x h (inr i) =
    let t : refusals.Tag ≡ refusals.OutOfMemory = same_refusal refusals.Tag x h ∙ i in absurd cc
four_tests false false false true x h (inl i) =
    let t : refusals.Rank ≡ refusals.Limit = same_refusal refusals.Rank x h ∙ i in absurd cc
four_tests false false false true x h (inr i) =
    let t : refusals.Rank ≡ refusals.OutOfMemory = same_refusal refusals.Rank x h ∙ i in absurd cc
four_tests false false false false x h room = absurd cc

five_tests : (a b b' c d : Bool) (x : Refusal) →
    (if a then Some refusals.WrongType else
    (if b then Some refusals.Count else
    (if b' then Some refusals.Count else
    (if c then Some refusals.Tag else (if d then Some refusals.Rank else None))))) ≡ Some x →
    IsOutOfRoom x → ⊥
five_tests a true b' c d x h room = four_tests a true c d x h room
five_tests a false b' c d x h room = four_tests a b' c d x h room

send_rule_room : (p : Place) (s : core_sends.RoutedSend) (x : Refusal) → send_fault p s ≡ Some x → IsOutOfRoom x → ⊥
unfolding send_fault
send_rule_room p s x h room =
    five_tests (differs_in_type (handed_of s.send.from)) (nat_lt (limit_of p.message_limit) (byte_count s.send.from))
    (is_too_short (handed_of s.send.from)) (is_no_tag s.send.tag) (is_no_target p.size s.route.named) x h room

receive_rule_room : (size : ℕ) (v : core_receives.RoutedReceive) (x : Refusal) → receive_rule size v ≡ Some x →
    IsOutOfRoom x → ⊥
unfolding receive_rule
receive_rule_room size v x h room =
    four_tests (is_unfit_to_receive (handed_of v.receive.into)) (is_too_short (handed_of v.receive.into))
    (is_tag_above v.receive.tag)
    (is_source_beyond size v.route.named) x h room

two_tests : (a b : Bool) (one two x : Refusal) → (IsOutOfRoom one → ⊥) → (IsOutOfRoom two → ⊥) →
    (if a then Some one else (if b then Some two else None)) ≡ Some x → IsOutOfRoom x → ⊥
two_tests true b one two x none other h room = none (subst IsOutOfRoom (sym (same_refusal one x h)) room)
two_tests false true one two x none other h room = other (subst IsOutOfRoom (sym (same_refusal two x h)) room)
two_tests false false one two x none other h room = absurd cc

no_room_is : (x : Refusal) → (x ≡ refusals.Limit → ⊥) → (x ≡ refusals.OutOfMemory → ⊥) → IsOutOfRoom x → ⊥
no_room_is x limit memory (inl i) = limit i
no_room_is x limit memory (inr i) = memory i

probe_rule_room : (size : ℕ) (source : Source) (tag : Option ℕ) (x : Refusal) → probe_rule size source tag ≡ Some x →
    IsOutOfRoom x → ⊥
unfolding probe_rule
probe_rule_room size source tag x h room =
    two_tests (is_tag_above tag) (is_source_beyond size source) refusals.Tag refusals.Rank x
    (λ r. no_room_is refusals.Tag (λ i. absurd cc) (λ i. absurd cc) r)
    (λ r. no_room_is refusals.Rank (λ i. absurd cc) (λ i. absurd cc) r) h room

region_rule_room : (into : Region) (x : Refusal) → region_rule into ≡ Some x → IsOutOfRoom x → ⊥
unfolding region_rule
region_rule_room into x h room =
    two_tests (is_unfit_to_receive (handed_of into)) (is_too_short (handed_of into)) refusals.WrongType refusals.Count x
    (λ r. no_room_is refusals.WrongType (λ i. absurd cc) (λ i. absurd cc) r)
    (λ r. no_room_is refusals.Count (λ i. absurd cc) (λ i. absurd cc) r) h room

-- what a call breaks by what it hands in is no limit
argument_room : (p : Place) (q : core_calls.RoutedCall) (x : Refusal) → argument_fault p q ≡ Some x → IsOutOfRoom x → ⊥
argument_room p (core_calls.Isend s) x h room = send_rule_room p s x h room
argument_room p (core_calls.Irecv v) x h room = receive_rule_room p.size v x h room
argument_room p (core_calls.Wait q) x h room = absurd cc
argument_room p (core_calls.Test q) x h room = absurd cc
argument_room p (core_calls.Waitany qs) x h room = absurd cc
argument_room p (core_calls.Waitall qs) x h room = absurd cc
argument_room p (core_calls.Cancel q) x h room = absurd cc
argument_room p (core_calls.Improbe q) x h room = probe_rule_room p.size q.route.named q.probe.tag x h room
argument_room p (core_calls.Mrecv q into) x h room = region_rule_room into x h room

-- ---- WHAT THE QUEUES FIND

-- a send's rules stand before its limits
send_cut : (fault : Option Refusal) (c : CoreState) (rank : Option ℕ) (t : State) →
    or_worn_out (or_full fault c) rank t ≡ first_of fault (or_worn_out (or_full None c) rank t)
send_cut None c rank t = refl
send_cut (Some fault) c rank t = refl

tests_cut : (a b c d full : Bool) →
    (if a then Some refusals.WrongType else
    (if b then Some refusals.Count else
    (if c then Some refusals.Tag else
    (if d then Some refusals.Rank else (if full then Some refusals.Limit else None)))))
    ≡ first_of (if a then Some refusals.WrongType else
    (if b then Some refusals.Count else
    (if c then Some refusals.Tag else (if d then Some refusals.Rank else None))))
    (if full then Some refusals.Limit else None)
tests_cut true b c d full = refl
tests_cut false true c d full = refl
tests_cut false false true d full = refl
tests_cut false false false true full = refl
tests_cut false false false false full = refl

-- so do a receive's
receive_cut : (c : CoreState) (v : core_receives.RoutedReceive) →
    receive_fault c v ≡ first_of (receive_rule c.place.size v) (or_full None c)
unfolding receive_fault receive_rule
receive_cut c v =
    tests_cut (is_unfit_to_receive (handed_of v.receive.into)) (is_too_short (handed_of v.receive.into))
    (is_tag_above v.receive.tag)
    (is_source_beyond c.place.size v.route.named) (is_full c.slots c.serial)

first_alone : (o : Option Refusal) → o ≡ first_of o None
first_alone None = refl
first_alone (Some x) = refl

-- the fault of a call whose requests are in order, while no earlier one is blocked
free_cut : (c : CoreState) (q : core_calls.RoutedCall) → free_request_fault c q ≡ None →
    free_fault c q ≡ first_of (argument_fault c.place q) (limit_fault c q)
free_cut c (core_calls.Isend s) requests = send_cut (send_fault c.place s) c (announced_to c.place s) c.transfers
free_cut c (core_calls.Irecv v) requests = receive_cut c v
free_cut c (core_calls.Wait q) requests = requests
free_cut c (core_calls.Test q) requests = requests
free_cut c (core_calls.Waitany qs) requests = requests
free_cut c (core_calls.Waitall qs) requests = requests
free_cut c (core_calls.Cancel q) requests = requests
free_cut c (core_calls.Improbe p) requests = refl
free_cut c (core_calls.Mrecv q into) requests = ap (λ (o : Option Refusal). first_of o (region_rule into)) requests ∙
    first_alone (region_rule into)

pub core_fault : (c : CoreState) (q : core_calls.RoutedCall) → c.blocked ≡ None → free_request_fault c q ≡ None →
    call_fault c q ≡ first_of (argument_fault c.place q) (limit_fault c q)
core_fault c q idle requests = ap (λ (b : Option Awaited). fault_at b c q) idle ∙ free_cut c q requests

-- what it hands in is wrong: the machine's queues find the same
pub rule_broken : (a : Announcements) (e : EngineState) (core : Core) (m : Membership) (q : core_calls.RoutedCall)
    (x : Refusal) → IsFree a e core m → free_request_fault e.core q ≡ None →
    argument_fault e.core.place q ≡ Some x → queue_fault e.core.place (view blank core) (call_meant e.core q) ≡
    Some (number_of_refusal x)
rule_broken a e core m q x free requests is =
    go (faults_have_reasons a e.core e.sessions.known core q x free.shown
    (core_fault e.core q free.idle requests ∙ ap (λ (o : Option Refusal). first_of o (limit_fault e.core q)) is))
  where
    go : cores.HasReason e.core core q x → queue_fault e.core.place (view blank core) (call_meant e.core q) ≡
        Some (number_of_refusal x)
    go (MachinesFault found) = found
    go (NoRoom room none) = absurd (argument_room e.core.place q x is room)

-- nothing that it hands in is wrong: they find nothing
pub rule_kept : (a : Announcements) (e : EngineState) (core : Core) (m : Membership) (q : core_calls.RoutedCall) →
    IsFree a e core m → free_request_fault e.core q ≡ None →
    call_meant e.core q ≡ call_seen q → argument_fault e.core.place q ≡ None →
    queue_fault e.core.place (view blank core) (call_meant e.core q) ≡ None
rule_kept a e core m q free requests same is = by_limit (limit_fault e.core q) refl
  where
    l : Local
    l = view blank core

    found : Option ℕ
    found = queue_fault e.core.place l (call_meant e.core q)

    at_limit : (o : Option Refusal) → limit_fault e.core q ≡ o → call_fault e.core q ≡ o
    at_limit o limit = core_fault e.core q free.idle requests ∙
        ap (λ (p : Option Refusal). first_of p (limit_fault e.core q)) is ∙ limit

    full : (x : Refusal) → x ≡ refusals.Limit → IsReason found x → found ≡ None
    full x limit (MachinesFault is_found) = absurd (thirteen
        (is_held l.blocked || is_request_wrong (λ k. standing (slice_get l.requests k)) (call_meant e.core q))
        (is_type_wrong (call_meant e.core q))
        (is_count_wrong e.core.place.message_limit (call_meant e.core q))
        (is_tag_wrong (call_meant e.core q))
        (is_rank_wrong e.core.place.size (call_meant e.core q))
        (is_found ∙ ap (λ (y : Refusal). Some (number_of_refusal y)) limit))
    full x limit (NoRoom room none) = none

    by_limit : (o : Option Refusal) → limit_fault e.core q ≡ o → found ≡ None
    by_limit (Some x) limit =
        full x (limit_is e.core q x limit)
        (faults_have_reasons a e.core e.sessions.known core q x free.shown (at_limit (Some x) limit))
    by_limit None limit = ap (λ (c : queues.Call). queue_fault e.core.place l c) same ∙
        (allowed_calls_are_faultless a e.core e.sessions.known core q free.shown (at_limit None limit)).none
