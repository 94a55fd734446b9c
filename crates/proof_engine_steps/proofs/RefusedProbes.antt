-- A matching probe, or a receive of a message that was taken out, that a rank refuses has a reason, and one that it
-- takes has no fault.
use Rattle.std.proofs.Common.{◌≡◌, ℕ, Bool, true, false, not, List, [], ◌∷◌, Option, Some, None, if◌then◌else◌}
use Rattle.std.proofs.Common.{option_map, refl, sym, ap, ◌∙◌}
use Rattle.vocabulary.specs.declared.envelope.Source.{Source}
use Rattle.vocabulary.specs.declared.envelope.Source.TheVariants as sources
use Rattle.match_queues.specs.declared.envelope.Message.{Message}
use Rattle.perfect_queues.specs.Buffers.{is_too_short}
use Rattle.perfect_queues.specs.Calls as machine
use Rattle.perfect_queues.specs.Refusals as rules
use Rattle.proof_pure_network.specs.Core.{Core, view}
use Rattle.proof_pure_network.specs.WaitingMessages.{blank}
use Rattle.requests.specs.Regions.{handed_of, is_unfit_to_receive}
use Rattle.requests.specs.Table as table
use Rattle.requests.specs.Table.{is_full, progress_at}
use Rattle.requests.specs.declared.region.Region.{Region}
use Rattle.requests.specs.declared.table.RequestProgress.{RequestProgress}
use Rattle.requests.specs.declared.table.Request.{Request}
use Rattle.point_to_point_calls.specs.CoreCalls as calls
use Rattle.point_to_point_calls.specs.declared.call.RoutedProbe.{RoutedProbe}
use Rattle.point_to_point_calls.specs.declared.refusal.Refusal.{Refusal}
use Rattle.point_to_point_calls.specs.declared.refusal.Refusal.TheVariants as refusals
use Rattle.point_to_point_calls.specs.FrameNews.{first_of}
use Rattle.point_to_point_calls.specs.Refusals.{number_of_refusal}
use Rattle.point_to_point.specs.Calls.{free_fault}
use Rattle.point_to_point.specs.CoreState.{CoreState}
use Rattle.point_to_point.specs.Messages.{found_for, full_if, message_fault, probe_rule, region_rule, search_limit}
use Rattle.proof_engine_view.specs.Faults.{queue_fault}
use Rattle.observation.specs.CoreCalls.{call_seen, own_serial, request_by, serial_meant}
use Rattle.proof_engine_view.specs.CoreViews.{IsShown}
use Rattle.proof_engine_view.specs.Transfers.{Announcements}
use Rattle.proof_engine_steps.specs.Refusals.{HasReason, IsFaultless}
use Rattle.observation.specs.Reasons.{IsOutOfRoom, MachinesFault, NoRoom}
use Rattle.proof_engine_steps.proofs.Probes.{search_fit, searches_judged}
use Rattle.proof_engine_steps.proofs.Reasons.{count_fault, limit_met, reason_is, type_fault}
use Rattle.proof_engine_steps.proofs.Standings.{IsPresent, meant_present, message_seen}
use Rattle.proof_engine_steps.proofs.RequestStarts.{core_free, fault_free, no_fault}

-- ---- MATCHING PROBES

-- the limit is met only where a message is found that can't be held
full_met : (c : CoreState) (o : Option Message) (why : Refusal) → full_if c o ≡ Some why → IsOutOfRoom why
full_met c None why h = absurd cc
full_met c (Some m) why h = limit_met (is_full c.slots c.serial) why h

search_met : (s : Source) (c : CoreState) (p : RoutedProbe) (why : Refusal) → search_limit s c p ≡ Some why →
    IsOutOfRoom why
search_met sources.Null c p why h = absurd cc
search_met sources.Any c p why h = full_met c (found_for c sources.Any p.probe.tag p.route.context) why h
search_met (sources.Rank r) c p why h = full_met c (found_for c (sources.Rank r) p.probe.tag p.route.context) why h

-- a matching probe that breaks a rule or meets the limit
pub search_reason : (links : Announcements) (old : CoreState) (known : List ℕ) (core : Core) (p : RoutedProbe)
    (why : Refusal) → IsShown links old known core → old.blocked ≡ None →
    free_fault old (calls.Improbe p) ≡ Some why → HasReason old core (calls.Improbe p) why
search_reason links old known core p why shown free fault = go (probe_rule old.place.size p.route.named p.probe.tag)
    refl fault
  where
    go : (o : Option Refusal) → probe_rule old.place.size p.route.named p.probe.tag ≡ o →
        first_of o (search_limit p.route.named old p) ≡ Some why → HasReason old core (calls.Improbe p) why
    go (Some x) e h =
        reason_is old core (calls.Improbe p) x why h
        (MachinesFault (searches_judged links old known core p shown free ∙ ap (option_map number_of_refusal) e))
    go None e h =
        NoRoom (search_met p.route.named old p why h) (searches_judged links old known core p shown free ∙
        ap (option_map number_of_refusal) e)

-- one that meets none
pub search_without_fault : (links : Announcements) (old : CoreState) (known : List ℕ) (core : Core) (p : RoutedProbe) →
    IsShown links old known core → old.blocked ≡ None → free_fault old (calls.Improbe p) ≡ None →
    IsFaultless (queue_fault old.place (view blank core) (call_seen (calls.Improbe p))) old (calls.Improbe p)
search_without_fault links old known core p shown free fine =
    record { own = refl; none = search_fit links old known core p shown free fine }

-- ---- RECEIVES OF MESSAGES

-- whether there is no such message; that of the null process there always is
abbrev is_unknown : CoreState → Option Request → Bool
is_unknown old None = false
is_unknown old (Some q) = not (table.is_message (progress_at old.slots q.key q.serial))

-- the first fault of such a receive
abbrev message_rules : (unknown : Bool) → Region → Option ℕ
message_rules unknown into =
    rules.first_fault (
    (unknown, 6) ∷ (false, 4) ∷ (is_unfit_to_receive (handed_of into), 2) ∷ (is_too_short (handed_of into), 1) ∷
    (false, 3) ∷ (false, 5) ∷ (false, 7) ∷ (false, 9) ∷ (false, 11) ∷ [])

-- the fault that the machine finds is by the rank's own tests
message_found : (links : Announcements) (old : CoreState) (known : List ℕ) (core : Core) (q : Option Request)
    (into : Region) → IsShown links old known core → old.blocked ≡ None →
    queue_fault old.place (view blank core) (machine.Mrecv (request_by (serial_meant old) q) (handed_of into)) ≡
    message_rules (is_unknown old q) into
message_found links old known core None into shown free =
    fault_free old.place core (machine.Mrecv None (handed_of into)) (core_free links old known core shown free)
message_found links old known core (Some q) into shown free =
    fault_free old.place core (machine.Mrecv (Some (serial_meant old q)) (handed_of into))
    (core_free links old known core shown free)
    ∙ ap (λ (b : Bool). message_rules (not b) into) (message_seen links old known core q shown)

-- the rank's test, the other way round
turned : (b : Bool) → (if b then None else Some refusals.Request) ≡ (if not b then Some refusals.Request else None)
turned true = refl
turned false = refl

unknown_is : (old : CoreState) (q : Option Request) → message_fault old q ≡
    (if is_unknown old q then Some refusals.Request else None)
unknown_is old None = refl
unknown_is old (Some q) = turned (table.is_message (progress_at old.slots q.key q.serial))

-- the first rule is broken
unknown_fault : (b : Bool) (into : Region) → b ≡ true → message_rules b into ≡ Some 6
unknown_fault b into h = rw h refl

-- a receive that breaks a rule
pub message_reason : (links : Announcements) (old : CoreState) (known : List ℕ) (core : Core) (q : Option Request)
    (into : Region) (why : Refusal) → IsShown links old known core → old.blocked ≡ None →
    free_fault old (calls.Mrecv q into) ≡ Some why → HasReason old core (calls.Mrecv q into) why
unfolding region_rule
message_reason links old known core q into why shown free fault =
    by_request (is_unknown old q) refl
    (sym (ap (λ (o : Option Refusal). first_of o (region_rule into)) (unknown_is old q)) ∙ fault)
  where
    unfit : Bool
    unfit = is_unfit_to_receive (handed_of into)

    short : Bool
    short = is_too_short (handed_of into)

    found : queue_fault old.place (view blank core)
        (machine.Mrecv (request_by (serial_meant old) q) (handed_of into)) ≡ message_rules (is_unknown old q) into
    found = message_found links old known core q into shown free

    by_length : is_unknown old q ≡ false → unfit ≡ false → (b : Bool) → short ≡ b →
        (if b then Some refusals.Count else None) ≡ Some why → HasReason old core (calls.Mrecv q into) why
    by_length known fit true e h =
        reason_is old core (calls.Mrecv q into) refusals.Count why h
        (MachinesFault (found ∙ count_fault (is_unknown old q) false unfit short false false known refl fit e))
    by_length known fit false e h = absurd cc

    by_type : is_unknown old q ≡ false → (b : Bool) → unfit ≡ b →
        (if b then Some refusals.WrongType else (if short then Some refusals.Count else None)) ≡ Some why →
        HasReason old core (calls.Mrecv q into) why
    by_type known true e h =
        reason_is old core (calls.Mrecv q into) refusals.WrongType why h
        (MachinesFault (found ∙ type_fault (is_unknown old q) false unfit short false false known refl e))
    by_type known false e h = by_length known e short refl h

    by_request : (b : Bool) → is_unknown old q ≡ b →
        first_of (if b then Some refusals.Request else None) (region_rule into) ≡ Some why →
        HasReason old core (calls.Mrecv q into) why
    by_request true e h =
        reason_is old core (calls.Mrecv q into) refusals.Request why h
        (MachinesFault (found ∙ unknown_fault (is_unknown old q) into e))
    by_request false e h = by_type e unfit refl h

-- What a receive that breaks no rule names is there, and its region is fit
record KeepsRules (old : CoreState) (q : Option Request) (into : Region) : Type 0 where
  named : is_unknown old q ≡ false
  fit : is_unfit_to_receive (handed_of into) ≡ false
  long : is_too_short (handed_of into) ≡ false

message_kept : (old : CoreState) (q : Option Request) (into : Region) → free_fault old (calls.Mrecv q into) ≡ None →
    KeepsRules old q into
unfolding region_rule
message_kept old q into fine =
    go (is_unknown old q) refl (sym (ap (λ (o : Option Refusal). first_of o (region_rule into)) (unknown_is old q)) ∙
    fine)
  where
    one_test : (b : Bool) → (if b then Some refusals.Count else None) ≡ None → b ≡ false
    one_test true h = absurd cc
    one_test false h = refl

    go : (b : Bool) → is_unknown old q ≡ b → first_of (if b then Some refusals.Request else None) (region_rule into) ≡
        None → KeepsRules old q into
    go true e h = absurd cc
    go false e h = by_type (is_unfit_to_receive (handed_of into)) refl h
      where
        by_type : (b : Bool) → is_unfit_to_receive (handed_of into) ≡ b →
            (if b then Some refusals.WrongType else
            (if is_too_short (handed_of into) then Some refusals.Count else None)) ≡ None → KeepsRules old q into
        by_type true f g = absurd cc
        by_type false f g = record { named = e; fit = f; long = one_test (is_too_short (handed_of into)) g }

-- a message that is there
message_there : (old : CoreState) (q : Request) → not (table.is_message (progress_at old.slots q.key q.serial)) ≡
    false → IsPresent old q
message_there old q h = go (progress_at old.slots q.key q.serial) refl h
  where
    go : (o : Option RequestProgress) → progress_at old.slots q.key q.serial ≡ o → not (table.is_message o) ≡ false →
        IsPresent old q
    go None e f = absurd cc
    go (Some g) e f = (g, e)

-- it means its own serial
message_own : (old : CoreState) (q : Option Request) → is_unknown old q ≡ false → request_by (serial_meant old) q ≡
    request_by own_serial q
message_own old None h = refl
message_own old (Some q) h = ap (λ (k : ℕ). Some k) (meant_present old q (message_there old q h))

-- one that breaks none
pub message_without_fault : (links : Announcements) (old : CoreState) (known : List ℕ) (core : Core)
    (q : Option Request) (into : Region) → IsShown links old known core → old.blocked ≡ None →
    free_fault old (calls.Mrecv q into) ≡ None →
    IsFaultless (queue_fault old.place (view blank core) (call_seen (calls.Mrecv q into))) old (calls.Mrecv q into)
message_without_fault links old known core q into shown free fine =
    record {
      own = ap (λ (k : Option ℕ). machine.Mrecv k (handed_of into)) own;
      none = ap (λ (k : Option ℕ). queue_fault old.place (view blank core) (machine.Mrecv k (handed_of into)))
          (sym own)
          ∙ (message_found links old known core q into shown free
          ∙ no_fault (is_unknown old q) false (is_unfit_to_receive (handed_of into)) (is_too_short (handed_of into))
          false false kept.named refl kept.fit kept.long refl refl);
    }
  where
    kept : KeepsRules old q into
    kept = message_kept old q into fine

    own : request_by (serial_meant old) q ≡ request_by own_serial q
    own = message_own old q kept.named
