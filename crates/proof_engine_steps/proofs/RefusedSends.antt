-- A send that meets a rule or a limit has a reason, and one that meets none has no fault.
use Rattle.std.proofs.Common.{◌≡◌, ℕ, ◌*◌, ◌≤◌, Bool, true, false, ◌||◌, List, length, Option, Some, None}
use Rattle.std.proofs.Common.{if◌then◌else◌, nat_lt, refl, ◌∙◌}
use Rattle.std.proofs.lemmas.Bool.{ltb-false}
use Rattle.vocabulary.specs.BasicTypes.{size_of}
use Rattle.perfect_queues.specs.Buffers.{data_of, differs_in_type, is_too_short}
use Rattle.vocabulary.specs.MessageLimits.{limit_of}
use Rattle.perfect_queues.specs.Refusals as rules
use Rattle.proof_pure_network.specs.Core.{Core, view}
use Rattle.proof_pure_network.specs.WaitingMessages.{blank}
use Rattle.requests.specs.Regions.{byte_count, handed_of}
use Rattle.requests.specs.Table.{is_full}
use Rattle.point_to_point_calls.specs.CoreCalls as calls
use Rattle.point_to_point_calls.specs.declared.call.RoutedSend.{RoutedSend}
use Rattle.point_to_point_calls.specs.declared.refusal.Refusal.{Refusal}
use Rattle.point_to_point_calls.specs.declared.refusal.Refusal.TheVariants as refusals
use Rattle.point_to_point.specs.CoreState.{CoreState}
use Rattle.point_to_point_calls.specs.SendRules.{announced_to, or_worn_out, send_fault}
use Rattle.point_to_point.specs.Sends.{or_full}
use Rattle.rendezvous.specs.State.{is_full_to}
use Rattle.proof_engine_view.specs.Faults.{queue_fault}
use Rattle.observation.specs.CoreCalls.{call_seen}
use Rattle.proof_engine_view.specs.CoreViews.{IsShown}
use Rattle.proof_engine_view.specs.Transfers.{Announcements}
use Rattle.proof_engine_steps.specs.Refusals.{HasReason}
use Rattle.observation.specs.Reasons.{IsOutOfRoom, MachinesFault, NoRoom}
use Rattle.proof_engine_steps.proofs.Reasons.{count_fault, limit_met, rank_fault, reason_is, tag_fault, type_fault}
use Rattle.proof_engine_steps.proofs.Sends.{send_count, send_fit, send_over, send_rules}
use Rattle.proof_engine_steps.proofs.RequestStarts.{core_free, fault_free}

-- a send that breaks a rule of the engine
send_fault_reason : (old : CoreState) (core : Core) (s : RoutedSend) (x : Refusal) → core.blocked ≡ None →
    send_fault old.place s ≡ Some x →
    HasReason old core (calls.Isend s) x
unfolding send_fault
send_fault_reason old core s x free fault = by_type differs refl fault
  where
    n : ℕ
    n = old.place.size

    -- the most bytes of a message of the job
    limit : ℕ
    limit = limit_of old.place.message_limit

    differs : Bool
    differs = differs_in_type (handed_of s.send.from)

    short : Bool
    short = is_too_short (handed_of s.send.from)

    -- the machine's rule on counts
    count : Bool
    count =
        nat_lt limit (length (data_of (handed_of s.send.from)) * size_of (handed_of s.send.from).buffer.basic) ||
        is_too_short (handed_of s.send.from)

    high : Bool
    high = rules.is_no_tag s.send.tag

    beyond : Bool
    beyond = rules.is_no_target n s.route.named

    -- what is left of the rules
    last : Option Refusal
    last = if beyond then Some refusals.Rank else None

    by_rank : differs ≡ false → byte_count s.send.from ≤ limit → short ≡ false → high ≡ false →
        (b : Bool) → beyond ≡ b →
        (if b then Some refusals.Rank else None) ≡ Some x → HasReason old core (calls.Isend s) x
    by_rank one few long low true e h =
        reason_is old core (calls.Isend s) refusals.Rank x h
        (MachinesFault (fault_free old.place core (call_seen (calls.Isend s)) free ∙
        rank_fault false false differs count high beyond refl refl one (send_count limit s false few long) low e))
    by_rank one few long low false e h = absurd cc

    by_tag : differs ≡ false → byte_count s.send.from ≤ limit → short ≡ false → (b : Bool) → high ≡ b →
        (if b then Some refusals.Tag else last) ≡ Some x → HasReason old core (calls.Isend s) x
    by_tag one few long true e h =
        reason_is old core (calls.Isend s) refusals.Tag x h
        (MachinesFault (fault_free old.place core (call_seen (calls.Isend s)) free ∙
        tag_fault false false differs count high beyond refl refl one (send_count limit s false few long) e))
    by_tag one few long false e h = by_rank one few long e beyond refl h

    by_length : differs ≡ false → byte_count s.send.from ≤ limit → (b : Bool) → short ≡ b →
        (if b then Some refusals.Count else (if high then Some refusals.Tag else last)) ≡ Some x →
        HasReason old core (calls.Isend s) x
    by_length one few true e h =
        reason_is old core (calls.Isend s) refusals.Count x h
        (MachinesFault (fault_free old.place core (call_seen (calls.Isend s)) free ∙
        count_fault false false differs count high beyond refl refl one (send_count limit s true few e)))
    by_length one few false e h = by_tag one few e high refl h

    by_count : differs ≡ false → (b : Bool) → nat_lt limit (byte_count s.send.from) ≡ b →
        (if b then Some refusals.Count else
        (if short then Some refusals.Count else (if high then Some refusals.Tag else last))) ≡ Some x →
        HasReason old core (calls.Isend s) x
    by_count one true e h =
        reason_is old core (calls.Isend s) refusals.Count x h
        (MachinesFault (fault_free old.place core (call_seen (calls.Isend s)) free ∙
        count_fault false false differs count high beyond refl refl one (send_over limit s e)))
    by_count one false e h = by_length one (ltb-false limit (byte_count s.send.from) e) short refl h

    by_type : (b : Bool) → differs ≡ b →
        (if b then Some refusals.WrongType else
        (if nat_lt limit (byte_count s.send.from) then Some refusals.Count else
        (if short then Some refusals.Count else (if high then Some refusals.Tag else last)))) ≡ Some x →
        HasReason old core (calls.Isend s) x
    by_type true e h =
        reason_is old core (calls.Isend s) refusals.WrongType x h
        (MachinesFault (fault_free old.place core (call_seen (calls.Isend s)) free ∙
        type_fault false false differs count high beyond refl refl e))
    by_type false e h = by_count e (nat_lt limit (byte_count s.send.from)) refl h

-- the machine finds no fault with a send that breaks no rule of the rank's
pub send_faultless : (links : Announcements) (old : CoreState) (known : List ℕ) (core : Core) (s : RoutedSend) →
    IsShown links old known core → old.blocked ≡ None → send_fault old.place s ≡ None →
    queue_fault old.place (view blank core) (call_seen (calls.Isend s)) ≡ None
send_faultless links old known core s shown free fine =
    send_fit old.place core s (core_free links old known core shown free) (send_rules old.place s fine)

-- a send that meets no limit breaks no rule
pub no_send_fault : (old : CoreState) (s : RoutedSend) →
    or_worn_out (or_full (send_fault old.place s) old) (announced_to old.place s) old.transfers ≡ None →
    send_fault old.place s ≡ None
no_send_fault old s h = go (send_fault old.place s) h
  where
    go : (f : Option Refusal) → or_worn_out (or_full f old) (announced_to old.place s) old.transfers ≡ None → f ≡ None
    go None e = refl
    go (Some x) e = absurd cc

-- a send that breaks a rule or meets the limit
pub send_reason : (links : Announcements) (old : CoreState) (known : List ℕ) (core : Core) (s : RoutedSend)
    (why : Refusal) → IsShown links old known core → old.blocked ≡ None →
    or_worn_out (or_full (send_fault old.place s) old) (announced_to old.place s) old.transfers ≡ Some why →
    HasReason old core (calls.Isend s) why
send_reason links old known core s why shown free fault = go (send_fault old.place s) refl fault
  where
    -- no request or no transfer is left
    room : (b : Bool) (r : Option ℕ) → or_worn_out (if b then Some refusals.Limit else None) r old.transfers ≡
        Some why → IsOutOfRoom why
    room true r h = limit_met true why h
    room false None h = limit_met false why h
    room false (Some rank) h = limit_met (is_full_to old.transfers.numbers rank) why h

    go : (f : Option Refusal) → send_fault old.place s ≡ f →
        or_worn_out (or_full f old) (announced_to old.place s) old.transfers ≡ Some why →
        HasReason old core (calls.Isend s) why
    go (Some x) e h =
        reason_is old core (calls.Isend s) x why h
        (send_fault_reason old core s x (core_free links old known core shown free) e)
    go None e h =
        NoRoom (room (is_full old.slots old.serial) (announced_to old.place s) h)
        (send_faultless links old known core s shown free e)
