-- A receive that meets a rule or a limit has a reason, and one that meets none has no fault.
use Rattle.std.proofs.Common.{◌≡◌, ℕ, Bool, true, false, List, Option, Some, None, if◌then◌else◌, refl, ◌∙◌}
use Rattle.perfect_queues.specs.Buffers.{is_too_short}
use Rattle.perfect_queues.specs.Refusals as rules
use Rattle.proof_pure_network.specs.Core.{Core, view}
use Rattle.proof_pure_network.specs.WaitingMessages.{blank}
use Rattle.requests.specs.Regions.{handed_of, is_unfit_to_receive}
use Rattle.requests.specs.Table.{is_full}
use Rattle.point_to_point_calls.specs.CoreCalls as calls
use Rattle.point_to_point_calls.specs.declared.call.RoutedReceive.{RoutedReceive}
use Rattle.point_to_point_calls.specs.declared.refusal.Refusal.{Refusal}
use Rattle.point_to_point_calls.specs.declared.refusal.Refusal.TheVariants as refusals
use Rattle.point_to_point.specs.CoreState.{CoreState}
use Rattle.point_to_point.specs.Receives.{receive_fault}
use Rattle.proof_engine_view.specs.Faults.{queue_fault}
use Rattle.observation.specs.CoreCalls.{call_seen}
use Rattle.proof_engine_view.specs.CoreViews.{IsShown}
use Rattle.proof_engine_view.specs.Transfers.{Announcements}
use Rattle.proof_engine_steps.specs.Refusals.{HasReason}
use Rattle.observation.specs.Reasons.{MachinesFault, NoRoom}
use Rattle.proof_engine_steps.proofs.Posts.{post_fit, receive_rules}
use Rattle.proof_engine_steps.proofs.Reasons.{count_fault, limit_met, rank_fault, reason_is, tag_fault, type_fault}
use Rattle.proof_engine_steps.proofs.RequestStarts.{core_free, fault_free}

-- the machine finds no fault with a receive that meets no rule of the rank's
pub receive_faultless : (links : Announcements) (old : CoreState) (known : List ℕ) (core : Core) (v : RoutedReceive) →
    IsShown links old known core → old.blocked ≡ None → receive_fault old v ≡ None →
    queue_fault old.place (view blank core) (call_seen (calls.Irecv v)) ≡ None
receive_faultless links old known core v shown free fine =
    post_fit old.place core v (core_free links old known core shown free) (receive_rules old v fine)

-- a receive that breaks a rule or meets the limit
pub receive_reason : (links : Announcements) (old : CoreState) (known : List ℕ) (core : Core) (v : RoutedReceive)
    (why : Refusal) → IsShown links old known core → old.blocked ≡ None →
    receive_fault old v ≡ Some why → HasReason old core (calls.Irecv v) why
unfolding receive_fault
receive_reason links old known core v why shown free fault = by_type unfit refl fault
  where
    n : ℕ
    n = old.place.size

    core_is : core.blocked ≡ None
    core_is = core_free links old known core shown free

    unfit : Bool
    unfit = is_unfit_to_receive (handed_of v.receive.into)

    short : Bool
    short = is_too_short (handed_of v.receive.into)

    high : Bool
    high = rules.is_tag_above v.receive.tag

    beyond : Bool
    beyond = rules.is_source_beyond n v.route.named

    -- what is left of the rules
    last : Option Refusal
    last = if is_full old.slots old.serial then Some refusals.Limit else None

    by_rank : unfit ≡ false → short ≡ false → high ≡ false → (b : Bool) → beyond ≡ b →
        (if b then Some refusals.Rank else last) ≡ Some why → HasReason old core (calls.Irecv v) why
    by_rank fit long low true e h =
        reason_is old core (calls.Irecv v) refusals.Rank why h
        (MachinesFault (fault_free old.place core (call_seen (calls.Irecv v)) core_is ∙
        rank_fault false false unfit short high beyond refl refl fit long low e))
    by_rank fit long low false e h =
        NoRoom (limit_met (is_full old.slots old.serial) why h)
        (post_fit old.place core v core_is (record { fit = fit; long = long; low = low; inside = e }))

    by_tag : unfit ≡ false → short ≡ false → (b : Bool) → high ≡ b →
        (if b then Some refusals.Tag else (if beyond then Some refusals.Rank else last)) ≡ Some why →
        HasReason old core (calls.Irecv v) why
    by_tag fit long true e h =
        reason_is old core (calls.Irecv v) refusals.Tag why h
        (MachinesFault (fault_free old.place core (call_seen (calls.Irecv v)) core_is ∙
        tag_fault false false unfit short high beyond refl refl fit long e))
    by_tag fit long false e h = by_rank fit long e beyond refl h

    by_length : unfit ≡ false → (b : Bool) → short ≡ b →
        (if b then Some refusals.Count else
        (if high then Some refusals.Tag else (if beyond then Some refusals.Rank else last))) ≡ Some why →
        HasReason old core (calls.Irecv v) why
    by_length fit true e h =
        reason_is old core (calls.Irecv v) refusals.Count why h
        (MachinesFault (fault_free old.place core (call_seen (calls.Irecv v)) core_is ∙
        count_fault false false unfit short high beyond refl refl fit e))
    by_length fit false e h = by_tag fit e high refl h

    by_type : (b : Bool) → unfit ≡ b →
        (if b then Some refusals.WrongType else
        (if short then Some refusals.Count else
        (if high then Some refusals.Tag else (if beyond then Some refusals.Rank else last)))) ≡ Some why →
        HasReason old core (calls.Irecv v) why
    by_type true e h =
        reason_is old core (calls.Irecv v) refusals.WrongType why h
        (MachinesFault (fault_free old.place core (call_seen (calls.Irecv v)) core_is ∙
        type_fault false false unfit short high beyond refl refl e))
    by_type false e h = by_length e short refl h
