-- Each call that meets a rule or a limit of a rank's core has a reason, and each that meets none is without a fault.
use Rattle.std.proofs.Common.{◌≡◌, ℕ, List, map, Option, Some, None, slice_get, refl, ap, ◌∙◌, subst}
use Rattle.perfect_queues.specs.Calls as machine
use Rattle.perfect_queues.specs.Completions.{Unanswered}
use Rattle.perfect_queues.specs.Refusals as rules
use Rattle.proof_pure_network.specs.Core.{Core, view}
use Rattle.proof_pure_network.specs.WaitingMessages.{blank}
use Rattle.proof_pure_network.specs.Jobs.{request_of}
use Rattle.requests.specs.declared.awaited_requests.Awaited as rank
use Rattle.requests.specs.declared.awaited_requests.Awaited.TheVariants as awaiteds
use Rattle.point_to_point_calls.specs.CoreCalls.{RoutedCall}
use Rattle.point_to_point_calls.specs.CoreCalls as calls
use Rattle.point_to_point_calls.specs.declared.refusal.Refusal.{Refusal}
use Rattle.point_to_point_calls.specs.declared.refusal.Refusal.TheVariants as refusals
use Rattle.point_to_point.specs.Calls.{fault_at, free_fault}
use Rattle.point_to_point.specs.CoreState.{CoreState}
use Rattle.proof_engine_view.specs.Faults.{queue_fault, queue_fault_by}
use Rattle.observation.specs.CoreCalls.{call_meant, call_seen}
use Rattle.proof_engine_view.specs.CoreViews.{IsBlocked, IsShown}
use Rattle.proof_engine_view.specs.Transfers.{Announcements}
use Rattle.proof_engine_steps.specs.Refusals.{AllowedCallsAreFaultless, FaultsHaveReasons, HasReason, IsFaultless}
use Rattle.proof_engine_steps.specs.Refusals.{RoomIsAReason, fault_seen}
use Rattle.observation.specs.Reasons.{MachinesFault, NoRoom}
use Rattle.proof_engine_steps.proofs.Reasons.{reason_is}
use Rattle.proof_engine_steps.proofs.RefusedProbes.{message_reason, message_without_fault, search_reason}
use Rattle.proof_engine_steps.proofs.RefusedProbes.{search_without_fault}
use Rattle.proof_engine_steps.proofs.RefusedReceives.{receive_faultless, receive_reason}
use Rattle.proof_engine_steps.proofs.RefusedSends.{no_send_fault, send_faultless, send_reason}
use Rattle.proof_engine_steps.proofs.RefusedWaits.{cancel_reason, cancel_without_fault, test_reason, test_without_fault}
use Rattle.proof_engine_steps.proofs.RefusedWaits.{wait_reason, wait_without_fault, waitall_without_fault}
use Rattle.proof_engine_steps.proofs.RefusedWaits.{waitany_without_fault}

-- while an earlier call is blocked, the machine finds the first fault with every call
blocked_fault : (links : Announcements) (old : CoreState) (known : List ℕ) (core : Core) (call : RoutedCall)
    (a : rank.Awaited) → IsShown links old known core → old.blocked ≡ Some a → fault_seen old core call ≡ Some 6
blocked_fault links old known core call a shown h =
    ap
    (λ (b : Option Unanswered).
    queue_fault_by old.place.size old.place.message_limit (rules.is_held b)
    (λ k. rules.standing (slice_get (map (request_of blank) core.jobs) k)) (call_meant old call))
    (subst (λ (b : Option rank.Awaited). IsBlocked shown.rows b core.blocked) h shown.blocked).0

-- ---- what meets a rule or a limit

-- while no other call is blocked
free_reason : (links : Announcements) (old : CoreState) (known : List ℕ) (core : Core) (call : RoutedCall)
    (why : Refusal) → IsShown links old known core → old.blocked ≡ None →
    free_fault old call ≡ Some why → HasReason old core call why
free_reason links old known core (calls.Isend s) why shown free fault =
    send_reason links old known core s why shown free fault
free_reason links old known core (calls.Irecv v) why shown free fault =
    receive_reason links old known core v why shown free fault
free_reason links old known core (calls.Wait q) why shown free fault =
    wait_reason links old known core (awaiteds.One q) why shown free fault
free_reason links old known core (calls.Test q) why shown free fault =
    test_reason links old known core q why shown free fault
free_reason links old known core (calls.Waitany qs) why shown free fault =
    wait_reason links old known core (awaiteds.AnyOf qs) why shown free fault
free_reason links old known core (calls.Waitall qs) why shown free fault =
    wait_reason links old known core (awaiteds.AllOf qs) why shown free fault
free_reason links old known core (calls.Cancel q) why shown free fault =
    cancel_reason links old known core q why shown free fault
free_reason links old known core (calls.Improbe p) why shown free fault =
    search_reason links old known core p why shown free fault
free_reason links old known core (calls.Mrecv q into) why shown free fault =
    message_reason links old known core q into why shown free fault

pub faults_have_reasons : FaultsHaveReasons
faults_have_reasons links old known core call why shown fault = go old.blocked refl fault
  where
    go : (b : Option rank.Awaited) → old.blocked ≡ b → fault_at b old call ≡ Some why → HasReason old core call why
    go (Some a) e f =
        reason_is old core call refusals.Request why f
        (MachinesFault (blocked_fault links old known core call a shown e))
    go None e f = free_reason links old known core call why shown e f

-- ---- what meets none

-- while no other call is blocked
free_faultless : (links : Announcements) (old : CoreState) (known : List ℕ) (core : Core) (call : RoutedCall) →
    IsShown links old known core → old.blocked ≡ None → free_fault old call ≡ None →
    IsFaultless (queue_fault old.place (view blank core) (call_seen call)) old call
free_faultless links old known core (calls.Isend s) shown free fine =
    record { own = refl; none = send_faultless links old known core s shown free (no_send_fault old s fine) }
free_faultless links old known core (calls.Irecv v) shown free fine =
    record { own = refl; none = receive_faultless links old known core v shown free fine }
free_faultless links old known core (calls.Wait q) shown free fine =
    wait_without_fault links old known core q shown free fine
free_faultless links old known core (calls.Test q) shown free fine =
    test_without_fault links old known core q shown free fine
free_faultless links old known core (calls.Waitany qs) shown free fine =
    waitany_without_fault links old known core qs shown free fine
free_faultless links old known core (calls.Waitall qs) shown free fine =
    waitall_without_fault links old known core qs shown free fine
free_faultless links old known core (calls.Cancel q) shown free fine =
    cancel_without_fault links old known core q shown free fine
free_faultless links old known core (calls.Improbe p) shown free fine =
    search_without_fault links old known core p shown free fine
free_faultless links old known core (calls.Mrecv q into) shown free fine =
    message_without_fault links old known core q into shown free fine

pub allowed_calls_are_faultless : AllowedCallsAreFaultless
allowed_calls_are_faultless links old known core call shown fine = go old.blocked refl fine
  where
    go : (b : Option rank.Awaited) → old.blocked ≡ b → fault_at b old call ≡ None →
        IsFaultless (queue_fault old.place (view blank core) (call_seen call)) old call
    go (Some a) e f = absurd cc
    go None e f = free_faultless links old known core call shown e f

-- so a limit of the frame, or want of memory, is a reason
pub room_is_a_reason : AllowedCallsAreFaultless → RoomIsAReason
room_is_a_reason allowed links old known core call why shown fine room =
    let f : IsFaultless (queue_fault old.place (view blank core) (call_seen call)) old call = allowed links old known core call shown fine in
    NoRoom room (ap (λ (c : machine.Call). queue_fault old.place (view blank core) c) f.own ∙ f.none)
