-- Why calls on requests are refused, and that one that is taken has no fault, while no earlier one is blocked.
use Rattle.std.proofs.Common.{◌≡◌, ℕ, Bool, true, false, ◌||◌, Option, Some}
use Rattle.std.proofs.Common.{None, refl, sym, ap, ◌∙◌, subst, inr}
use Rattle.std.specs.Prelude.{slice_get}
use Rattle.engine_calls.specs.Calls.{LacksRoom, WhyRefused}
use Rattle.engine_calls.specs.EngineState.{EngineState}
use Rattle.engine_calls.specs.Faults.{free_fault}
use Rattle.engine_calls.specs.declared.call.Call as engine
use Rattle.perfect_groups.specs.Calls.{Call, Cancel, Improbe, Iprobe, Irecv, Isend, Mrecv, Test, Wait}
use Rattle.perfect_groups.specs.Faults.{fault, fault_by, is_blocked}
use Rattle.perfect_groups.specs.Faults.{is_within}
use Rattle.perfect_groups.specs.Membership.{Membership}
use Rattle.perfect_queues.specs.Calls as queues
use Rattle.perfect_queues.specs.Completions as completions
use Rattle.perfect_queues.specs.Refusals.{is_held, standing}
use Rattle.perfect_queues.specs.State.{Local}
use Rattle.proof_engine_steps.proofs.RefusedCalls.{allowed_calls_are_faultless, faults_have_reasons, room_is_a_reason}
use Rattle.proof_engine_steps.specs.Refusals.{HasReason}
use Rattle.observation.specs.Reasons.{IsReason}
use Rattle.proof_engine_view.specs.Faults.{queue_fault}
use Rattle.observation.specs.CoreCalls as in_queues
use Rattle.proof_engine_view.specs.Transfers.{Announcements}
use Rattle.proof_network_bridge.proofs.RoutedFaults.{IsFree}
use Rattle.observation.specs.Faults.{IsFaultless}
use Rattle.observation.specs.EngineCalls.{call_by}
use Rattle.proof_pure_network.specs.Core.{Core, view}
use Rattle.proof_pure_network.specs.WaitingMessages.{blank}
use Rattle.point_to_point_calls.specs.CoreCalls as core_calls
use Rattle.point_to_point_calls.specs.declared.refusal.Refusal.{Refusal}
use Rattle.point_to_point_calls.specs.declared.refusal.Refusal.TheVariants as refusals
use Rattle.point_to_point.specs.Calls.{call_fault}
use Rattle.requests.specs.declared.table.Request.{Request}
use Rattle.incarnation.specs.declared.place.Place.{Place}
use Rattle.vocabulary.specs.declared.endpoint.Endpoint.{Endpoint}

none_more : (a b : Bool) → b ≡ false → (a || b) ≡ a
none_more true b is = refl
none_more false b is = is

pub held_alone : (l : Local) (m : Membership) → is_within m.present ≡ false → is_blocked l m ≡ is_held l.blocked
held_alone l m apart = none_more (is_held l.blocked) (is_within m.present) apart

-- the machine finds what its queues find
pub wait_found : (p : Place) (own : Endpoint) (l : Local) (m : Membership) (a : completions.Awaited) →
    is_within m.present ≡ false → fault own l m (Wait a) ≡ queue_fault p l (queues.Wait a)
wait_found p own l m a apart =
    ap (λ (b : Bool). fault_by l.message_limit b (λ k. standing (slice_get l.requests k)) own l.known m (Wait a))
    (held_alone l m apart)

pub test_found : (p : Place) (own : Endpoint) (l : Local) (m : Membership) (r : Option ℕ) →
    is_within m.present ≡ false → fault own l m (Test r) ≡ queue_fault p l (queues.Test r)
test_found p own l m r apart =
    ap (λ (b : Bool). fault_by l.message_limit b (λ k. standing (slice_get l.requests k)) own l.known m (Test r))
    (held_alone l m apart)

pub cancel_found : (p : Place) (own : Endpoint) (l : Local) (m : Membership) (r : Option ℕ) →
    is_within m.present ≡ false → fault own l m (Cancel r) ≡ queue_fault p l (queues.Cancel r)
cancel_found p own l m r apart =
    ap (λ (b : Bool). fault_by l.message_limit b (λ k. standing (slice_get l.requests k)) own l.known m (Cancel r))
    (held_alone l m apart)

-- so the refusal has a reason
pub requests_reason : (a : Announcements) (e : EngineState) (core : Core) (m : Membership) (call : engine.Call)
    (q : core_calls.RoutedCall) (found : Option ℕ) (why : Refusal) → IsFree a e core m →
    call_fault e.core q ≡ free_fault e call →
    found ≡ queue_fault e.core.place (view blank core) (in_queues.call_meant e.core q) →
    (LacksRoom e call why → why ≡ refusals.OutOfMemory) →
    WhyRefused (free_fault e call) e call why → IsReason found why
requests_reason a e core m call q found why free is same lacks reason =
    subst (λ (o : Option ℕ). IsReason o why) (sym same) (go (free_fault e call) is reason)
  where
    go : (o : Option Refusal) → call_fault e.core q ≡ o → WhyRefused o e call why → HasReason e.core core q why
    go (Some x) at because =
        faults_have_reasons a e.core e.sessions.known core q why free.shown (at ∙ ap Some (sym because))
    go None at because = room_is_a_reason allowed_calls_are_faultless a e.core e.sessions.known core q why free.shown at
        (inr (lacks because))

-- a call of the queues, as the machine's
abbrev pub as_call : queues.Call → Call
as_call (queues.Isend mode context to tag from) = Isend mode None to tag from
as_call (queues.Irecv p) = Irecv None p.source p.tag p.into
as_call (queues.Wait a) = Wait a
as_call (queues.Test r) = Test r
as_call (queues.Cancel r) = Cancel r
as_call (queues.Iprobe q) = Iprobe None q.source q.tag
as_call (queues.Improbe q) = Improbe None q.source q.tag
as_call (queues.Mrecv message into) = Mrecv message into

-- and a call that is taken has no fault
pub requests_faultless : (a : Announcements) (e : EngineState) (core : Core) (m : Membership) (call : engine.Call)
    (q : core_calls.RoutedCall) (found : Option ℕ) → IsFree a e core m →
    call_fault e.core q ≡ free_fault e call →
    found ≡ queue_fault e.core.place (view blank core) (in_queues.call_seen q) →
    ((f : Request → ℕ) → as_call (in_queues.call_by f q) ≡ call_by f call) → free_fault e call ≡ None →
    IsFaultless found e.core call
requests_faultless a e core m call q found free is same as_is allowed =
    let fine = allowed_calls_are_faultless a e.core e.sessions.known core q free.shown (is ∙ allowed) in
    record {
      own = sym (as_is (in_queues.serial_meant e.core)) ∙ ap as_call fine.own ∙ as_is in_queues.own_serial;
      none = same ∙ fine.none;
    }
