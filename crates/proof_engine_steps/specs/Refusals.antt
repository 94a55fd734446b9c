-- Why a rank refuses a call, and that it takes none with a fault.
use Rattle.std.specs.Prelude.{◌≡◌, ℕ, ◌⊎◌, List, Option, Some, None}
use Rattle.point_to_point_calls.specs.CoreCalls.{RoutedCall}
use Rattle.point_to_point_calls.specs.declared.refusal.Refusal.{Refusal}
use Rattle.point_to_point_calls.specs.declared.refusal.Refusal.TheVariants as refusals
use Rattle.point_to_point.specs.Calls.{call_fault}
use Rattle.point_to_point.specs.CoreState.{CoreState}
use Rattle.point_to_point_calls.specs.Refusals.{number_of_refusal}
use Rattle.proof_pure_network.specs.Core.{Core, view}
use Rattle.proof_pure_network.specs.WaitingMessages.{blank}
use Rattle.proof_engine_view.specs.Faults.{queue_fault}
use Rattle.observation.specs.CoreCalls.{call_meant, call_seen}
use Rattle.proof_engine_view.specs.CoreViews.{IsShown}
use Rattle.proof_engine_view.specs.Transfers.{Announcements}
pub use Rattle.observation.specs.Reasons.{IsOutOfRoom, IsReason, MachinesFault, NoRoom}

-- the fault that the machine finds with what a call means at a rank, but for the rule on its communicator
abbrev pub fault_seen : CoreState → Core → RoutedCall → Option ℕ
fault_seen old core call = queue_fault old.place (view blank core) (call_meant old call)

-- a call is refused for such a reason, by the fault that the machine finds
abbrev pub HasReason : CoreState → Core → RoutedCall → Refusal → Type 0
HasReason old core call why = IsReason (fault_seen old core call) why

-- Every rule and limit of a rank's core that a call meets is such a reason
abbrev pub FaultsHaveReasons : Type 0
FaultsHaveReasons =
    (a : Announcements) (old : CoreState) (known : List ℕ) (core : Core) (call : RoutedCall) (why : Refusal) →
    IsShown a old known core → call_fault old call ≡ Some why → HasReason old core call why

-- a call that names no request of another engine, and with which the machine finds no fault
pub record IsFaultless (found : Option ℕ) (c : CoreState) (call : RoutedCall) : Type 0 where
  pub own : call_meant c call ≡ call_seen call
  pub none : found ≡ None

-- Every call that meets no rule and no limit of a rank's core is without a fault
abbrev pub AllowedCallsAreFaultless : Type 0
AllowedCallsAreFaultless =
    (a : Announcements) (old : CoreState) (known : List ℕ) (core : Core) (call : RoutedCall) →
    IsShown a old known core → call_fault old call ≡ None →
    IsFaultless (queue_fault old.place (view blank core) (call_seen call)) old call

-- So where a call is refused that meets none, for a limit or for want of memory, that is a reason
abbrev pub RoomIsAReason : Type 0
RoomIsAReason =
    (a : Announcements) (old : CoreState) (known : List ℕ) (core : Core) (call : RoutedCall) (why : Refusal) →
    IsShown a old known core → call_fault old call ≡ None → IsOutOfRoom why → HasReason old core call why
