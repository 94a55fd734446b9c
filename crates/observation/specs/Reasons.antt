-- Why a call is refused.
use Rattle.std.specs.Prelude.{◌≡◌, ℕ, ◌⊎◌, Option, Some, None}
use Rattle.point_to_point_calls.specs.declared.refusal.Refusal.{Refusal}
use Rattle.point_to_point_calls.specs.Refusals.{number_of_refusal}
use Rattle.point_to_point_calls.specs.declared.refusal.Refusal.TheVariants as refusals

-- the number of a limit or of want of memory: 13 or 14
abbrev pub IsOutOfRoom : Refusal → Type 0
IsOutOfRoom why = (why ≡ refusals.Limit) ⊎ (why ≡ refusals.OutOfMemory)

-- Why a call is refused, where the machine finds this fault with it or none
pub data IsReason (found : Option ℕ) (why : Refusal) : Type 0 where
  -- by the machine's fault: the number is the same
  MachinesFault : found ≡ Some (number_of_refusal why) → IsReason found why
  -- the machine finds none, and the number is 13 or 14
  NoRoom : IsOutOfRoom why → found ≡ None → IsReason found why
