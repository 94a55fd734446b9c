-- Collectives told as a whole: one list, for all members, of who copies or folds blocks and who hands one to whom. The
-- plan of a member is its part of that list. Nobody carries the whole list out, and members need not keep to its order.
use Rattle.std.specs.Prelude.{◌≡◌, ℕ, Bool, List, [], ◌∷◌, if◌then◌else◌, ◌==◌}
use Rattle.collective_plans.specs.declared.plan.Slot.{Slot}
use Rattle.collective_plans.specs.declared.plan.Step.{Step}
use Rattle.collective_plans.specs.declared.plan.Step.TheVariants.{Copy, Send, Receive, Fold}
use Rattle.collective_plans.specs.Slots.{Memory, with_block}
use Rattle.collective_plans.specs.Networks.{Folding}
use Rattle.collective_plans.specs.Ahead.{Turn, after_turns, opening_ahead}

-- What members do: one copies a block, one folds two, or one hands a block to another one
pub data Act : Type 0 where
  Copies : (member : ℕ) → (from into : Slot) → Act
  Folds : (member : ℕ) → (low high into : Slot) → Act
  Hands : (sender : ℕ) → (from : Slot) → (receiver : ℕ) → (into : Slot) → Act

-- a step of a member, where it is one of its own
abbrev pub own_step : Bool → Step → List Step → List Step
own_step mine x rest = if mine then x ∷ rest else rest

-- a member's part of what all do
abbrev pub part_of : (member : ℕ) → Act → List Step → List Step
part_of r (Copies x from into) rest = own_step (r == x) (Copy from into) rest
part_of r (Folds x low high into) rest = own_step (r == x) (Fold low high into) rest
part_of r (Hands s from d into) rest = own_step (r == s) (Send d from) (own_step (r == d) (Receive s into) rest)

abbrev pub part : (member : ℕ) → List Act → List Step
part r [] = []
part r (x ∷ xs) = part_of r x (part r xs)

-- all slots where those of this member are changed
abbrev pub with_memory : (ℕ → Memory) → (member : ℕ) → Memory → ℕ → Memory
with_memory ms r m x = if x == r then m else ms x

-- what all have once one thing was done
abbrev pub done : Folding → (ℕ → Memory) → Act → ℕ → Memory
done f ms (Copies r from into) = with_memory ms r (with_block (ms r) into (ms r from))
done f ms (Folds r low high into) = with_memory ms r (with_block (ms r) into (f (ms r low) (ms r high)))
done f ms (Hands s from d into) = with_memory ms d (with_block (ms d) into (ms s from))

-- what all have once all was done, one thing behind the other
abbrev pub played : Folding → (ℕ → Memory) → List Act → ℕ → Memory
played f ms [] = ms
played f ms (x ∷ xs) = played f (done f ms x) xs

-- In whatever order members go on and blocks come, a member that has no step of its part left, and to whom all has
-- come, has what it has where all is done one behind the other
abbrev pub ScriptsArePlayed : Type 0
ScriptsArePlayed =
    (f : Folding) (acts : List Act) (given : ℕ → Memory) (turns : List Turn) (r : ℕ) →
    ((after_turns f (opening_ahead (λ x. part x acts) given) turns).at r).steps ≡ [] →
    ((after_turns f (opening_ahead (λ x. part x acts) given) turns).at r).begun ≡ [] →
    ((after_turns f (opening_ahead (λ x. part x acts) given) turns).at r).memory ≡ played f given acts r
