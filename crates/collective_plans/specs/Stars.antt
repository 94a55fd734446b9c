-- Plans in which each hands its block to the root, or the root hands a block to each (MPI 3.1, 5.5 and 5.6).
use Rattle.std.specs.Prelude.{◌<◌, ℕ, List, [], ◌∷◌, if◌then◌else◌, ◌==◌}
use Rattle.collective_plans.specs.declared.plan.Slot.{Slot}
use Rattle.collective_plans.specs.declared.plan.Slot.TheVariants.{Given, Got}
use Rattle.collective_plans.specs.declared.plan.Step.{Step}
use Rattle.collective_plans.specs.declared.plan.Step.TheVariants.{Copy, Send, Receive}
use Rattle.collective_plans.specs.Slots.{Memory}
use Rattle.collective_plans.specs.Networks.{Folding}
use Rattle.collective_plans.specs.Ahead.{EndsAhead}
use Rattle.collective_plans.specs.Exchanges.{all_receives, all_sends, receivers, senders}

-- each hands its block to the root
abbrev pub gather : (n root r : ℕ) → List Step
gather n root r =
    if r == root then Copy (Given 0) (Got r) ∷ all_receives Got (senders n r) else Send root (Given 0) ∷ []

-- the root hands a block to each
abbrev pub scatter : (n root r : ℕ) → List Step
scatter n root r =
    if r == root then Copy (Given r) (Got 0) ∷ all_sends Given (receivers n r) else Receive root (Got 0) ∷ []

-- Block j of the root's result is what member j handed in (5.5)
abbrev pub GatherGives : Type 0
GatherGives =
    (f : Folding) (n root : ℕ) (given : ℕ → Memory) (j : ℕ) → root < n → j < n →
    EndsAhead f n (gather n root) given root (Got j) (given j (Given 0))

-- Member r's result is what the root handed in for r (5.6)
abbrev pub ScatterGives : Type 0
ScatterGives =
    (f : Folding) (n root : ℕ) (given : ℕ → Memory) (r : ℕ) → root < n → r < n →
    EndsAhead f n (scatter n root) given r (Got 0) (given root (Given r))
