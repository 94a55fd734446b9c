-- What members end with where each takes a fold from the one before it (MPI 3.1, 5.11).
use Rattle.std.specs.Prelude.{◌<◌, ℕ, suc}
use Rattle.collective_plans.specs.declared.plan.Slot.TheVariants.{Given, Got}
use Rattle.collective_plans.specs.Exchanges.{exscan, exscan_of, scan_of}
use Rattle.collective_plans.specs.Slots.{Memory}
use Rattle.collective_plans.specs.Networks.{Folding}
use Rattle.collective_plans.specs.PlanLaws.{folded}
use Rattle.collective_plans.specs.Ahead.{EndsAhead}

-- In place (5.2) what member r hands in stands where its result comes: member r's result is the fold of what members 0
-- to r handed in there (5.11.1)
abbrev pub ScanInPlaceGives : Type 0
ScanInPlaceGives =
    (f : Folding) (n : ℕ) (given : ℕ → Memory) (r : ℕ) → r < n →
    EndsAhead f n (scan_of (Got 0) n) given r (Got 0) (folded f (λ s. given s (Got 0)) r)

-- The result of each member but the first is the fold of what all before it handed in, in place or not (5.11.2)
abbrev pub ExscanGives : Type 0
ExscanGives =
    (f : Folding) (n : ℕ) (given : ℕ → Memory) (r : ℕ) → suc r < n →
    EndsAhead f n (exscan n) given (suc r) (Got 0) (folded f (λ s. given s (Given 0)) r) ×
    EndsAhead f n (exscan_of (Got 0) n) given (suc r) (Got 0) (folded f (λ s. given s (Got 0)) r)
