-- The laws of plans.
use Rattle.std.specs.Prelude.{◌≡◌, ◌<◌, ℕ, zero, suc, true, ◌-◌, List, [], ◌∷◌, if◌then◌else◌, nat_lt}
use Rattle.collective_plans.specs.declared.plan.Slot.{Slot}
use Rattle.collective_plans.specs.declared.plan.Slot.TheVariants.{Given, Got}
use Rattle.collective_plans.specs.declared.plan.Step.{Step}
use Rattle.collective_plans.specs.declared.plan.Step.TheVariants.{Receive}
use Rattle.collective_plans.specs.Exchanges.{allgather, alltoall, reduce_scatter_block, scan}
use Rattle.collective_plans.specs.Slots.{Block, Memory}
use Rattle.collective_plans.specs.Networks.{Folding, Network, after, moves, opening}
use Rattle.collective_plans.specs.Meanings.{IsTalk, Talk, ends_with, is_fed, sends_first, told}

-- In whatever order members take steps, one that has no step left has what its plan makes of what it is told
abbrev pub RunsAreMeant : Type 0
RunsAreMeant =
    (f : Folding) (plans : ℕ → List Step) (given : ℕ → Memory) (talk : Talk) → IsTalk f plans given talk →
    (order : List ℕ) (r : ℕ) → ((after f (opening plans given) order).at r).steps ≡ [] →
    ((after f (opening plans given) order).at r).memory ≡ ends_with f (told talk r) (given r) (plans r)

-- a member has a step to take, and takes it when it is its turn
abbrev pub GoesOn : Folding → Network → (r : ℕ) → Type 0
GoesOn f net r =
    (x : Step) × (rest : List Step) × ((net.at r).steps ≡ x ∷ rest) × (((moves f net r).at r).steps ≡ rest)

-- Where each receive has something to take in the end, and all send before they receive, no one waits for one who
-- waits: the one from whom a member waits for a block has a step that it can take
abbrev pub NoOneWaitsForWhoWaits : Type 0
NoOneWaitsForWhoWaits =
    (f : Folding) (plans : ℕ → List Step) (given : ℕ → Memory) (talk : Talk) → IsTalk f plans given talk →
    ((r : ℕ) → is_fed f (told talk r) (given r) (plans r) ≡ true) → ((r : ℕ) → sends_first (plans r) ≡ true) →
    (order : List ℕ) (r s : ℕ) (into : Slot) (rest : List Step) →
    ((after f (opening plans given) order).at r).steps ≡ Receive s into ∷ rest →
    (after f (opening plans given) order).queue s r ≡ [] → GoesOn f (after f (opening plans given) order) s

-- the plans of n members; no one else has one
abbrev pub among : (n : ℕ) → (plan : ℕ → List Step) → ℕ → List Step
among n plan r = if nat_lt r n then plan r else []

-- In whatever order n members take steps of these plans, once member r has none left it has this block in this slot
abbrev pub EndsWith : Folding → (n : ℕ) → (plan : ℕ → List Step) → (given : ℕ → Memory) → (r : ℕ) → Slot → Block →
    Type 0
EndsWith f n plan given r slot block =
    (order : List ℕ) → ((after f (opening (among n plan) given) order).at r).steps ≡ [] →
    ((after f (opening (among n plan) given) order).at r).memory slot ≡ block

-- the left fold of the blocks of members 0 to `last`, in the order of their ranks (5.9)
abbrev pub folded : Folding → (blocks : ℕ → Block) → (last : ℕ) → Block
folded f b zero = b 0
folded f b (suc k) = f (folded f b k) (b (suc k))

-- Block j of member r's result is what member j handed in for r (5.8)
abbrev pub AlltoallGives : Type 0
AlltoallGives =
    (f : Folding) (n : ℕ) (given : ℕ → Memory) (r j : ℕ) → r < n → j < n →
    EndsWith f n (alltoall n) given r (Got j) (given j (Given r))

-- Block j of each result is what member j handed in (5.7)
abbrev pub AllgatherGives : Type 0
AllgatherGives =
    (f : Folding) (n : ℕ) (given : ℕ → Memory) (r j : ℕ) → r < n → j < n →
    EndsWith f n (allgather n) given r (Got j) (given j (Given 0))

-- Member r's result is the fold of what all handed in for r (5.10.1)
abbrev pub ReduceScatterGives : Type 0
ReduceScatterGives =
    (f : Folding) (n : ℕ) (given : ℕ → Memory) (r : ℕ) → r < n →
    EndsWith f n (reduce_scatter_block n) given r (Got 0) (folded f (λ s. given s (Given r)) (n - 1))

-- Member r's result is the fold of what members 0 to r handed in (5.11.1)
abbrev pub ScanGives : Type 0
ScanGives =
    (f : Folding) (n : ℕ) (given : ℕ → Memory) (r : ℕ) → r < n →
    EndsWith f n (scan n) given r (Got 0) (folded f (λ s. given s (Given 0)) r)

-- in whatever order n members take steps of these plans, the one from whom a member waits for a block can take a step
abbrev pub AlwaysGoesOn : Folding → (n : ℕ) → (plan : ℕ → List Step) → (given : ℕ → Memory) → Type 0
AlwaysGoesOn f n plan given =
    (order : List ℕ) (r s : ℕ) (into : Slot) (rest : List Step) →
    ((after f (opening (among n plan) given) order).at r).steps ≡ Receive s into ∷ rest →
    (after f (opening (among n plan) given) order).queue s r ≡ [] → GoesOn f (after f (opening
    (among n plan) given) order) s

-- so it is in exchanges: no one waits for one who waits
abbrev pub ExchangesGoOn : Type 0
ExchangesGoOn =
    (f : Folding) (n : ℕ) (given : ℕ → Memory) →
    AlwaysGoesOn f n (alltoall n) given × AlwaysGoesOn f n (allgather n) given ×
    AlwaysGoesOn f n (reduce_scatter_block n) given
