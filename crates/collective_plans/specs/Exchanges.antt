-- Plans in which each member exchanges blocks with each other one (MPI 3.1, 5.7, 5.8 and 5.10), or with those beside it
-- (5.11).
use Rattle.std.specs.Prelude.{ℕ, zero, suc, Bool, true, false, ◌+◌, ◌-◌, List, [], ◌∷◌, ◌++◌}
use Rattle.collective_plans.specs.declared.plan.Slot.{Slot}
use Rattle.collective_plans.specs.declared.plan.Slot.TheVariants.{Given, Got, Kept}
use Rattle.collective_plans.specs.declared.plan.Step.{Step}
use Rattle.collective_plans.specs.declared.plan.Step.TheVariants.{Copy, Send, Receive, Fold}

-- so many ranks from this one on, rising
abbrev pub rising : (from count : ℕ) → List ℕ
rising f zero = []
rising f (suc k) = f ∷ rising (suc f) k

-- so many ranks from this one on, falling
abbrev pub falling : (from count : ℕ) → List ℕ
falling f zero = []
falling f (suc k) = (f + k) ∷ falling f k

-- to whom a member of n sends, in order: to those behind it, and then to those before it
abbrev pub receivers : (n r : ℕ) → List ℕ
receivers n r = rising (suc r) (n - suc r) ++ rising 0 r

-- from whom it receives, in order: the other way round, so that in each round all send and receive once
abbrev pub senders : (n r : ℕ) → List ℕ
senders n r = falling 0 r ++ falling (suc r) (n - suc r)

-- a block to each of these, and one from each of these
abbrev pub all_sends : (ℕ → Slot) → List ℕ → List Step
all_sends source [] = []
all_sends source (d ∷ ds) = Send d (source d) ∷ all_sends source ds

abbrev pub all_receives : (ℕ → Slot) → List ℕ → List Step
all_receives target [] = []
all_receives target (s ∷ ss) = Receive s (target s) ∷ all_receives target ss

-- member r of n hands a block to each other one, and takes one from each
abbrev pub exchange : (n r : ℕ) → (source target : ℕ → Slot) → List Step → List Step
exchange n r source target more =
    Copy (source r) (target r) ∷ (all_sends source (receivers n r) ++ (all_receives target (senders n r) ++ more))

-- ---- plans of member r of n

-- block j for member j
abbrev pub alltoall : (n r : ℕ) → List Step
alltoall n r = exchange n r Given Got []

-- the one block for each
abbrev pub allgather : (n r : ℕ) → List Step
allgather n r = exchange n r (λ d. Given 0) Got []

-- what is kept of the members behind this one is folded, one after the other, the lower rank first, and the fold of all
-- is the result
abbrev pub folds : (done count : ℕ) → List Step
folds d zero = Copy (Kept d) (Got 0) ∷ []
folds d (suc c) = Fold (Kept d) (Kept (suc d)) (Kept (suc d)) ∷ folds (suc d) c

-- each folds what all hand in for it
abbrev pub reduce_scatter_block : (n r : ℕ) → List Step
reduce_scatter_block n r = exchange n r Given Kept (folds 0 (n - 1))

-- the fold of those before comes, the own block is folded in, and the result goes on to the next one, if there is one
abbrev pub to_next : (left : ℕ) → (r : ℕ) → List Step
to_next zero r = []
to_next (suc k) r = Send (suc r) (Got 0) ∷ []

-- where the own block stands in a slot that is named: in place it is that of the result
abbrev pub scan_of : (own : Slot) → (n r : ℕ) → List Step
scan_of own n zero = Copy own (Got 0) ∷ to_next (n - 1) 0
scan_of own n (suc r) = Receive r (Kept 0) ∷ Fold (Kept 0) own (Got 0) ∷ to_next (n - suc (suc r)) (suc r)

abbrev pub scan : (n r : ℕ) → List Step
scan n r = scan_of (Given 0) n r

-- the fold of those before comes and is the result; the next one, if there is one, gets it with the own block
abbrev pub first_to_next : (own : Slot) → (left : ℕ) → List Step
first_to_next own zero = []
first_to_next own (suc k) = Send 1 own ∷ []

abbrev pub folded_to_next : (own : Slot) → (left : ℕ) → (r : ℕ) → List Step
folded_to_next own zero r = []
folded_to_next own (suc k) r = Fold (Kept 0) own (Kept 1) ∷ Send (suc r) (Kept 1) ∷ []

abbrev pub exscan_of : (own : Slot) → (n r : ℕ) → List Step
exscan_of own n zero = first_to_next own (n - 1)
exscan_of own n (suc r) =
    Receive r (Kept 0) ∷ (folded_to_next own (n - suc (suc r)) (suc r) ++ Copy (Kept 0) (Got 0) ∷ [])

abbrev pub exscan : (n r : ℕ) → List Step
exscan n r = exscan_of (Given 0) n r

-- the slots by which a plan is made: a block for each member, or one for all; and where blocks come
abbrev pub source_of : (each : Bool) → ℕ → Slot
source_of true d = Given d
source_of false d = Given 0

abbrev pub target_of : (kept : Bool) → ℕ → Slot
target_of true s = Kept s
target_of false s = Got s
