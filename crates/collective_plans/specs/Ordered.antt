-- Reductions in the order of ranks, for operations that aren't associative: the root takes one block after the other
-- and folds it in, so it has room for two blocks, however many members there are (MPI 3.1, 5.9.1, 5.9.6).
use Rattle.std.specs.Prelude.{◌≡◌, ◌<◌, ℕ, zero, suc, Bool, ◌-◌, List, [], ◌∷◌, ◌++◌, if◌then◌else◌, ◌==◌}
use Rattle.collective_plans.specs.declared.plan.Slot.{Slot}
use Rattle.collective_plans.specs.declared.plan.Slot.TheVariants.{Given, Got, Kept}
use Rattle.collective_plans.specs.declared.plan.Step.{Step}
use Rattle.collective_plans.specs.Slots.{Memory}
use Rattle.collective_plans.specs.Networks.{Folding}
use Rattle.collective_plans.specs.Ahead.{EndsAhead}
use Rattle.collective_plans.specs.PlanLaws.{folded}
use Rattle.collective_plans.specs.Scripts.{Act, Copies, Folds, Hands, part}
use Rattle.collective_plans.specs.Trees.{own_slot, spread}

-- the block of a member comes to the root
abbrev pub takes : (own : ℕ → Slot) → (root member : ℕ) → (into : Slot) → Act
takes own root k into = if k == root then Copies root (own root) into else Hands k (own k) root into

-- the blocks of so many members from this one on come in turn and are folded in; the fold so far stands in one room,
-- and the next block comes into the other one, in which it is then folded
abbrev pub folds_in : (own : ℕ → Slot) → (root : ℕ) → (low high : Slot) → (member count : ℕ) → List Act
folds_in own root low high k zero = Copies root low (Got 0) ∷ []
folds_in own root low high k (suc c) =
    takes own root k high ∷ Folds root low high high ∷ folds_in own root high low (suc k) c

abbrev pub reducing_in_order : (own : ℕ → Slot) → (n root : ℕ) → List Act
reducing_in_order own n root = takes own root 0 (Kept 0) ∷ folds_in own root (Kept 0) (Kept 1) 1 (n - 1)

-- the result goes on to all by a tree
abbrev pub allreducing_in_order : (own : ℕ → Slot) → (n : ℕ) → List Act
allreducing_in_order own n = reducing_in_order own n 0 ++ spread n (Got 0) 0 n 0

-- ---- plans of member r of n

abbrev pub ordered_reduce : (n root r : ℕ) → List Step
ordered_reduce n root r = part r (reducing_in_order (λ x. Given 0) n root)

abbrev pub ordered_allreduce : (n r : ℕ) → List Step
ordered_allreduce n r = part r (allreducing_in_order (λ x. Given 0) n)

-- ---- what they give, for every operation

-- The root's result is the left fold of what all handed in, in the order of ranks, in place or not (5.9.1)
abbrev pub OrderedReduceGives : Type 0
OrderedReduceGives =
    (f : Folding) (n root : ℕ) (in_place : ℕ → Bool) (given : ℕ → Memory) → root < n →
    EndsAhead f n (λ r. part r (reducing_in_order (own_slot in_place) n root)) given root (Got 0)
    (folded f (λ s. given s (own_slot in_place s)) (n - 1))

-- So is the result of each member (5.9.6)
abbrev pub OrderedAllreduceGives : Type 0
OrderedAllreduceGives =
    (f : Folding) (n : ℕ) (in_place : ℕ → Bool) (given : ℕ → Memory) (r : ℕ) → r < n →
    EndsAhead f n (λ x. part x (allreducing_in_order (own_slot in_place) n)) given r (Got 0)
    (folded f (λ s. given s (own_slot in_place s)) (n - 1))
