-- Plans by trees: a range of ranks is cut into halves, each with a member that holds its block; one message joins two
-- halves, so that the rounds are as many as halvings (MPI 3.1, 5.3, 5.4, 5.9.1, 5.9.6).
use Rattle.std.specs.Prelude.{◌≡◌, ◌<◌, ℕ, zero, suc, Bool, true, ◌+◌, ◌-◌, ◌/◌, List, [], ◌∷◌, ◌++◌}
use Rattle.std.specs.Prelude.{if◌then◌else◌, nat_lt}
use Rattle.collective_plans.specs.declared.plan.Slot.{Slot}
use Rattle.collective_plans.specs.declared.plan.Slot.TheVariants.{Given, Got, Kept}
use Rattle.collective_plans.specs.declared.plan.Step.{Step}
use Rattle.collective_plans.specs.Slots.{Block, Memory}
use Rattle.collective_plans.specs.Networks.{Folding}
use Rattle.collective_plans.specs.Ahead.{EndsAhead}
use Rattle.collective_plans.specs.Entering.{WaitsForAll}
use Rattle.collective_plans.specs.PlanLaws.{folded}
use Rattle.collective_plans.specs.Scripts.{Act, Copies, Folds, Hands, part}

-- Of so many ranks from `low` on the first half is as long as the second one, or by one longer; the second one begins
-- here
abbrev pub middle : (low count : ℕ) → ℕ
middle l n = l + (n - n / 2)

-- who holds the block of the half in which the holder of the whole isn't: the first member of that half
abbrev pub other_holder : (middle low holder : ℕ) → ℕ
other_holder m l h = if nat_lt h m then m else l

-- who holds the blocks of the first half and of the second one
abbrev pub first_holder : (middle low holder : ℕ) → ℕ
first_holder m l h = if nat_lt h m then h else l

abbrev pub second_holder : (middle holder : ℕ) → ℕ
second_holder m h = if nat_lt h m then m else h

-- The holder's block comes to all of so many members from `low` on. `cuts` bounds how often the range is cut
abbrev pub spread : (cuts : ℕ) → Slot → (low count holder : ℕ) → List Act
spread zero b l n h = []
spread (suc k) b l n h =
    if nat_lt n 2 then [] else
    (Hands h b (other_holder (middle l n) l h) b ∷
    (spread k b l (n - n / 2) (first_holder (middle l n) l h) ++
    spread k b (middle l n) (n / 2) (second_holder (middle l n) h)))

-- the holder folds what another one hands to it, the lower rank first
abbrev pub joins : (holder other : ℕ) → List Act
joins h o =
    Hands o (Kept 0) h (Kept 1) ∷
    (if nat_lt h o then Folds h (Kept 0) (Kept 1) (Kept 1) ∷ Copies h (Kept 1) (Kept 0) ∷ [] else
    Folds h (Kept 1) (Kept 0) (Kept 0) ∷ [])

-- the blocks of so many members from `low` on are folded at the holder
abbrev pub collect : (cuts : ℕ) → (low count holder : ℕ) → List Act
collect zero l n h = []
collect (suc k) l n h =
    if nat_lt n 2 then [] else
    (collect k l (n - n / 2) (first_holder (middle l n) l h) ++
    (collect k (middle l n) (n / 2) (second_holder (middle l n) h) ++ joins h (other_holder (middle l n) l h)))

-- so many members from this one on begin with what they hand in
abbrev pub begins : (own : ℕ → Slot) → (low count : ℕ) → List Act
begins own l zero = []
begins own l (suc k) = Copies l (own l) (Kept 0) ∷ begins own (suc l) k

-- what a member hands in stands where its result comes (5.2), or in a place of its own
abbrev pub own_slot : (in_place : ℕ → Bool) → (member : ℕ) → Slot
own_slot in_place r = if in_place r then Got 0 else Given 0

-- ---- scripts of n members

abbrev pub broadcasting : (n root : ℕ) → List Act
broadcasting n root = Copies root (Given 0) (Got 0) ∷ spread n (Got 0) 0 n root

abbrev pub reducing : (own : ℕ → Slot) → (n root : ℕ) → List Act
reducing own n root = begins own 0 n ++ (collect n 0 n root ++ Copies root (Kept 0) (Got 0) ∷ [])

abbrev pub allreducing : (own : ℕ → Slot) → (n : ℕ) → List Act
allreducing own n = reducing own n 0 ++ spread n (Got 0) 0 n 0

-- ---- plans of member r of n

abbrev pub tree_broadcast : (n root r : ℕ) → List Step
tree_broadcast n root r = part r (broadcasting n root)

abbrev pub tree_reduce : (n root r : ℕ) → List Step
tree_reduce n root r = part r (reducing (λ x. Given 0) n root)

abbrev pub tree_allreduce : (n r : ℕ) → List Step
tree_allreduce n r = part r (allreducing (λ x. Given 0) n)

-- an allreduce of nothing
abbrev pub tree_barrier : (n r : ℕ) → List Step
tree_barrier n r = tree_allreduce n r

-- ---- what they give

-- An operation that is associative on blocks of a kind, and makes such blocks of them: so is a sum of integers on
-- blocks of one length, and a sum of floats isn't
pub record IsAssociative (f : Folding) (is_of_kind : Block → Bool) : Type 0 where
  pub stays : (a b : Block) → is_of_kind a ≡ true → is_of_kind b ≡ true → is_of_kind (f a b) ≡ true
  pub regroups :
      (a b c : Block) → is_of_kind a ≡ true → is_of_kind b ≡ true → is_of_kind c ≡ true →
      f (f a b) c ≡ f a (f b c)

-- Each member's result is what the root handed in (5.4)
abbrev pub TreeBroadcastGives : Type 0
TreeBroadcastGives =
    (f : Folding) (n root : ℕ) (given : ℕ → Memory) (r : ℕ) → root < n → r < n →
    EndsAhead f n (tree_broadcast n root) given r (Got 0) (given root (Given 0))

-- Where the operation is associative, the root's result is the left fold of what all handed in, in the order of ranks,
-- in place or not (5.9.1)
abbrev pub TreeReduceGives : Type 0
TreeReduceGives =
    (f : Folding) (is_of_kind : Block → Bool) (n root : ℕ) (in_place : ℕ → Bool) (given : ℕ → Memory) →
    IsAssociative f is_of_kind → ((s : ℕ) → s < n → is_of_kind (given s (own_slot in_place s)) ≡ true) → root < n →
    EndsAhead f n (λ r. part r (reducing (own_slot in_place) n root)) given root (Got 0)
    (folded f (λ s. given s (own_slot in_place s)) (n - 1))

-- So is the result of each member (5.9.6)
abbrev pub TreeAllreduceGives : Type 0
TreeAllreduceGives =
    (f : Folding) (is_of_kind : Block → Bool) (n : ℕ) (in_place : ℕ → Bool) (given : ℕ → Memory) (r : ℕ) →
    IsAssociative f is_of_kind → ((s : ℕ) → s < n → is_of_kind (given s (own_slot in_place s)) ≡ true) → r < n →
    EndsAhead f n (λ x. part x (allreducing (own_slot in_place) n)) given r (Got 0)
    (folded f (λ s. given s (own_slot in_place s)) (n - 1))

-- No member is past the barrier before all have entered (5.3)
abbrev pub BarrierWaits : Type 0
BarrierWaits = (n : ℕ) → WaitsForAll n (tree_barrier n)
