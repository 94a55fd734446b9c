-- No member is past the barrier before all have entered: the barrier is an allreduce, and the result of one hangs on
-- what each hands in.
use Rattle.std.proofs.Common.{◌≡◌, ◌<◌, ◌≤◌, ℕ, zero, suc, ◌-◌, Bool, true, false, List, [], ◌∷◌, ◌++◌}
use Rattle.std.proofs.Common.{if◌then◌else◌, ◌==◌, nat_lt, refl, sym, ap, ap₂, ◌∙◌, arith, append_assoc}
use Rattle.std.proofs.lemmas.Bool.{eqb-true, eq-eqb, ltb-true, ltb-false}
use Rattle.collective_plans.specs.declared.plan.Slot.{Slot}
use Rattle.collective_plans.specs.declared.plan.Slot.TheVariants.{Given, Got, Kept}
use Rattle.collective_plans.specs.declared.plan.Step.{Step}
use Rattle.collective_plans.specs.Slots.{Block, Memory}
use Rattle.collective_plans.specs.Networks.{Folding}
use Rattle.collective_plans.specs.Ahead.{Ahead, Turn, after_turns, opening_ahead}
use Rattle.collective_plans.specs.PlanLaws.{among, folded}
use Rattle.collective_plans.specs.Scripts.{with_memory}
use Rattle.collective_plans.specs.Entering.{has_entered}
use Rattle.collective_plans.specs.Trees.{BarrierWaits, IsAssociative, tree_barrier}
use Rattle.collective_plans.proofs.EnteringProofs.{goes_without_data, nothing_of_the_absent}
use Rattle.collective_plans.proofs.PartProofs.{other_memory, own_memory}
use Rattle.collective_plans.proofs.TreeProofs.{tree_allreduce_gives}

-- one block behind the other
abbrev joined : Folding
joined a b = a ++ b

joined_is : IsAssociative joined (λ b. true)
joined_is = record { stays = λ a b h k. refl; regroups = λ a b c h k l. append_assoc a b c }

abbrev has_some : Block → Bool
has_some [] = false
has_some (x ∷ xs) = true

some_first : (a b : Block) → has_some a ≡ true → has_some (a ++ b) ≡ true
some_first [] b h = let k : false ≡ true = h in absurd (grind arith)
some_first (x ∷ xs) b h = refl

some_last : (a b : Block) → has_some b ≡ true → has_some (a ++ b) ≡ true
some_last [] b h = h
some_last (x ∷ xs) b h = refl

fold_some : (v : ℕ → Block) (s k : ℕ) → s ≤ k → has_some (v s) ≡ true → has_some (folded joined v k) ≡ true
fold_some v s zero le h = let is : 0 ≡ s = omega (arith, le) in ap (λ (x : ℕ). has_some (v x)) is ∙ h
fold_some v s (suc k) le h = go (λ l. fold_some v s k l h) (nat_lt s (suc k)) refl
  where
    go : (s ≤ k → has_some (folded joined v k) ≡ true) → (t : Bool) → nat_lt s (suc k) ≡ t →
        has_some (folded joined v k ++ v (suc k)) ≡ true
    go ih true e = let l : s < suc k = ltb-true s (suc k) e in
        some_first (folded joined v k) (v (suc k)) (ih (omega (arith, l)))
    go ih false e =
        let g : suc k ≤ s = ltb-false s (suc k) e in
        let is : suc k ≡ s = omega (arith, g, le) in
        some_last (folded joined v k) (v (suc k)) (ap (λ (x : ℕ). has_some (v x)) is ∙ h)

fold_none : (v : ℕ → Block) (k : ℕ) → ((x : ℕ) → v x ≡ []) → folded joined v k ≡ []
fold_none v zero h = h 0
fold_none v (suc k) h = ap₂ (λ (a b : Block). a ++ b) (fold_none v k h) (h (suc k))

-- nobody hands anything in, or one member alone
abbrev nothing : ℕ → Memory
nothing x y = []

abbrev something : (s : ℕ) → ℕ → Memory
something s = with_memory nothing s (λ y. 0 ∷ [])

turned : (a b : ℕ) → (a == b) ≡ false → (b == a) ≡ false
turned a b e = go (b == a) refl
  where
    go : (t : Bool) → (b == a) ≡ t → (b == a) ≡ false
    go false u = u
    go true u = let k : true ≡ false = sym (eq-eqb a b (sym (eqb-true b a u))) ∙ e in absurd (grind arith)

pub barrier_waits : BarrierWaits
barrier_waits n f given turns r s lr ls apart ended come = go (has_entered s turns) refl
  where
    plans : ℕ → List Step
    plans = among n (tree_barrier n)

    has : (given' : ℕ → Memory) →
        ((after_turns joined (opening_ahead (among n (tree_barrier n)) given') turns).at r).memory (Got 0) ≡
        folded joined (λ x. given' x (Given 0)) (n - 1)
    has given' =
        let same = goes_without_data f joined (among n (tree_barrier n)) given given' turns r in
        tree_allreduce_gives joined (λ b. true) n (λ x. false) given' r joined_is (λ x l. refl) lr turns
        (sym same.0 ∙ ended) (sym same.1 ∙ come)

    go : (t : Bool) → has_entered s turns ≡ t → has_entered s turns ≡ true
    go true e = e
    go false e =
        let alike = nothing_of_the_absent joined (among n (tree_barrier n)) nothing (something s) turns s
        (λ x u. sym (other_memory nothing s x (λ y. 0 ∷ []) u)) e r (turned s r apart) in
        let none : folded joined (λ x. nothing x (Given 0)) (n - 1) ≡ [] = fold_none _ (n - 1) (λ x. refl) in
        let some : has_some (folded joined (λ x. something s x (Given 0)) (n - 1)) ≡ true =
        fold_some (λ x. something s x (Given 0)) s (n - 1) (omega (arith, ls))
        (ap (λ (m : Memory). has_some (m (Given 0))) (own_memory nothing s (λ y. 0 ∷ []))) in
        let k : false ≡ true = sym (ap has_some none) ∙ ap has_some (sym (has nothing)
        ∙ ap (λ (c : Ahead). c.memory (Got 0)) alike ∙ has (something s)) ∙ some in absurd (grind arith)
