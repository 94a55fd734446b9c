-- What the code of reductions in the order of ranks adds to a plan, piece by piece.
use Rattle.std.proofs.Common.{◌≡◌, ◌<◌, ◌≤◌, ℕ, zero, suc, ◌+◌, ◌-◌, Bool, true, false, List, [], ◌∷◌, ◌++◌}
use Rattle.std.proofs.Common.{if◌then◌else◌, ◌==◌, nat_lt, refl, sym, ap, ap₂, ◌∙◌, arith, ne_eqb, append_assoc}
use Rattle.std.proofs.lemmas.Bool.{eqb-true, eqb-false, eq-eqb, ltb-true, ltb-false}
use Rattle.collective_plans.specs.declared.plan.Slot.{Slot}
use Rattle.collective_plans.specs.declared.plan.Slot.TheVariants.{Given, Got, Kept}
use Rattle.collective_plans.specs.declared.plan.Step.{Step}
use Rattle.collective_plans.specs.declared.plan.Step.TheVariants.{Copy, Fold, Receive, Send}
use Rattle.collective_plans.specs.Scripts.{Act, Copies, Folds, Hands, own_step, part, part_of}
use Rattle.collective_plans.specs.Ordered.{folds_in, ordered_allreduce, ordered_reduce, reducing_in_order, takes}
use Rattle.collective_plans.specs.Trees.{spread}
use Rattle.collective_plans.proofs.PartProofs.{part_append}

-- what another member than the root does where its block is taken
takes_other : (root r k : ℕ) (into : Slot) (rest : List Step) → (r == root) ≡ false →
    part_of r (takes (λ x. Given 0) root k into) rest ≡ own_step (r == k) (Send root (Given 0)) rest
takes_other root r k into rest apart = go (k == root) refl
  where
    go : (t : Bool) → (k == root) ≡ t →
        part_of r (if t then Copies root (Given 0) into else Hands k (Given 0) root into) rest ≡
        own_step (r == k) (Send root (Given 0)) rest
    go true e =
        ap (λ (t : Bool). own_step t (Copy (Given 0) into) rest) apart
        ∙ ap (λ (t : Bool). own_step t (Send root (Given 0)) rest)
        (sym apart ∙ ap (λ (x : ℕ). r == x) (sym (eqb-true k root e)))
    go false e =
        ap (λ (t : Bool). own_step (r == k) (Send root (Given 0)) (own_step t (Receive k into) rest)) apart

folds_other : (root r : ℕ) (low high : Slot) (k c : ℕ) → (r == root) ≡ false →
    (r < k → part r (folds_in (λ x. Given 0) root low high k c) ≡ []) ×
    (k ≤ r → r < k + c → part r (folds_in (λ x. Given 0) root low high k c) ≡ Send root (Given 0) ∷ [])
folds_other root r low high k zero apart = (
  λ lt. ap (λ (t : Bool). own_step t (Copy low (Got 0)) []) apart,
  λ u w. let z : r < k + 0 = w in absurd (omega (arith, u, z)),
)
folds_other root r low high k (suc c) apart =
    go (folds_other root r high low (suc k) c apart)
  where
    rest : List Step
    rest = part r (folds_in (λ x. Given 0) root high low (suc k) c)

    one : part r (folds_in (λ x. Given 0) root low high k (suc c)) ≡ own_step (r == k) (Send root (Given 0))
        (part r (folds_in (λ x. Given 0) root high low (suc k) c))
    one = takes_other root r k high (own_step (r == root) (Fold low high high) rest) apart
        ∙ ap (λ (t : Bool). own_step (r == k) (Send root (Given 0)) (own_step t (Fold low high high) rest)) apart

    go : (r < suc k → part r (folds_in (λ x. Given 0) root high low (suc k) c) ≡ []) ×
        (suc k ≤ r → r < suc k + c → part r (folds_in (λ x. Given 0) root high low (suc k) c) ≡
        Send root (Given 0) ∷ []) →
        (r < k → part r (folds_in (λ x. Given 0) root low high k (suc c)) ≡ []) ×
        (k ≤ r → r < k + suc c → part r (folds_in (λ x. Given 0) root low high k (suc c)) ≡ Send root (Given 0) ∷ [])
    go ih = (
      λ lt. one ∙ ap (λ (t : Bool). own_step t (Send root (Given 0)) rest)
          (ne_eqb r k (λ (e : r ≡ k). omega (arith, lt, e))) ∙ ih.0 (omega (arith, lt)),
      λ u w. one ∙ side u w (r == k) refl,
    )
      where
        side : k ≤ r → r < k + suc c → (t : Bool) → (r == k) ≡ t →
            own_step t (Send root (Given 0)) (part r (folds_in (λ x. Given 0) root high low (suc k) c)) ≡
            Send root (Given 0) ∷ []
        side u w true e = let is : r ≡ k = eqb-true r k e in
            ap (λ (ss : List Step). Send root (Given 0) ∷ ss) (ih.0 (omega (arith, is)))
        side u w false e = ih.1 (above (nat_lt k r) refl) (omega (arith, w))
          where
            above : (t : Bool) → nat_lt k r ≡ t → suc k ≤ r
            above true v = let z : k < r = ltb-true k r v in omega (arith, z)
            above false v = let z : r ≤ k = ltb-false k r v in absurd (eqb-false r k e (omega (arith, u, z)))

-- each other member sends its block to the root
pub ordered_other : (n root r : ℕ) → r < n → (r == root) ≡ false →
    ordered_reduce n root r ≡ Send root (Given 0) ∷ []
ordered_other n root r lt apart =
    takes_other root r 0 (Kept 0) (part r (folds_in (λ x. Given 0) root (Kept 0) (Kept 1) 1 (n - 1))) apart
    ∙ go (r == 0) refl
  where
    go : (t : Bool) → (r == 0) ≡ t → own_step t (Send root (Given 0))
        (part r (folds_in (λ x. Given 0) root (Kept 0) (Kept 1) 1 (n - 1))) ≡ Send root (Given 0) ∷ []
    go true e = let is : r ≡ 0 = eqb-true r 0 e in
        ap (λ (ss : List Step). Send root (Given 0) ∷ ss)
        ((folds_other root r (Kept 0) (Kept 1) 1 (n - 1) apart).0 (omega (arith, is)))
    go false e =
        (folds_other root r (Kept 0) (Kept 1) 1 (n - 1) apart).1 (above (nat_lt 0 r) refl) (omega (arith, lt))
      where
        above : (t : Bool) → nat_lt 0 r ≡ t → 1 ≤ r
        above true v = let z : 0 < r = ltb-true 0 r v in omega (arith, z)
        above false v = let z : r ≤ 0 = ltb-false 0 r v in absurd (eqb-false r 0 e (omega (arith, z)))

-- the root begins with the first block
pub ordered_root : (n root : ℕ) →
    ordered_reduce n root root ≡ part root (takes (λ x. Given 0) root 0 (Kept 0) ∷ []) ++
    part root (folds_in (λ x. Given 0) root (Kept 0) (Kept 1) 1 (n - 1))
ordered_root n root = part_append root (takes (λ x. Given 0) root 0 (Kept 0) ∷ []) _

-- one more block is taken and folded in
pub folds_more : (root size member : ℕ) (low high : Slot) (old : List Step) (all : List Step) → member < size →
    old ++ part root (folds_in (λ x. Given 0) root low high member (size - member)) ≡ all →
    ((old ++ part root (takes (λ x. Given 0) root member high ∷ [])) ++ Fold low high high ∷ []) ++
    part root (folds_in (λ x. Given 0) root high low (member + 1) (size - (member + 1))) ≡ all
folds_more root size member low high old all lt h =
    append_assoc (old ++ part root (takes (λ x. Given 0) root member high ∷ [])) (Fold low high high ∷ []) rest
    ∙ append_assoc old (part root (takes (λ x. Given 0) root member high ∷ [])) (Fold low high high ∷ rest)
    ∙ ap (λ (ss : List Step). old ++ ss) (sym (one (size - member) is)) ∙ h
  where
    rest : List Step
    rest = part root (folds_in (λ x. Given 0) root high low (member + 1) (size - (member + 1)))

    is : size - member ≡ suc (size - (member + 1))
    is = omega (arith, lt)

    after : suc member ≡ member + 1
    after = omega arith

    one : (c : ℕ) → c ≡ suc (size - (member + 1)) →
        part root (folds_in (λ x. Given 0) root low high member c) ≡
        part root (takes (λ x. Given 0) root member high ∷ []) ++
        (Fold low high high ∷ part root (folds_in (λ x. Given 0) root high low (member + 1) (size - (member + 1))))
    one c e =
        ap (λ (x : ℕ). part root (folds_in (λ x. Given 0) root low high member x)) e
        ∙ part_append root (takes (λ x. Given 0) root member high ∷ [])
        (Folds root low high high ∷ folds_in (λ x. Given 0) root high low (suc member) (size - (member + 1)))
        ∙ ap (λ (t : Bool). part root (takes (λ x. Given 0) root member high ∷ []) ++
        own_step t (Fold low high high) (part root (folds_in (λ x. Given 0) root high low (suc member)
        (size - (member + 1))))) (eq-eqb root root refl)
        ∙ ap (λ (y : ℕ). part root (takes (λ x. Given 0) root member high ∷ []) ++
        (Fold low high high ∷ part root (folds_in (λ x. Given 0) root high low y (size - (member + 1))))) after

-- all are folded in
pub folds_done : (root size member : ℕ) (low high : Slot) (old : List Step) (all : List Step) → size ≤ member →
    old ++ part root (folds_in (λ x. Given 0) root low high member (size - member)) ≡ all →
    old ++ Copy low (Got 0) ∷ [] ≡ all
folds_done root size member low high old all e h =
    ap (λ (ss : List Step). old ++ ss) (sym last) ∙ h
  where
    last : part root (folds_in (λ x. Given 0) root low high member (size - member)) ≡ Copy low (Got 0) ∷ []
    last =
        let none : size - member ≡ 0 = omega (arith, e) in
        ap (λ (x : ℕ). part root (folds_in (λ x. Given 0) root low high member x)) none
        ∙ ap (λ (t : Bool). own_step t (Copy low (Got 0)) []) (eq-eqb root root refl)

-- the whole plan of an allreduce
pub ordered_pieces : (n r : ℕ) →
    ([] ++ ordered_reduce n 0 r) ++ part r (spread n (Got 0) 0 n 0) ≡ ordered_allreduce n r
ordered_pieces n r = sym (part_append r (reducing_in_order (λ x. Given 0) n 0) (spread n (Got 0) 0 n 0))

pub root_pieces : (n root r : ℕ) (old : List Step) → r ≡ root →
    (old ++ part root (takes (λ x. Given 0) root 0 (Kept 0) ∷ [])) ++
    part root (folds_in (λ x. Given 0) root (Kept 0) (Kept 1) 1 (n - 1)) ≡ old ++ ordered_reduce n root r
root_pieces n root r old is =
    append_assoc old (part root (takes (λ x. Given 0) root 0 (Kept 0) ∷ [])) _
    ∙ ap (λ (ss : List Step). old ++ ss) (sym (ordered_root n root))
    ∙ ap (λ (x : ℕ). old ++ ordered_reduce n root x) (sym is)

pub other_pieces : (n root r : ℕ) (old : List Step) → r < n → (r ≡ root → ⊥) →
    old ++ Send root (Given 0) ∷ [] ≡ old ++ ordered_reduce n root r
other_pieces n root r old lt apart =
    ap (λ (ss : List Step). old ++ ss) (sym (ordered_other n root r lt (ne_eqb r root apart)))
