-- What chains give.
use Rattle.std.proofs.Common.{◌≡◌, ◌<◌, ◌≤◌, ℕ, zero, suc, ◌-◌, Bool, true, false, ◌&&◌, List, [], ◌∷◌, ◌++◌}
use Rattle.std.proofs.Common.{if◌then◌else◌, ◌==◌, nat_lt, refl, ap, ap₂, ◌∙◌, arith}
use Rattle.std.proofs.lemmas.Bool.{eq-eqb, lt-ltb, ltb-true, ltb-false}
use Rattle.collective_plans.specs.declared.plan.Slot.{Slot}
use Rattle.collective_plans.specs.declared.plan.Slot.TheVariants.{Given, Got, Kept}
use Rattle.collective_plans.specs.declared.plan.Step.{Step}
use Rattle.collective_plans.specs.declared.plan.Step.TheVariants.{Copy}
use Rattle.collective_plans.specs.Slots.{Block, Memory, is_slot, with_block}
use Rattle.collective_plans.specs.Networks.{Folding}
use Rattle.collective_plans.specs.Meanings.{Inbox, IsTalk, Talk, ends_with, first_of, said_to, told, without_first}
use Rattle.collective_plans.specs.Exchanges.{exscan_of, first_to_next, folded_to_next, scan_of, to_next}
use Rattle.collective_plans.specs.PlanLaws.{ScanGives, among, folded}
use Rattle.collective_plans.specs.Ahead.{AheadGives}
use Rattle.collective_plans.specs.Chains.{ExscanGives, ScanInPlaceGives}
use Rattle.collective_plans.proofs.ExchangeProofs.{BothGive, allgather_both, alltoall_both, both_give}
use Rattle.collective_plans.proofs.ExchangeProofs.{reduce_scatter_both}

-- what is said in a chain
abbrev chained : (own : Slot) (f : Folding) (n : ℕ) → (given : ℕ → Memory) → Talk
chained own f n given s d =
    if nat_lt (suc s) n && (d == suc s) then folded f (λ x. given x own) s ∷ [] else []

-- what comes to a member from the one before it
comes : (own : Slot) (f : Folding) (n : ℕ) (given : ℕ → Memory) (r : ℕ) → suc r < n →
    first_of (told (chained own f n given) (suc r) r) ≡ folded f (λ x. given x own) r
comes own f n given r lt =
    ap (λ (b : Bool). first_of (if b && (suc r == suc r) then folded f (λ x. given x own) r ∷ [] else []))
    (lt-ltb (suc r) n lt)
    ∙ ap (λ (b : Bool). first_of (if b then folded f (λ x. given x own) r ∷ [] else [])) (eq-eqb (suc r) (suc r) refl)

-- where members that are none say nothing, it is enough what the others say
chain_is_talk : (own : Slot) (f : Folding) (n : ℕ) (given : ℕ → Memory) (plan : ℕ → List Step) →
    ((s d : ℕ) → s < n → said_to f d (told (chained own f n given) s) (given s) (plan s) ≡ chained own f n given s d) →
    IsTalk f (among n plan) given (chained own f n given)
chain_is_talk own f n given plan there s d = go (nat_lt s n) refl
  where
    nothing : (b : Bool) → nat_lt (suc s) n ≡ b → nat_lt s n ≡ false →
        [] ≡ (if b && (d == suc s) then folded f (λ x. given x own) s ∷ [] else [])
    nothing false u e = refl
    nothing true u e =
        let l : suc s < n = ltb-true (suc s) n u in
        let g : n ≤ s = ltb-false s n e in absurd (omega (arith, l, g))

    go : (b : Bool) → nat_lt s n ≡ b →
        said_to f d (told (chained own f n given) s) (given s) (if b then plan s else []) ≡ chained own f n given s d
    go true e = there s d (ltb-true s n e)
    go false e = nothing (nat_lt (suc s) n) refl e

-- the own block stands elsewhere than the fold that comes
own_stays : (own : Slot) (m : Memory) (b : Block) → is_slot own (Kept 0) ≡ false → with_block m (Kept 0) b own ≡ m own
own_stays own m b apart = ap (λ (t : Bool). if t then b else m own) apart

-- SCAN

-- what goes on to the next member, if there is one
said_next : (f : Folding) (n r d : ℕ) (q : Inbox) (m : Memory) →
    said_to f d q m (to_next (n - suc r) r) ≡ (if nat_lt (suc r) n && (d == suc r) then m (Got 0) ∷ [] else [])
said_next f n r d q m = go (n - suc r) refl (nat_lt (suc r) n) refl
  where
    go : (k : ℕ) → n - suc r ≡ k → (b : Bool) → nat_lt (suc r) n ≡ b →
        said_to f d q m (to_next k r) ≡ (if b && (d == suc r) then m (Got 0) ∷ [] else [])
    go zero e false u = refl
    go zero e true u = let l : suc r < n = ltb-true (suc r) n u in absurd (omega (arith, l, e))
    go (suc k) e true u = refl
    go (suc k) e false u = let l : n ≤ suc r = ltb-false (suc r) n u in absurd (omega (arith, l, e))

ends_next : (f : Folding) (k r : ℕ) (q : Inbox) (m : Memory) → ends_with f q m (to_next k r) ≡ m
ends_next f zero r q m = refl
ends_next f (suc k) r q m = refl

-- what a member folds
folds_one : (own : Slot) (f : Folding) (n : ℕ) (given : ℕ → Memory) (r : ℕ) → is_slot own (Kept 0) ≡ false → suc r < n →
    f (first_of (told (chained own f n given) (suc r) r))
    (with_block (given (suc r)) (Kept 0) (first_of (told (chained own f n given) (suc r) r)) own) ≡
    folded f (λ x. given x own) (suc r)
folds_one own f n given r apart lt =
    ap₂ f (comes own f n given r lt)
    (own_stays own (given (suc r)) (first_of (told (chained own f n given) (suc r) r)) apart)

scan_both : (own : Slot) (f : Folding) (n : ℕ) (given : ℕ → Memory) (r : ℕ) → is_slot own (Kept 0) ≡ false → r < n →
    BothGive f n (scan_of own n) given r (Got 0) (folded f (λ s. given s own) r)
scan_both own f n given r apart lt =
    both_give f n (scan_of own n) given (chained own f n given) (chain_is_talk own f n given (scan_of own n) says) r
    (Got 0) (folded f (λ s. given s own) r)
    (ap (λ (m : Memory). m (Got 0))
    (ap (λ (b : Bool). ends_with f (told (chained own f n given) r) (given r) (if b then scan_of own n r else []))
    (lt-ltb r n lt)) ∙ there r lt)
  where
    says : (s d : ℕ) → s < n →
        said_to f d (told (chained own f n given) s) (given s) (scan_of own n s) ≡ chained own f n given s d
    says zero d lt =
        said_next f n 0 d (told (chained own f n given) 0) (with_block (given 0) (Got 0) (given 0 own))
    says (suc r) d lt =
        said_next f n (suc r) d (without_first (told (chained own f n given) (suc r)) r)
        (with_block (with_block (given (suc r)) (Kept 0) (first_of (told (chained own f n given) (suc r) r))) (Got 0)
        (f (first_of (told (chained own f n given) (suc r) r))
        (with_block (given (suc r)) (Kept 0) (first_of (told (chained own f n given) (suc r) r)) own)))
        ∙ ap (λ (b : Block). if nat_lt (suc (suc r)) n && (d == suc (suc r)) then b ∷ [] else [])
        (folds_one own f n given r apart lt)

    there : (r : ℕ) → r < n → ends_with f (told (chained own f n given) r) (given r) (scan_of own n r) (Got 0) ≡
        folded f (λ x. given x own) r
    there zero lt = ap (λ (m : Memory). m (Got 0))
        (ends_next f (n - 1) 0 (told (chained own f n given) 0) (with_block (given 0) (Got 0) (given 0 own)))
    there (suc x) lt =
        ap (λ (m : Memory). m (Got 0))
        (ends_next f (n - suc (suc x)) (suc x) (without_first (told (chained own f n given) (suc x)) x)
        (with_block (with_block (given (suc x)) (Kept 0) (first_of (told (chained own f n given) (suc x) x))) (Got 0)
        (f (first_of (told (chained own f n given) (suc x) x))
        (with_block (given (suc x)) (Kept 0) (first_of (told (chained own f n given) (suc x) x)) own))))
        ∙ folds_one own f n given x apart lt

-- EXSCAN

said_first : (own : Slot) (f : Folding) (n d : ℕ) (q : Inbox) (m : Memory) →
    said_to f d q m (first_to_next own (n - 1)) ≡ (if nat_lt 1 n && (d == 1) then m own ∷ [] else [])
said_first own f n d q m = go (n - 1) refl (nat_lt 1 n) refl
  where
    go : (k : ℕ) → n - 1 ≡ k → (b : Bool) → nat_lt 1 n ≡ b →
        said_to f d q m (first_to_next own k) ≡ (if b && (d == 1) then m own ∷ [] else [])
    go zero e false u = refl
    go zero e true u = let l : 1 < n = ltb-true 1 n u in absurd (omega (arith, l, e))
    go (suc k) e true u = refl
    go (suc k) e false u = let l : n ≤ 1 = ltb-false 1 n u in absurd (omega (arith, l, e))

said_folded : (own : Slot) (f : Folding) (n r d : ℕ) (q : Inbox) (m : Memory) →
    said_to f d q m (folded_to_next own (n - suc r) r ++ Copy (Kept 0) (Got 0) ∷ []) ≡
    (if nat_lt (suc r) n && (d == suc r) then f (m (Kept 0)) (m own) ∷ [] else [])
said_folded own f n r d q m = go (n - suc r) refl (nat_lt (suc r) n) refl
  where
    go : (k : ℕ) → n - suc r ≡ k → (b : Bool) → nat_lt (suc r) n ≡ b →
        said_to f d q m (folded_to_next own k r ++ Copy (Kept 0) (Got 0) ∷ []) ≡
        (if b && (d == suc r) then f (m (Kept 0)) (m own) ∷ [] else [])
    go zero e false u = refl
    go zero e true u = let l : suc r < n = ltb-true (suc r) n u in absurd (omega (arith, l, e))
    go (suc k) e true u = refl
    go (suc k) e false u = let l : n ≤ suc r = ltb-false (suc r) n u in absurd (omega (arith, l, e))

ends_folded : (own : Slot) (f : Folding) (k r : ℕ) (q : Inbox) (m : Memory) →
    ends_with f q m (folded_to_next own k r ++ Copy (Kept 0) (Got 0) ∷ []) (Got 0) ≡ m (Kept 0)
ends_folded own f zero r q m = refl
ends_folded own f (suc k) r q m = refl

exscan_both : (own : Slot) (f : Folding) (n : ℕ) (given : ℕ → Memory) (r : ℕ) → is_slot own (Kept 0) ≡ false →
    suc r < n → BothGive f n (exscan_of own n) given (suc r) (Got 0) (folded f (λ s. given s own) r)
exscan_both own f n given r apart lt =
    both_give f n (exscan_of own n) given (chained own f n given) (chain_is_talk own f n given (exscan_of own n) says)
    (suc r) (Got 0) (folded f (λ s. given s own) r)
    (ap (λ (m : Memory). m (Got 0))
    (ap (λ (b : Bool). ends_with f (told (chained own f n given) (suc r)) (given (suc r))
    (if b then exscan_of own n (suc r) else [])) (lt-ltb (suc r) n lt))
    ∙ ends_folded own f (n - suc (suc r)) (suc r) (without_first (told (chained own f n given) (suc r)) r)
    (with_block (given (suc r)) (Kept 0) (first_of (told (chained own f n given) (suc r) r)))
    ∙ comes own f n given r lt)
  where
    says : (s d : ℕ) → s < n →
        said_to f d (told (chained own f n given) s) (given s) (exscan_of own n s) ≡ chained own f n given s d
    says zero d lt = said_first own f n d (told (chained own f n given) 0) (given 0)
    says (suc x) d lt =
        said_folded own f n (suc x) d (without_first (told (chained own f n given) (suc x)) x)
        (with_block (given (suc x)) (Kept 0) (first_of (told (chained own f n given) (suc x) x)))
        ∙ ap (λ (b : Block). if nat_lt (suc (suc x)) n && (d == suc (suc x)) then b ∷ [] else [])
        (folds_one own f n given x apart lt)

-- THE THEOREMS

pub scan_gives : ScanGives
scan_gives f n given r lt = (scan_both (Given 0) f n given r refl lt).0

pub scan_in_place_gives : ScanInPlaceGives
scan_in_place_gives f n given r lt = (scan_both (Got 0) f n given r refl lt).1

pub exscan_gives : ExscanGives
exscan_gives f n given r lt =
    ((exscan_both (Given 0) f n given r refl lt).1, (exscan_both (Got 0) f n given r refl lt).1)

pub ahead_gives : AheadGives
ahead_gives f n given r j lr lj = (
  (alltoall_both f n given r j lr lj).1,
  (allgather_both f n given r j lr lj).1,
  (reduce_scatter_both f n given r lr).1,
  (scan_both (Given 0) f n given r refl lr).1,
)
