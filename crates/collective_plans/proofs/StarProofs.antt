-- What gather and scatter give.
use Rattle.std.proofs.Common.{◌≡◌, ◌<◌, ◌≤◌, inl, inr, ℕ, suc, ◌-◌, Bool, true, false, not, ◌&&◌, List, []}
use Rattle.std.proofs.Common.{◌∷◌, if◌then◌else◌, ◌==◌, nat_lt, refl, sym, ap, ◌∙◌, append-nil, arith, ne_eqb}
use Rattle.std.proofs.lemmas.Bool.{eqb-true, eq-eqb, lt-ltb, ltb-true, ltb-false}
use Rattle.collective_plans.specs.declared.plan.Slot.{Slot}
use Rattle.collective_plans.specs.declared.plan.Slot.TheVariants.{Given, Got}
use Rattle.collective_plans.specs.declared.plan.Step.{Step}
use Rattle.collective_plans.specs.declared.plan.Step.TheVariants.{Copy, Send, Receive}
use Rattle.collective_plans.specs.Slots.{Block, Memory, with_block}
use Rattle.collective_plans.specs.Networks.{Folding}
use Rattle.collective_plans.specs.Meanings.{Inbox, IsTalk, Talk, ends_with, first_of, said_to, told}
use Rattle.collective_plans.specs.Exchanges.{all_receives, all_sends, falling, receivers, senders}
use Rattle.collective_plans.specs.PlanLaws.{among}
use Rattle.collective_plans.specs.Stars.{GatherGives, ScatterGives, gather, scatter}
use Rattle.collective_plans.proofs.ExchangeProofs.{AreOneKind, both_give, copies_of}
use Rattle.collective_plans.proofs.ExchangeProofs.{ends_receives, ends_sends, got_is_one_kind}
use Rattle.collective_plans.proofs.ExchangeProofs.{inbox_after, inbox_out, memory_after, memory_append, memory_in}
use Rattle.collective_plans.proofs.ExchangeProofs.{memory_out, said_receives, said_sends}

-- in each slot there is what its member said first, and the own block
pub taken_is : (t : ℕ → Slot) → AreOneKind t → (n r j : ℕ) (q : Inbox) (m : Memory) (b : ℕ → Block) → r < n → j < n →
    ((k : ℕ) → k < n → (r ≡ k → ⊥) → first_of (q k) ≡ b k) → m (t r) ≡ b r →
    memory_after t q m (senders n r) (t j) ≡ b j
taken_is t kind n r j q m b lr lj says own =
    ap (λ (z : Memory). z (t j)) (memory_append t (falling 0 r) (falling (suc r) (n - suc r)) q m)
    ∙ go (nat_lt j r) refl (nat_lt r j) refl
  where
    go : (x : Bool) → nat_lt j r ≡ x → (y : Bool) → nat_lt r j ≡ y →
        memory_after t (inbox_after q (falling 0 r)) (memory_after t q m (falling 0 r)) (falling (suc r) (n - suc r))
        (t j) ≡ b j
    go true e y u = let l : j < r = ltb-true j r e in
        memory_out t kind (suc r) (n - suc r) (inbox_after q (falling 0 r)) (memory_after t q m (falling 0 r)) j
        (inl (omega (arith, l)))
        ∙ memory_in t kind 0 r q m j (omega arith) (omega (arith, l))
        ∙ says j lj (λ (h : r ≡ j). omega (arith, h, l))
    go false e true u = let l : r < j = ltb-true r j u in
        memory_in t kind (suc r) (n - suc r) (inbox_after q (falling 0 r)) (memory_after t q m (falling 0 r)) j
        (omega (arith, l)) (omega (arith, lj, lr))
        ∙ ap first_of (inbox_out 0 r q j (inr (omega (arith, l))))
        ∙ says j lj (λ (h : r ≡ j). omega (arith, h, l))
    go false e false u =
        let a : r ≤ j = ltb-false j r e in
        let c : j ≤ r = ltb-false r j u in
        let is : j ≡ r = omega (arith, a, c) in
        memory_out t kind (suc r) (n - suc r) (inbox_after q (falling 0 r)) (memory_after t q m (falling 0 r)) j
        (inl (omega (arith, is)))
        ∙ memory_out t kind 0 r q m j (inr (omega (arith, is)))
        ∙ ap (λ (x : ℕ). m (t x)) is ∙ own ∙ ap b (sym is)

-- GATHER

abbrev gathered : (n root : ℕ) → (given : ℕ → Memory) → Talk
gathered n root given s d = if nat_lt s n && (not (s == root) && (d == root)) then given s (Given 0) ∷ [] else []

gather_is_talk : (f : Folding) (n root : ℕ) (given : ℕ → Memory) →
    IsTalk f (among n (gather n root)) given (gathered n root given)
gather_is_talk f n root given s d = go (nat_lt s n) (s == root)
  where
    at_root : said_to f d (told (gathered n root given) s) (with_block (given s) (Got s) (given s (Given 0)))
        (all_receives Got (senders n s)) ≡ []
    at_root = ap (λ (ss : List Step). said_to f d (told (gathered n root given) s)
        (with_block (given s) (Got s) (given s (Given 0))) ss) (sym (append-nil (all_receives Got (senders n s))))
        ∙ said_receives f d Got (senders n s) [] (λ q m. refl) (told (gathered n root given) s)
        (with_block (given s) (Got s) (given s (Given 0)))

    go : (a b : Bool) → said_to f d (told (gathered n root given) s) (given s)
        (if a then (if b then Copy (Given 0) (Got s) ∷ all_receives Got (senders n s) else Send root
        (Given 0) ∷ []) else [])
        ≡ (if a && (not b && (d == root)) then given s (Given 0) ∷ [] else [])
    go false b = refl
    go true true = at_root
    go true false = refl

pub gather_gives : GatherGives
gather_gives f n root given j lr lj =
    (both_give f n (gather n root) given (gathered n root given) (gather_is_talk f n root given) root (Got j)
    (given j (Given 0)) means).1
  where
    says : (k : ℕ) → k < n → (root ≡ k → ⊥) → first_of (told (gathered n root given) root k) ≡ given k (Given 0)
    says k lk ne =
        ap (λ (t : Bool). first_of (if t && (not (k == root) && (root == root)) then given k (Given 0) ∷ [] else []))
        (lt-ltb k n lk)
        ∙ ap (λ (t : Bool). first_of (if not t && (root == root) then given k (Given 0) ∷ [] else []))
        (ne_eqb k root (λ (e : k ≡ root). ne (sym e)))
        ∙ ap (λ (t : Bool). first_of (if t then given k (Given 0) ∷ [] else [])) (eq-eqb root root refl)

    means : ends_with f (told (gathered n root given) root) (given root) (among n (gather n root) root) (Got j) ≡
        given j (Given 0)
    means =
        ap (λ (t : Bool). ends_with f (told (gathered n root given) root) (given root)
        (if t then gather n root root else []) (Got j)) (lt-ltb root n lr)
        ∙ ap (λ (t : Bool). ends_with f (told (gathered n root given) root) (given root)
        (if t then Copy (Given 0) (Got root) ∷ all_receives Got (senders n root) else Send root (Given 0) ∷ []) (Got j))
        (eq-eqb root root refl)
        ∙ ap (λ (ss : List Step). ends_with f (told (gathered n root given) root)
        (with_block (given root) (Got root) (given root (Given 0))) ss (Got j))
        (sym (append-nil (all_receives Got (senders n root))))
        ∙ ap (λ (m : Memory). m (Got j)) (ends_receives f Got (senders n root) [] (told (gathered n root given) root)
        (with_block (given root) (Got root) (given root (Given 0))))
        ∙ taken_is Got got_is_one_kind n root j (told (gathered n root given) root) (with_block (given root)
        (Got root) (given root
        (Given 0)))
        (λ k. given k (Given 0)) lr lj says
        (ap (λ (t : Bool). if t then given root (Given 0) else given root (Got root)) (eq-eqb root root refl))

-- SCATTER

abbrev scattered : (n root : ℕ) → (given : ℕ → Memory) → Talk
scattered n root given s d =
    if nat_lt s n && ((s == root) && (nat_lt d n && not (d == s))) then given s (Given d) ∷ [] else []

scatter_is_talk : (f : Folding) (n root : ℕ) (given : ℕ → Memory) →
    IsTalk f (among n (scatter n root)) given (scattered n root given)
scatter_is_talk f n root given s d = go (nat_lt s n) refl (s == root)
  where
    at_root : s < n → said_to f d (told (scattered n root given) s) (with_block (given s) (Got 0) (given s (Given s)))
        (all_sends Given (receivers n s)) ≡ (if nat_lt d n && not (d == s) then given s (Given d) ∷ [] else [])
    at_root lt = ap (λ (ss : List Step). said_to f d (told (scattered n root given) s)
        (with_block (given s) (Got 0) (given s (Given s))) ss) (sym (append-nil (all_sends Given (receivers n s))))
        ∙ said_sends f d (told (scattered n root given) s) (with_block (given s) (Got 0) (given s (Given s))) Given
        (receivers n s) []
        ∙ append-nil _
        ∙ copies_of n s d (given s (Given d)) lt

    go : (a : Bool) → nat_lt s n ≡ a → (b : Bool) → said_to f d (told (scattered n root given) s) (given s)
        (if a then (if b then Copy (Given s) (Got 0) ∷ all_sends Given (receivers n s) else Receive root (Got 0) ∷ [])
        else []) ≡ (if a && (b && (nat_lt d n && not (d == s))) then given s (Given d) ∷ [] else [])
    go false e b = refl
    go true e true = at_root (ltb-true s n e)
    go true e false = refl

pub scatter_gives : ScatterGives
scatter_gives f n root given r lo lr =
    (both_give f n (scatter n root) given (scattered n root given) (scatter_is_talk f n root given) r (Got 0)
    (given root (Given r)) (ap (λ (t : Bool). ends_with f (told (scattered n root given) r) (given r)
    (if t then scatter n root r else []) (Got 0)) (lt-ltb r n lr) ∙ go (r == root) refl)).1
  where
    go : (b : Bool) → (r == root) ≡ b → ends_with f (told (scattered n root given) r) (given r)
        (if b then Copy (Given r) (Got 0) ∷ all_sends Given (receivers n r) else Receive root (Got 0) ∷ []) (Got 0) ≡
        given root (Given r)
    go true e =
        ap (λ (ss : List Step). ends_with f (told (scattered n root given) r)
        (with_block (given r) (Got 0) (given r (Given r))) ss (Got 0)) (sym (append-nil (all_sends Given
        (receivers n r))))
        ∙ ap (λ (m : Memory). m (Got 0)) (ends_sends f (told (scattered n root given) r)
        (with_block (given r) (Got 0) (given r (Given r))) Given (receivers n r) [])
        ∙ ap (λ (x : ℕ). given x (Given r)) (eqb-true r root e)
    go false e =
        ap (λ (t : Bool). first_of (if t && ((root == root) && (nat_lt r n && not (r == root))) then
        given root (Given r) ∷ [] else [])) (lt-ltb root n lo)
        ∙ ap (λ (t : Bool). first_of (if t && (nat_lt r n && not (r == root)) then given root (Given r) ∷ [] else []))
        (eq-eqb root root refl)
        ∙ ap (λ (t : Bool). first_of (if t && not (r == root) then given root (Given r) ∷ [] else [])) (lt-ltb r n lr)
        ∙ ap (λ (t : Bool). first_of (if not t then given root (Given r) ∷ [] else [])) e
