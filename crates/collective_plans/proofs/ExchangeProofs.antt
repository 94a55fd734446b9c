-- What exchanges and chains give.
use Rattle.std.proofs.Common.{◌≡◌, ◌<◌, ◌≤◌, ◌⊎◌, inl, inr, ℕ, zero, suc, ◌+◌, ◌-◌, Bool, true, false, not, ◌&&◌, List}
use Rattle.std.proofs.Common.{[], ◌∷◌, ◌++◌, if◌then◌else◌, ◌==◌, nat_lt, refl, sym, ap, ap₂, ◌∙◌, append_assoc}
use Rattle.std.proofs.Common.{append-nil, arith, ne_eqb}
use Rattle.std.proofs.lemmas.Bool.{eqb-true, eqb-false, eq-eqb, lt-ltb, ltb-true, ltb-false, and_from}
use Rattle.collective_plans.specs.declared.plan.Slot.{Slot}
use Rattle.collective_plans.specs.declared.plan.Slot.TheVariants.{Given, Got, Kept}
use Rattle.collective_plans.specs.declared.plan.Step.{Step}
use Rattle.collective_plans.specs.Slots.{Block, Memory, is_slot, with_block}
use Rattle.collective_plans.specs.Networks.{Folding}
use Rattle.collective_plans.specs.Meanings.{Inbox, IsTalk, Talk, ends_with, first_of, others_of, said_to, told}
use Rattle.collective_plans.specs.Meanings.{has_no_send, is_fed, is_filled, sends_first, without_first}
use Rattle.collective_plans.specs.Exchanges.{all_receives, all_sends, allgather, alltoall, exchange, falling, folds}
use Rattle.collective_plans.specs.Exchanges.{receivers, reduce_scatter_block, rising, senders}
use Rattle.collective_plans.specs.PlanLaws.{AllgatherGives, AlltoallGives, AlwaysGoesOn}
use Rattle.collective_plans.specs.PlanLaws.{EndsWith, ExchangesGoOn, ReduceScatterGives}
use Rattle.collective_plans.specs.PlanLaws.{among, folded}
use Rattle.collective_plans.specs.Ahead.{EndsAhead, InPlaceGives}
use Rattle.collective_plans.proofs.AheadProofs.{ahead_is_meant}
use Rattle.collective_plans.proofs.RunProofs.{no_one_waits_for_who_waits, no_sends_first, runs_are_meant}
use Rattle.collective_plans.proofs.PlanLoops.{receives_append}

-- WHAT IS SENT

-- a block for each time that a rank stands in a list
abbrev pub copies : (d : ℕ) → Block → List ℕ → List Block
copies d b [] = []
copies d b (x ∷ xs) = if d == x then b ∷ copies d b xs else copies d b xs

copies_append : (d : ℕ) (b : Block) (xs ys : List ℕ) → copies d b (xs ++ ys) ≡ copies d b xs ++ copies d b ys
copies_append d b [] ys = refl
copies_append d b (x ∷ xs) ys = go (d == x) (copies_append d b xs ys)
  where
    go : (t : Bool) → copies d b (xs ++ ys) ≡ copies d b xs ++ copies d b ys →
        (if t then b ∷ copies d b (xs ++ ys) else copies d b (xs ++ ys)) ≡
        (if t then b ∷ copies d b xs else copies d b xs) ++ copies d b ys
    go true ih = ap (λ (bs : List Block). b ∷ bs) ih
    go false ih = ih

-- a rank that is none of these
abbrev pub Outside : (d from count : ℕ) → Type 0
Outside d from count = (d < from) ⊎ (from + count ≤ d)

copies_none : (d : ℕ) (b : Block) (from count : ℕ) → Outside d from count → copies d b (rising from count) ≡ []
copies_none d b from zero o = refl
copies_none d b from (suc k) o =
    ap (λ (t : Bool). if t then b ∷ copies d b (rising (suc from) k) else copies d b (rising (suc from) k))
    (ne_eqb d from (differs o)) ∙ copies_none d b (suc from) k (still o)
  where
    differs : (d < from) ⊎ (from + suc k ≤ d) → d ≡ from → ⊥
    differs (inl lt) e = omega (arith, lt, e)
    differs (inr le) e = omega (arith, le, e)

    still : (d < from) ⊎ (from + suc k ≤ d) → (d < suc from) ⊎ (suc from + k ≤ d)
    still (inl lt) = inl (omega (arith, lt))
    still (inr le) = inr (omega (arith, le))

copies_one : (d : ℕ) (b : Block) (from count : ℕ) → from ≤ d → d < from + count →
    copies d b (rising from count) ≡ b ∷ []
copies_one d b from zero le lt = absurd (omega (arith, le, lt))
copies_one d b from (suc k) le lt = go (d == from) refl (λ (h : suc from ≤ d). copies_one d b (suc from) k h (omega
    (arith, lt)))
  where
    above : (d == from) ≡ false → suc from ≤ d
    above e = side (nat_lt from d) refl
      where
        side : (t : Bool) → nat_lt from d ≡ t → suc from ≤ d
        side true u = let l : from < d = ltb-true from d u in omega (arith, l)
        side false u = let g : d ≤ from = ltb-false from d u in absurd (eqb-false d from e (omega (arith, le, g)))

    go : (t : Bool) → (d == from) ≡ t → (suc from ≤ d → copies d b (rising (suc from) k) ≡ b ∷ []) →
        (if t then b ∷ copies d b (rising (suc from) k) else copies d b (rising (suc from) k)) ≡ b ∷ []
    go true e ih = let is : d ≡ from = eqb-true d from e in
        ap (λ (bs : List Block). b ∷ bs) (copies_none d b (suc from) k (inl (omega (arith, is))))
    go false e ih = ih (above e)

-- each other member is sent one block
pub copies_of : (n s d : ℕ) (b : Block) → s < n →
    copies d b (receivers n s) ≡ (if nat_lt d n && not (d == s) then b ∷ [] else [])
copies_of n s d b lt = copies_append d b (rising (suc s) (n - suc s)) (rising 0 s) ∙ go (nat_lt d n) refl (d == s) refl
  where
    both : List Block
    both = copies d b (rising (suc s) (n - suc s)) ++ copies d b (rising 0 s)

    go : (x : Bool) → nat_lt d n ≡ x → (y : Bool) → (d == s) ≡ y →
        copies d b (rising (suc s) (n - suc s)) ++ copies d b (rising 0 s) ≡
        (if x && not y then b ∷ [] else [])
    go false e y u = let far : n ≤ d = ltb-false d n e in
        ap₂ (λ (xs ys : List Block). xs ++ ys)
        (copies_none d b (suc s) (n - suc s) (inr (omega (arith, far, lt))))
        (copies_none d b 0 s (inr (omega (arith, far, lt))))
    go true e true u = let is : d ≡ s = eqb-true d s u in
        ap₂ (λ (xs ys : List Block). xs ++ ys)
        (copies_none d b (suc s) (n - suc s) (inl (omega (arith, is))))
        (copies_none d b 0 s (inr (omega (arith, is))))
    go true e false u = side (nat_lt d s) refl
      where
        near : d < n
        near = ltb-true d n e

        side : (t : Bool) → nat_lt d s ≡ t →
            copies d b (rising (suc s) (n - suc s)) ++ copies d b (rising 0 s) ≡ b ∷ []
        side true v = let l : d < s = ltb-true d s v in
            ap₂ (λ (xs ys : List Block). xs ++ ys)
            (copies_none d b (suc s) (n - suc s) (inl (omega (arith, l))))
            (copies_one d b 0 s (omega arith) (omega (arith, l)))
        side false v =
            ap₂ (λ (xs ys : List Block). xs ++ ys)
            (copies_one d b (suc s) (n - suc s) (above v) (omega (arith, near, lt)))
            (copies_none d b 0 s (inr (omega (arith, ltb-false d s v))))
          where
            above : nat_lt d s ≡ false → suc s ≤ d
            above v = go3 (nat_lt s d) refl
              where
                go3 : (t : Bool) → nat_lt s d ≡ t → suc s ≤ d
                go3 true w = let l : s < d = ltb-true s d w in omega (arith, l)
                go3 false w =
                    let a : d ≤ s = ltb-false s d w in
                    let c : s ≤ d = ltb-false d s v in
                    absurd (eqb-false d s u (omega (arith, a, c)))

-- what a member says by its sends
pub said_sends : (f : Folding) (d : ℕ) (q : Inbox) (m : Memory) (source : ℕ → Slot) (ds : List ℕ) (rest : List Step) →
    said_to f d q m (all_sends source ds ++ rest) ≡ copies d (m (source d)) ds ++ said_to f d q m rest
said_sends f d q m source [] rest = refl
said_sends f d q m source (x ∷ ds) rest = go (d == x) refl (said_sends f d q m source ds rest)
  where
    more : List Block
    more = said_to f d q m (all_sends source ds ++ rest)

    go : (t : Bool) → (d == x) ≡ t →
        said_to f d q m (all_sends source ds ++ rest) ≡ copies d (m (source d)) ds ++ said_to f d q m rest →
        (if t then m (source x) ∷ said_to f d q m (all_sends source ds ++ rest)
        else said_to f d q m (all_sends source ds ++ rest)) ≡
        (if t then m (source d) ∷ copies d (m (source d)) ds else copies d (m (source d)) ds) ++
        said_to f d q m rest
    go true e ih = ap₂ (λ (b : Block) (bs : List Block). b ∷ bs) (ap (λ (y : ℕ). m (source y)) (sym
        (eqb-true d x e))) ih
    go false e ih = ih

-- by receives nothing is said
pub said_receives : (f : Folding) (d : ℕ) (target : ℕ → Slot) (ss : List ℕ) (more : List Step) →
    ((q : Inbox) (m : Memory) → said_to f d q m more ≡ []) → (q : Inbox) (m : Memory) →
    said_to f d q m (all_receives target ss ++ more) ≡ []
said_receives f d target [] more silent q m = silent q m
said_receives f d target (s ∷ ss) more silent q m =
    said_receives f d target ss more silent (without_first q s) (with_block m (target s) (first_of (q s)))

-- what a member has once it has folded
abbrev pub after_folds : Folding → (done count : ℕ) → Memory → Memory
after_folds f done zero m = with_block m (Got 0) (m (Kept done))
after_folds f done (suc c) m =
    after_folds f (suc done) c (with_block m (Kept (suc done)) (f (m (Kept done)) (m (Kept (suc done)))))

-- by folds nothing is said either
pub said_folds : (f : Folding) (d done count : ℕ) (q : Inbox) (m : Memory) (more : List Step) →
    said_to f d q m (folds done count ++ more) ≡ said_to f d q (after_folds f done count m) more
said_folds f d done zero q m more = refl
said_folds f d done (suc c) q m more =
    said_folds f d (suc done) c q (with_block m (Kept (suc done)) (f (m (Kept done)) (m (Kept (suc done))))) more

pub ends_folds : (f : Folding) (done count : ℕ) (q : Inbox) (m : Memory) (more : List Step) →
    ends_with f q m (folds done count ++ more) ≡ ends_with f q (after_folds f done count m) more
ends_folds f done zero q m more = refl
ends_folds f done (suc c) q m more =
    ends_folds f (suc done) c q (with_block m (Kept (suc done)) (f (m (Kept done)) (m (Kept (suc done))))) more

-- WHAT IS TAKEN

abbrev pub inbox_after : Inbox → List ℕ → Inbox
inbox_after q [] = q
inbox_after q (s ∷ ss) = inbox_after (without_first q s) ss

abbrev pub memory_after : (target : ℕ → Slot) → Inbox → Memory → List ℕ → Memory
memory_after t q m [] = m
memory_after t q m (s ∷ ss) = memory_after t (without_first q s) (with_block m (t s) (first_of (q s))) ss

pub ends_sends : (f : Folding) (q : Inbox) (m : Memory) (source : ℕ → Slot) (ds : List ℕ) (rest : List Step) →
    ends_with f q m (all_sends source ds ++ rest) ≡ ends_with f q m rest
ends_sends f q m source [] rest = refl
ends_sends f q m source (x ∷ ds) rest = ends_sends f q m source ds rest

pub ends_receives : (f : Folding) (target : ℕ → Slot) (ss : List ℕ) (more : List Step) (q : Inbox) (m : Memory) →
    ends_with f q m (all_receives target ss ++ more) ≡
    ends_with f (inbox_after q ss) (memory_after target q m ss) more
ends_receives f t [] more q m = refl
ends_receives f t (s ∷ ss) more q m =
    ends_receives f t ss more (without_first q s) (with_block m (t s) (first_of (q s)))

pub memory_append : (t : ℕ → Slot) (xs ys : List ℕ) (q : Inbox) (m : Memory) →
    memory_after t q m (xs ++ ys) ≡ memory_after t (inbox_after q xs) (memory_after t q m xs) ys
memory_append t [] ys q m = refl
memory_append t (x ∷ xs) ys q m = memory_append t xs ys (without_first q x) (with_block m (t x) (first_of (q x)))

-- slots of one kind, by their places
abbrev pub AreOneKind : (ℕ → Slot) → Type 0
AreOneKind t = (i j : ℕ) → is_slot (t i) (t j) ≡ (i == j)

-- a slot that none of these is for is as before
pub memory_out : (t : ℕ → Slot) → AreOneKind t → (from count : ℕ) (q : Inbox) (m : Memory) (j : ℕ) →
    Outside j from count → memory_after t q m (falling from count) (t j) ≡ m (t j)
memory_out t kind from zero q m j o = refl
memory_out t kind from (suc k) q m j o =
    memory_out t kind from k (without_first q (from + k)) (with_block m (t (from + k)) (first_of (q (from + k)))) j
    (still o)
    ∙ ap (λ (b : Bool). if b then first_of (q (from + k)) else m (t j)) (kind j (from + k) ∙ ne_eqb j (from + k)
    (differs o))
  where
    differs : (j < from) ⊎ (from + suc k ≤ j) → j ≡ from + k → ⊥
    differs (inl lt) e = omega (arith, lt, e)
    differs (inr le) e = omega (arith, le, e)

    still : (j < from) ⊎ (from + suc k ≤ j) → (j < from) ⊎ (from + k ≤ j)
    still (inl lt) = inl lt
    still (inr le) = inr (omega (arith, le))

pub inbox_out : (from count : ℕ) (q : Inbox) (j : ℕ) → Outside j from count → inbox_after q (falling from count) j ≡ q j
inbox_out from zero q j o = refl
inbox_out from (suc k) q j o =
    inbox_out from k (without_first q (from + k)) j (still o)
    ∙ ap (λ (b : Bool). if b then others_of (q (from + k)) else q j) (ne_eqb j (from + k) (differs o))
  where
    differs : (j < from) ⊎ (from + suc k ≤ j) → j ≡ from + k → ⊥
    differs (inl lt) e = omega (arith, lt, e)
    differs (inr le) e = omega (arith, le, e)

    still : (j < from) ⊎ (from + suc k ≤ j) → (j < from) ⊎ (from + k ≤ j)
    still (inl lt) = inl lt
    still (inr le) = inr (omega (arith, le))

-- a slot that one of these is for has what its sender said first
pub memory_in : (t : ℕ → Slot) → AreOneKind t → (from count : ℕ) (q : Inbox) (m : Memory) (j : ℕ) → from ≤ j →
    j < from + count → memory_after t q m (falling from count) (t j) ≡ first_of (q j)
memory_in t kind from zero q m j le lt = absurd (omega (arith, le, lt))
memory_in t kind from (suc k) q m j le lt =
    go (j == from + k) refl
    (memory_in t kind from k (without_first q (from + k)) (with_block m (t (from + k)) (first_of (q (from + k)))) j le)
  where
    less : (j == from + k) ≡ false → j < from + k
    less e = side (nat_lt j (from + k)) refl
      where
        side : (b : Bool) → nat_lt j (from + k) ≡ b → j < from + k
        side true u = ltb-true j (from + k) u
        side false u = let g : from + k ≤ j = ltb-false j (from + k) u in
            absurd (eqb-false j (from + k) e (omega (arith, lt, g)))

    go : (b : Bool) → (j == from + k) ≡ b →
        (j < from + k → memory_after t (without_first q (from + k))
        (with_block m (t (from + k)) (first_of (q (from + k)))) (falling from k) (t j) ≡
        first_of (without_first q (from + k) j)) →
        memory_after t (without_first q (from + k)) (with_block m (t (from + k)) (first_of (q (from + k))))
        (falling from k) (t j) ≡ first_of (q j)
    go true e ih = let is : j ≡ from + k = eqb-true j (from + k) e in
        memory_out t kind from k (without_first q (from + k))
        (with_block m (t (from + k)) (first_of (q (from + k)))) j (inr (omega (arith, is)))
        ∙ ap (λ (b : Bool). if b then first_of (q (from + k)) else m (t j)) (kind j (from + k) ∙ e)
        ∙ ap (λ (x : ℕ). first_of (q x)) (sym is)
    go false e ih =
        ih (less e) ∙ ap (λ (b : Bool). first_of (if b then others_of (q (from + k)) else q j)) e

-- EXCHANGES

-- what is said in an exchange
abbrev exchanged : (n : ℕ) → (source : ℕ → ℕ → Slot) → (given : ℕ → Memory) → Talk
exchanged n source given s d = if nat_lt s n && (nat_lt d n && not (d == s)) then given s (source s d) ∷ [] else []

-- the own block stays where it stood, or where no block stands that is sent
abbrev KeepsSent : (source : ℕ → ℕ → Slot) (target : ℕ → Slot) → (given : ℕ → Memory) → Type 0
KeepsSent source target given =
    (s d : ℕ) → with_block (given s) (target s) (given s (source s s)) (source s d) ≡ given s (source s d)

abbrev IsSilent : Folding → List Step → Type 0
IsSilent f more = (d : ℕ) (q : Inbox) (m : Memory) → said_to f d q m more ≡ []

exchange_is_talk : (f : Folding) (n : ℕ) (source : ℕ → ℕ → Slot) (target : ℕ → Slot) (more : ℕ →
    List Step) (given : ℕ → Memory) →
    KeepsSent source target given → ((r : ℕ) → IsSilent f (more r)) →
    IsTalk f (among n (λ r. exchange n r (source r) target (more r))) given (exchanged n source given)
exchange_is_talk f n source target more given apart silent s d = go (nat_lt s n) refl
  where
    there : s < n → said_to f d (told (exchanged n source given) s) (given s) (exchange n s (source s) target
        (more s)) ≡
        (if nat_lt d n && not (d == s) then given s (source s d) ∷ [] else [])
    there lt =
        said_sends f d (told (exchanged n source given) s) (with_block (given s) (target s) (given s (source s s)))
        (source s)
        (receivers n s) (all_receives target (senders n s) ++ more s)
        ∙ ap₂ (λ (xs ys : List Block). xs ++ ys)
        (ap (λ (b : Block). copies d b (receivers n s))
        (apart s d)
        ∙ copies_of n s d (given s (source s d)) lt)
        (said_receives f d target (senders n s) (more s) (silent s d) (told (exchanged n source given) s)
        (with_block (given s) (target s) (given s (source s s))))
        ∙ append-nil (if nat_lt d n && not (d == s) then given s (source s d) ∷ [] else [])

    go : (b : Bool) → nat_lt s n ≡ b →
        said_to f d (told (exchanged n source given) s) (given s)
        (if b then exchange n s (source s) target (more s) else []) ≡
        (if b && (nat_lt d n && not (d == s)) then given s (source s d) ∷ [] else [])
    go false e = refl
    go true e = there (ltb-true s n e)

-- what another member says to one
says_one : (n : ℕ) (source : ℕ → ℕ → Slot) (given : ℕ → Memory) (r j : ℕ) → r < n → j < n → (r ≡ j → ⊥) →
    first_of (told (exchanged n source given) r j) ≡ given j (source j r)
says_one n source given r j lr lj ne =
    ap (λ (b : Bool). first_of (if b && (nat_lt r n && not (r == j)) then given j (source j r) ∷ [] else []))
    (lt-ltb j n lj)
    ∙ ap (λ (b : Bool). first_of (if b && not (r == j) then given j (source j r) ∷ [] else [])) (lt-ltb r n lr)
    ∙ ap (λ (b : Bool). first_of (if not b then given j (source j r) ∷ [] else [])) (ne_eqb r j ne)

-- what a member has in its slots behind the exchange
abbrev behind : (n : ℕ) (source : ℕ → ℕ → Slot) (target : ℕ → Slot) (given : ℕ → Memory) (r : ℕ) → Memory
behind n source target given r =
    memory_after target (told (exchanged n source given) r) (with_block (given r) (target r) (given r (source r r)))
    (senders n r)

-- in each slot there is what its member handed in
behind_is : (n : ℕ) (source : ℕ → ℕ → Slot) (target : ℕ → Slot) (given : ℕ → Memory) → AreOneKind target → (r j : ℕ) →
    r < n → j < n →
    behind n source target given r (target j) ≡ given j (source j r)
behind_is n source target given kind r j lr lj =
    ap (λ (m : Memory). m (target j)) (memory_append target (falling 0 r) (falling (suc r) (n - suc r)) q m)
    ∙ go (nat_lt j r) refl (nat_lt r j) refl
  where
    q : Inbox
    q = told (exchanged n source given) r

    m : Memory
    m = with_block (given r) (target r) (given r (source r r))

    q1 : Inbox
    q1 = inbox_after q (falling 0 r)

    m1 : Memory
    m1 = memory_after target q m (falling 0 r)

    go : (x : Bool) → nat_lt j r ≡ x → (y : Bool) → nat_lt r j ≡ y →
        memory_after target q1 m1 (falling (suc r) (n - suc r)) (target j) ≡ given j (source j r)
    go true e y u = let l : j < r = ltb-true j r e in
        memory_out target kind (suc r) (n - suc r) q1 m1 j (inl (omega (arith, l)))
        ∙ memory_in target kind 0 r q m j (omega arith) (omega (arith, l))
        ∙ says_one n source given r j lr lj (λ (h : r ≡ j). omega (arith, h, l))
    go false e true u = let l : r < j = ltb-true r j u in
        memory_in target kind (suc r) (n - suc r) q1 m1 j (omega (arith, l)) (omega (arith, lj, lr))
        ∙ ap first_of (inbox_out 0 r q j (inr (omega (arith, l))))
        ∙ says_one n source given r j lr lj (λ (h : r ≡ j). omega (arith, h, l))
    go false e false u =
        let a : r ≤ j = ltb-false j r e in
        let c : j ≤ r = ltb-false r j u in
        let is : j ≡ r = omega (arith, a, c) in
        memory_out target kind (suc r) (n - suc r) q1 m1 j (inl (omega (arith, is)))
        ∙ memory_out target kind 0 r q m j (inr (omega (arith, is)))
        ∙ ap (λ (b : Bool). if b then given r (source r r) else given r (target j)) (kind j r ∙ eq-eqb j r is)
        ∙ ap (λ (x : ℕ). given x (source x r)) (sym is)

-- so the exchange and what comes behind it mean
exchange_means : (f : Folding) (n : ℕ) (source : ℕ → ℕ → Slot) (target : ℕ → Slot) (more : ℕ → List Step) (given : ℕ →
    Memory) (r : ℕ) →
    r < n → (slot : Slot) (block : Block) →
    ((q : Inbox) → ends_with f q (behind n source target given r) (more r) slot ≡ block) →
    ends_with f (told (exchanged n source given) r) (given r) (among n (λ r. exchange n r (source r) target
    (more r)) r) slot ≡
    block
exchange_means f n source target more given r lt slot block h =
    ap (λ (m : Memory). m slot)
    (ap (λ (b : Bool). ends_with f (told (exchanged n source given) r) (given r)
    (if b then exchange n r (source r) target (more r) else [])) (lt-ltb r n lt)
    ∙ ends_sends f (told (exchanged n source given) r) (with_block (given r) (target r) (given r (source r r)))
    (source r)
    (receivers n r) (all_receives target (senders n r) ++ more r)
    ∙ ends_receives f target (senders n r) (more r) (told (exchanged n source given) r)
    (with_block (given r) (target r) (given r (source r r))))
    ∙ h (inbox_after (told (exchanged n source given) r) (senders n r))

-- and a run of them, with receives ahead or without
abbrev pub BothGive : Folding → (n : ℕ) → (plan : ℕ → List Step) → (given : ℕ → Memory) → (r : ℕ) → Slot → Block →
    Type 0
BothGive f n plan given r slot block = EndsWith f n plan given r slot block × EndsAhead f n plan given r slot block

pub both_give : (f : Folding) (n : ℕ) (plan : ℕ → List Step) (given : ℕ → Memory) (talk : Talk) →
    IsTalk f (among n plan) given talk → (r : ℕ) (slot : Slot) (block : Block) →
    ends_with f (told talk r) (given r) (among n plan r) slot ≡ block → BothGive f n plan given r slot block
both_give f n plan given talk is r slot block means = (
  λ order ended. ap (λ (m : Memory). m slot) (runs_are_meant f (among n plan) given talk is order r ended) ∙ means,
  λ turns ended come. ap (λ (m : Memory). m slot) (ahead_is_meant f (among n plan) given talk is turns r ended come) ∙
      means,
)

exchange_gives : (f : Folding) (n : ℕ) (source : ℕ → ℕ → Slot) (target : ℕ → Slot) (more : ℕ → List Step) (given : ℕ →
    Memory) →
    KeepsSent source target given → ((r : ℕ) → IsSilent f (more r)) → (r : ℕ) → r < n → (slot : Slot) (block : Block) →
    ((q : Inbox) → ends_with f q (behind n source target given r) (more r) slot ≡ block) →
    BothGive f n (λ r. exchange n r (source r) target (more r)) given r slot block
exchange_gives f n source target more given apart silent r lt slot block h =
    both_give f n (λ r. exchange n r (source r) target (more r)) given (exchanged n source given)
    (exchange_is_talk f n source target more given apart silent) r slot block
    (exchange_means f n source target more given r lt slot block h)

pub got_is_one_kind : AreOneKind Got
got_is_one_kind i j = refl

pub kept_is_one_kind : AreOneKind Kept
kept_is_one_kind i j = refl

pub alltoall_both : (f : Folding) (n : ℕ) (given : ℕ → Memory) (r j : ℕ) → r < n → j < n →
    BothGive f n (alltoall n) given r (Got j) (given j (Given r))
alltoall_both f n given r j lr lj =
    exchange_gives f n (λ r. Given) Got (λ r. []) given (λ i j. refl) (λ r d q m. refl) r lr (Got j) (given j (Given r))
    (λ q. behind_is n (λ r. Given) Got given got_is_one_kind r j lr lj)

pub allgather_both : (f : Folding) (n : ℕ) (given : ℕ → Memory) (r j : ℕ) → r < n → j < n →
    BothGive f n (allgather n) given r (Got j) (given j (Given 0))
allgather_both f n given r j lr lj =
    exchange_gives f n (λ r d. Given 0) Got (λ r. []) given (λ i j. refl) (λ r d q m. refl) r lr (Got j) (given j
    (Given 0))
    (λ q. behind_is n (λ r d. Given 0) Got given got_is_one_kind r j lr lj)

-- FOLDS

-- folds go on from what is folded so far
pub folds_give : (f : Folding) (b : ℕ → Block) (count done : ℕ) (m : Memory) → m (Kept done) ≡ folded f b done →
    ((j : ℕ) → done < j → j ≤ done + count → m (Kept j) ≡ b j) →
    after_folds f done count m (Got 0) ≡ folded f b (done + count)
folds_give f b zero done m h k = h ∙ ap (folded f b) (omega arith)
folds_give f b (suc c) done m h k =
    folds_give f b c (suc done) (with_block m (Kept (suc done)) (f (m (Kept done)) (m (Kept (suc done)))))
    (ap (λ (t : Bool). if t then f (m (Kept done)) (m (Kept (suc done))) else m (Kept (suc done)))
    (eq-eqb (suc done) (suc done) refl) ∙ ap₂ f h (k (suc done) (omega arith) (omega arith)))
    (λ j lt le. ap (λ (t : Bool). if t then f (m (Kept done)) (m (Kept (suc done))) else m (Kept j))
    (ne_eqb j (suc done) (λ (e : j ≡ suc done). omega (arith, e, lt))) ∙ k j (omega (arith, lt)) (omega (arith, le)))
    ∙ ap (folded f b) (omega arith)

ends_only_folds : (f : Folding) (b : ℕ → Block) (q : Inbox) (count : ℕ) (m : Memory) → m (Kept 0) ≡ b 0 →
    ((j : ℕ) → 0 < j → j ≤ count → m (Kept j) ≡ b j) → ends_with f q m (folds 0 count) (Got 0) ≡ folded f b count
ends_only_folds f b q count m h k =
    ap (λ (ss : List Step). ends_with f q m ss (Got 0)) (sym (append-nil (folds 0 count)))
    ∙ ap (λ (x : Memory). x (Got 0)) (ends_folds f 0 count q m [])
    ∙ folds_give f b count 0 m h (λ j gt le. k j gt (omega (arith, le)))
    ∙ ap (folded f b) (omega arith)

silent_folds : (f : Folding) (d count : ℕ) (q : Inbox) (m : Memory) → said_to f d q m (folds 0 count) ≡ []
silent_folds f d count q m =
    ap (λ (ss : List Step). said_to f d q m ss) (sym (append-nil (folds 0 count))) ∙ said_folds f d 0 count q m []

pub reduce_scatter_both : (f : Folding) (n : ℕ) (given : ℕ → Memory) (r : ℕ) → r < n →
    BothGive f n (reduce_scatter_block n) given r (Got 0) (folded f (λ s. given s (Given r)) (n - 1))
reduce_scatter_both f n given r lr =
    exchange_gives f n (λ r. Given) Kept (λ r. folds 0 (n - 1)) given (λ i j. refl)
    (λ r d q m. silent_folds f d (n - 1) q m) r lr (Got 0)
    (folded f (λ s. given s (Given r)) (n - 1))
    (λ q. ends_only_folds f (λ s. given s (Given r)) q (n - 1) (behind n (λ r. Given) Kept given r)
    (behind_is n (λ r. Given) Kept given kept_is_one_kind r 0 lr (omega (arith, lr)))
    (λ j gt le. behind_is n (λ r. Given) Kept given kept_is_one_kind r j lr (omega (arith, le, lr))))

-- NO ONE WAITS LONG

fed_sends : (f : Folding) (q : Inbox) (m : Memory) (source : ℕ → Slot) (ds : List ℕ) (rest : List Step) →
    is_fed f q m (all_sends source ds ++ rest) ≡ is_fed f q m rest
fed_sends f q m source [] rest = refl
fed_sends f q m source (x ∷ ds) rest = fed_sends f q m source ds rest

fed_receives : (f : Folding) (t : ℕ → Slot) (more : List Step) (from count : ℕ) (q : Inbox) (m : Memory) →
    ((j : ℕ) → from ≤ j → j < from + count → is_filled (q j) ≡ true) →
    ((q' : Inbox) (m' : Memory) → ((j : ℕ) → Outside j from count → q' j ≡ q j) → is_fed f q' m' more ≡ true) →
    is_fed f q m (all_receives t (falling from count) ++ more) ≡ true
fed_receives f t more from zero q m h k = k q m (λ j o. refl)
fed_receives f t more from (suc c) q m h k =
    and_from (is_filled (q (from + c))) (is_fed f (without_first q (from + c))
    (with_block m (t (from + c)) (first_of (q (from + c)))) (all_receives t (falling from c) ++ more))
    (h (from + c) (omega arith) (omega arith))
    (fed_receives f t more from c (without_first q (from + c)) (with_block m (t (from + c)) (first_of (q (from + c))))
    (λ j le lt. ap is_filled (kept j (λ (e : j ≡ from + c). omega (arith, e, lt))) ∙ h j le (omega (arith, lt)))
    (λ q' m' same. k q' m' (λ j o. same j (still j o) ∙ kept j (differs j o))))
  where
    kept : (j : ℕ) → (j ≡ from + c → ⊥) → without_first q (from + c) j ≡ q j
    kept j ne = ap (λ (b : Bool). if b then others_of (q (from + c)) else q j) (ne_eqb j (from + c) ne)

    differs : (j : ℕ) → (j < from) ⊎ (from + suc c ≤ j) → j ≡ from + c → ⊥
    differs j (inl lt) e = omega (arith, lt, e)
    differs j (inr le) e = omega (arith, le, e)

    still : (j : ℕ) → (j < from) ⊎ (from + suc c ≤ j) → (j < from) ⊎ (from + c ≤ j)
    still j (inl lt) = inl lt
    still j (inr le) = inr (omega (arith, le))

-- another member says something to one
says_some : (n : ℕ) (source : ℕ → ℕ → Slot) (given : ℕ → Memory) (r j : ℕ) → r < n → j < n → (r ≡ j → ⊥) →
    is_filled (told (exchanged n source given) r j) ≡ true
says_some n source given r j lr lj ne =
    ap (λ (b : Bool). is_filled (if b && (nat_lt r n && not (r == j)) then given j (source j r) ∷ [] else []))
    (lt-ltb j n lj)
    ∙ ap (λ (b : Bool). is_filled (if b && not (r == j) then given j (source j r) ∷ [] else [])) (lt-ltb r n lr)
    ∙ ap (λ (b : Bool). is_filled (if not b then given j (source j r) ∷ [] else [])) (ne_eqb r j ne)

exchange_is_fed : (f : Folding) (n : ℕ) (source : ℕ → ℕ → Slot) (target : ℕ → Slot) (more : ℕ →
    List Step) (given : ℕ → Memory) →
    ((r : ℕ) (q : Inbox) (m : Memory) → is_fed f q m (more r) ≡ true) → (r : ℕ) →
    is_fed f (told (exchanged n source given) r) (given r) (among n (λ r. exchange n r (source r) target
    (more r)) r) ≡ true
exchange_is_fed f n source target more given fed r = go (nat_lt r n) refl
  where
    both : r < n → is_fed f (told (exchanged n source given) r) (with_block (given r) (target r) (given r (source r r)))
        (all_receives target (falling 0 r) ++ (all_receives target (falling (suc r) (n - suc r)) ++ more r)) ≡ true
    both lt =
        fed_receives f target (all_receives target (falling (suc r) (n - suc r)) ++ more r) 0 r
        (told (exchanged n source given) r) (with_block (given r) (target r) (given r (source r r)))
        (λ j le l. says_some n source given r j lt (omega (arith, l, lt)) (λ (e : r ≡ j). omega (arith, e, l)))
        (λ q' m' same. fed_receives f target (more r) (suc r) (n - suc r) q' m'
        (λ j le l. ap is_filled (same j (inr (omega (arith, le)))) ∙
        says_some n source given r j lt (omega (arith, l, lt)) (λ (e : r ≡ j). omega (arith, e, le)))
        (λ q2 m2 o. fed r q2 m2))

    put : all_receives target (senders n r) ++ more r ≡
        all_receives target (falling 0 r) ++ (all_receives target (falling (suc r) (n - suc r)) ++ more r)
    put = ap (λ (xs : List Step). xs ++ more r) (receives_append target (falling 0 r) (falling (suc r) (n - suc r)))
        ∙ append_assoc (all_receives target (falling 0 r)) (all_receives target (falling (suc r) (n - suc r))) (more r)

    go : (b : Bool) → nat_lt r n ≡ b → is_fed f (told (exchanged n source given) r) (given r)
        (if b then exchange n r (source r) target (more r) else []) ≡ true
    go false e = refl
    go true e =
        fed_sends f (told (exchanged n source given) r) (with_block (given r) (target r) (given r (source r r)))
        (source r)
        (receivers n r) (all_receives target (senders n r) ++ more r)
        ∙ ap (λ (xs : List Step). is_fed f (told (exchanged n source given) r)
        (with_block (given r) (target r) (given r (source r r))) xs) put
        ∙ both (ltb-true r n e)

first_sends : (source : ℕ → Slot) (ds : List ℕ) (rest : List Step) →
    sends_first (all_sends source ds ++ rest) ≡ sends_first rest
first_sends source [] rest = refl
first_sends source (x ∷ ds) rest = first_sends source ds rest

no_sends : (target : ℕ → Slot) (ss : List ℕ) (more : List Step) → has_no_send more ≡ true →
    has_no_send (all_receives target ss ++ more) ≡ true
no_sends target [] more h = h
no_sends target (s ∷ ss) more h = no_sends target ss more h

exchange_sends_first : (n : ℕ) (source : ℕ → ℕ → Slot) (target : ℕ → Slot) (more : ℕ → List Step) →
    ((r : ℕ) → has_no_send (more r) ≡ true) → (r : ℕ) →
    sends_first (among n (λ r. exchange n r (source r) target (more r)) r) ≡ true
exchange_sends_first n source target more h r = go (nat_lt r n)
  where
    go : (b : Bool) → sends_first (if b then exchange n r (source r) target (more r) else []) ≡ true
    go false = refl
    go true = first_sends (source r) (receivers n r) (all_receives target (senders n r) ++ more r)
        ∙ no_sends_first (all_receives target (senders n r) ++ more r) (no_sends target (senders n r) (more r) (h r))

exchange_goes_on : (f : Folding) (n : ℕ) (source : ℕ → ℕ → Slot) (target : ℕ → Slot) (more : ℕ →
    List Step) (given : ℕ → Memory) →
    KeepsSent source target given → ((r : ℕ) → IsSilent f (more r)) →
    ((r : ℕ) (q : Inbox) (m : Memory) → is_fed f q m (more r) ≡ true) → ((r : ℕ) → has_no_send (more r) ≡ true) →
    AlwaysGoesOn f n (λ r. exchange n r (source r) target (more r)) given
exchange_goes_on f n source target more given apart silent fed none =
    no_one_waits_for_who_waits f (among n (λ r. exchange n r (source r) target (more r))) given
    (exchanged n source given)
    (exchange_is_talk f n source target more given apart silent) (exchange_is_fed f n source target more given fed)
    (exchange_sends_first n source target more none)

folds_fed : (f : Folding) (done count : ℕ) (q : Inbox) (m : Memory) → is_fed f q m (folds done count) ≡ true
folds_fed f done zero q m = refl
folds_fed f done (suc c) q m =
    folds_fed f (suc done) c q (with_block m (Kept (suc done)) (f (m (Kept done)) (m (Kept (suc done)))))

folds_send_nothing : (done count : ℕ) → has_no_send (folds done count) ≡ true
folds_send_nothing done zero = refl
folds_send_nothing done (suc c) = folds_send_nothing (suc done) c

pub exchanges_go_on : ExchangesGoOn
exchanges_go_on f n given = (
  exchange_goes_on f n (λ r. Given) Got (λ r. []) given (λ i j. refl) (λ r d q m. refl) (λ r q m. refl) (λ r. refl),
  exchange_goes_on f n (λ r d. Given 0) Got (λ r. []) given (λ i j. refl) (λ r d q m. refl) (λ r q m. refl) (λ r. refl),
  exchange_goes_on f n (λ r. Given) Kept (λ r. folds 0 (n - 1)) given (λ i j. refl)
      (λ r d q m. silent_folds f d (n - 1) q m) (λ r q m. folds_fed f 0 (n - 1) q m)
      (λ r. folds_send_nothing 0 (n - 1)),
)

-- IN PLACE

either : (b : Bool) (x : Block) → (if b then x else x) ≡ x
either true x = refl
either false x = refl

-- a block that is put where it stands
stays : (m : Memory) (s d : ℕ) → with_block m (Got s) (m (Got s)) (Got d) ≡ m (Got d)
stays m s d = go (d == s) refl
  where
    go : (b : Bool) → (d == s) ≡ b → (if b then m (Got s) else m (Got d)) ≡ m (Got d)
    go true e = ap (λ (x : ℕ). m (Got x)) (sym (eqb-true d s e))
    go false e = refl

pub in_place_gives : InPlaceGives
in_place_gives f n given r j lr lj = (
  (exchange_gives f n (λ r. Got) Got (λ r. []) given (λ s d. stays (given s) s d) (λ r d q m. refl) r lr (Got j)
      (given j (Got r)) (λ q. behind_is n (λ r. Got) Got given got_is_one_kind r j lr lj)).1,
  (exchange_gives f n (λ r d. Got r) Got (λ r. []) given (λ s d. either (s == s) (given s (Got s)))
      (λ r d q m. refl) r lr
      (Got j) (given j (Got j)) (λ q. behind_is n (λ r d. Got r) Got given got_is_one_kind r j lr lj)).1,
  (exchange_gives f n (λ r. Got) Kept (λ r. folds 0 (n - 1)) given (λ s d. refl)
      (λ r d q m. silent_folds f d (n - 1) q m) r lr (Got 0)
      (folded f (λ s. given s (Got r)) (n - 1))
      (λ q. ends_only_folds f (λ s. given s (Got r)) q (n - 1) (behind n (λ r. Got) Kept given r)
      (behind_is n (λ r. Got) Kept given kept_is_one_kind r 0 lr (omega (arith, lr)))
      (λ j gt le. behind_is n (λ r. Got) Kept given kept_is_one_kind r j lr (omega (arith, le, lr))))).1,
)

-- THE THEOREMS

pub alltoall_gives : AlltoallGives
alltoall_gives f n given r j lr lj = (alltoall_both f n given r j lr lj).0

pub allgather_gives : AllgatherGives
allgather_gives f n given r j lr lj = (allgather_both f n given r j lr lj).0

pub reduce_scatter_gives : ReduceScatterGives
reduce_scatter_gives f n given r lr = (reduce_scatter_both f n given r lr).0
