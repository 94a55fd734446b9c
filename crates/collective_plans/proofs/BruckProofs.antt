-- What allgather and alltoall in rounds give.
use Rattle.std.proofs.Common.{◌≡◌, ◌<◌, ◌≤◌, ◌⊎◌, inl, inr, ℕ, zero, suc, ◌+◌, ◌-◌, ◌*◌, ◌/◌, ◌%◌, Bool, true, false}
use Rattle.std.proofs.Common.{List, [], ◌∷◌, ◌++◌, if◌then◌else◌, ◌==◌, nat_lt, refl, sym, ap, ap₂, ◌∙◌, arith}
use Rattle.std.proofs.Common.{ne_eqb}
use Rattle.std.proofs.lemmas.Bool.{eqb-true, eqb-false, eq-eqb, lt-ltb, le-ltb, ltb-true, ltb-false}
use Rattle.std.proofs.lemmas.Nat.{div-add-mod', mod-mul-add, mod_below}
use Rattle.collective_plans.specs.declared.plan.Slot.{Slot}
use Rattle.collective_plans.specs.declared.plan.Slot.TheVariants.{Given, Got, Kept}
use Rattle.collective_plans.specs.Slots.{Block, Memory, is_slot, with_block}
use Rattle.collective_plans.specs.Networks.{Folding}
use Rattle.collective_plans.specs.Rounds.{Each, Pairs, Round, RoundAllgatherGives, RoundAlltoallGives, Shift}
use Rattle.collective_plans.specs.Rounds.{behind_round, behind_rounds, copied, doubling, exchanging_in_rounds}
use Rattle.collective_plans.specs.Rounds.{gathering_in_rounds, going, more_of, moved_on, on, passing}
use Rattle.collective_plans.specs.Rounds.{put_where, taken, turned}
use Rattle.collective_plans.proofs.PartProofs.{Beside, Inside}
use Rattle.collective_plans.proofs.RoundProofs.{AllGo, Goes, on_back, on_below, rounds_give}

-- MORE OF THE RING

pub on_on : (n r a b : ℕ) → r < n → a + b ≤ n → on n (on n r a) b ≡ on n r (a + b)
on_on n r a b lr le = go (nat_lt (r + a) n) refl (nat_lt (r + (a + b)) n) refl
  where
    go : (t : Bool) → nat_lt (r + a) n ≡ t → (u : Bool) → nat_lt (r + (a + b)) n ≡ u →
        on n (if t then r + a else r + a - n) b ≡ (if u then r + (a + b) else r + (a + b) - n)
    go true e true v =
        let k : r + (a + b) < n = ltb-true (r + (a + b)) n v in
        let z : r + a + b ≡ r + (a + b) = omega arith in
        ap (λ (c : Bool). if c then r + a + b else r + a + b - n) (lt-ltb (r + a + b) n (omega (arith, k))) ∙ z
    go true e false v =
        let k : n ≤ r + (a + b) = ltb-false (r + (a + b)) n v in
        let z : r + a + b - n ≡ r + (a + b) - n = omega arith in
        ap (λ (c : Bool). if c then r + a + b else r + a + b - n) (le-ltb (r + a + b) n (omega (arith, k))) ∙ z
    go false e true v =
        let k : r + (a + b) < n = ltb-true (r + (a + b)) n v in
        let l : n ≤ r + a = ltb-false (r + a) n e in absurd (omega (arith, k, l))
    go false e false v =
        let l : n ≤ r + a = ltb-false (r + a) n e in
        let z : r + a - n + b ≡ r + (a + b) - n = omega (arith, l) in
        ap (λ (c : Bool). if c then r + a - n + b else r + a - n + b - n)
        (lt-ltb (r + a - n + b) n (omega (arith, l, lr, le))) ∙ z

pub on_none : (n r : ℕ) → r < n → on n r 0 ≡ r
on_none n r lr =
    let z : r + 0 ≡ r = omega arith in
    ap (λ (c : Bool). if c then r + 0 else r + 0 - n) (lt-ltb (r + 0) n (omega (arith, lr))) ∙ z

pub on_all : (n r : ℕ) → on n r n ≡ r
on_all n r =
    let z : r + n - n ≡ r = omega arith in
    ap (λ (c : Bool). if c then r + n else r + n - n) (le-ltb (r + n) n (omega arith)) ∙ z

-- so far on from r as j is behind it stands j
pub on_there : (n r j : ℕ) → r < n → j < n → on n r (on n j (n - r)) ≡ j
on_there n r j lr lj = go (nat_lt (j + (n - r)) n) refl
  where
    go : (t : Bool) → nat_lt (j + (n - r)) n ≡ t → on n r (if t then j + (n - r) else j + (n - r) - n) ≡ j
    go true e =
        let k : j + (n - r) < n = ltb-true (j + (n - r)) n e in
        let z : r + (j + (n - r)) - n ≡ j = omega (arith, lr) in
        ap (λ (c : Bool). if c then r + (j + (n - r)) else r + (j + (n - r)) - n)
        (le-ltb (r + (j + (n - r))) n (omega (arith, lr))) ∙ z
    go false e =
        let k : n ≤ j + (n - r) = ltb-false (j + (n - r)) n e in
        let z : r + (j + (n - r) - n) ≡ j = omega (arith, k, lr) in
        ap (λ (c : Bool). if c then r + (j + (n - r) - n) else r + (j + (n - r) - n) - n)
        (lt-ltb (r + (j + (n - r) - n)) n (omega (arith, k, lr, lj))) ∙ z

-- so far back from r as r is behind j stands j
pub back_there : (n r j : ℕ) → r < n → j < n → on n r (n - on n r (n - j)) ≡ j
back_there n r j lr lj = go (nat_lt (r + (n - j)) n) refl
  where
    go : (t : Bool) → nat_lt (r + (n - j)) n ≡ t → on n r (n - (if t then r + (n - j) else r + (n - j) - n)) ≡ j
    go true e =
        let k : r + (n - j) < n = ltb-true (r + (n - j)) n e in
        let z : r + (n - (r + (n - j))) ≡ j = omega (arith, k, lj) in
        ap (λ (c : Bool). if c then r + (n - (r + (n - j))) else r + (n - (r + (n - j))) - n)
        (lt-ltb (r + (n - (r + (n - j)))) n (omega (arith, k, lj))) ∙ z
    go false e =
        let k : n ≤ r + (n - j) = ltb-false (r + (n - j)) n e in
        let z : r + (n - (r + (n - j) - n)) - n ≡ j = omega (arith, k, lr, lj) in
        ap (λ (c : Bool). if c then r + (n - (r + (n - j) - n)) else r + (n - (r + (n - j) - n)) - n)
        (le-ltb (r + (n - (r + (n - j) - n))) n (omega (arith, k, lr, lj))) ∙ z

on_apart : (n r a b : ℕ) → r < n → a < n → b < n → on n r a ≡ on n r b → a ≡ b
on_apart n r a b lr la lb h = go (nat_lt (r + a) n) refl (nat_lt (r + b) n) refl h
  where
    go : (t : Bool) → nat_lt (r + a) n ≡ t → (u : Bool) → nat_lt (r + b) n ≡ u →
        (if t then r + a else r + a - n) ≡ (if u then r + b else r + b - n) → a ≡ b
    go true e true v k = omega (arith, k)
    go true e false v k =
        let p : r + a < n = ltb-true (r + a) n e in
        let q : n ≤ r + b = ltb-false (r + b) n v in absurd (omega (arith, k, p, q, la, lb))
    go false e true v k =
        let p : n ≤ r + a = ltb-false (r + a) n e in
        let q : r + b < n = ltb-true (r + b) n v in absurd (omega (arith, k, p, q, la, lb))
    go false e false v k =
        let p : n ≤ r + a = ltb-false (r + a) n e in
        let q : n ≤ r + b = ltb-false (r + b) n v in omega (arith, k, p, q)

back_apart : (n r a b : ℕ) → r < n → a < n → b < n → on n r (n - a) ≡ on n r (n - b) → a ≡ b
back_apart n r a b lr la lb h = go (nat_lt (r + (n - a)) n) refl (nat_lt (r + (n - b)) n) refl h
  where
    go : (t : Bool) → nat_lt (r + (n - a)) n ≡ t → (u : Bool) → nat_lt (r + (n - b)) n ≡ u →
        (if t then r + (n - a) else r + (n - a) - n) ≡ (if u then r + (n - b) else r + (n - b) - n) → a ≡ b
    go true e true v k = omega (arith, k, la, lb)
    go true e false v k =
        let p : r + (n - a) < n = ltb-true (r + (n - a)) n e in
        let q : n ≤ r + (n - b) = ltb-false (r + (n - b)) n v in absurd (omega (arith, k, p, q, la, lb))
    go false e true v k =
        let p : n ≤ r + (n - a) = ltb-false (r + (n - a)) n e in
        let q : r + (n - b) < n = ltb-true (r + (n - b)) n v in absurd (omega (arith, k, p, q, la, lb))
    go false e false v k =
        let p : n ≤ r + (n - a) = ltb-false (r + (n - a)) n e in
        let q : n ≤ r + (n - b) = ltb-false (r + (n - b)) n v in omega (arith, k, p, q, la, lb)

-- ROUNDS ONE BEHIND THE OTHER

behind_append : (n : ℕ) (xs ys : List Round) (ms : ℕ → Memory) →
    behind_rounds n ms (xs ++ ys) ≡ behind_rounds n (behind_rounds n ms xs) ys
behind_append n [] ys ms = refl
behind_append n (x ∷ xs) ys ms = behind_append n xs ys (behind_round n ms x)

all_go_append : (n : ℕ) (xs ys : List Round) → AllGo n xs → AllGo n ys → AllGo n (xs ++ ys)
all_go_append n [] ys g h = h
all_go_append n (x ∷ xs) ys g h = (g.0, all_go_append n xs ys g.1 h)

-- BLOCKS THAT ARE PUT WHERE THEY BELONG

-- where no place of these has this target, nothing is put there
put_out : (g : ℕ → ℕ) (p c j : ℕ) (m : Memory) → ((i : ℕ) → Inside p c i → g i ≡ j → ⊥) →
    copied m (put_where g p c) (Got j) ≡ m (Got j)
put_out g p zero j m h = refl
put_out g p (suc k) j m h =
    put_out g (suc p) k j (with_block m (Got (g p)) (m (Kept p)))
    (λ i s e. h i (let u : suc p ≤ i = s.0 in let v : i < suc p + k = s.1 in (omega (arith, u), omega (arith, v))) e)
    ∙ ap (λ (t : Bool). if t then m (Kept p) else m (Got j))
    (ne_eqb j (g p) (λ (e : j ≡ g p). h p (omega arith, omega arith) (sym e)))

put_in : (g : ℕ → ℕ) (n p c i j : ℕ) (m : Memory) → p + c ≤ n → ((a b : ℕ) → a < n → b < n → g a ≡ g b → a ≡ b) →
    Inside p c i → g i ≡ j → copied m (put_where g p c) (Got j) ≡ m (Kept i)
put_in g n p zero i j m le apart s e =
    let u : p ≤ i = s.0 in let v : i < p + 0 = s.1 in absurd (omega (arith, u, v))
put_in g n p (suc k) i j m le apart s e =
    go (λ z. put_in g n (suc p) k i j (with_block m (Got (g p)) (m (Kept p))) (omega (arith, le)) apart z e) (i == p)
    refl
  where
    u : p ≤ i
    u = s.0

    v : i < p + suc k
    v = s.1

    go : (Inside (suc p) k i → copied (with_block m (Got (g p)) (m (Kept p))) (put_where g (suc p) k) (Got j) ≡
        m (Kept i)) → (t : Bool) → (i == p) ≡ t →
        copied (with_block m (Got (g p)) (m (Kept p))) (put_where g (suc p) k) (Got j) ≡ m (Kept i)
    go ih true w =
        let is : i ≡ p = eqb-true i p w in
        put_out g (suc p) k j (with_block m (Got (g p)) (m (Kept p)))
        (λ x z y. let a : suc p ≤ x = z.0 in let b : x < suc p + k = z.1 in
        let same : x ≡ i = apart x i (omega (arith, b, le)) (omega (arith, v, le)) (y ∙ sym e) in
        omega (arith, same, is, a))
        ∙ ap (λ (t : Bool). if t then m (Kept p) else m (Got j)) (eq-eqb j (g p) (sym e ∙ ap g is))
        ∙ ap (λ (x : ℕ). m (Kept x)) (sym is)
    go ih false w = ih (above (nat_lt p i) refl, omega (arith, v))
      where
        above : (t : Bool) → nat_lt p i ≡ t → suc p ≤ i
        above true a = let z : p < i = ltb-true p i a in omega (arith, z)
        above false a = let z : i ≤ p = ltb-false p i a in absurd (eqb-false i p w (omega (arith, u, z)))

-- ALLGATHER

moved_out : (from : Memory) (d i c x : ℕ) (m : Memory) → Beside (i + d) c x →
    taken from m (moved_on i c d) (Kept x) ≡ m (Kept x)
moved_out from d i zero x m o = refl
moved_out from d i (suc k) x m o =
    moved_out from d (suc i) k x (with_block m (Kept (i + d)) (from (Kept i))) (still o)
    ∙ ap (λ (t : Bool). if t then from (Kept i) else m (Kept x)) (ne_eqb x (i + d) (differs o))
  where
    still : (x < i + d) ⊎ (i + d + suc k ≤ x) → Beside (suc i + d) k x
    still (inl lt) = inl (omega (arith, lt))
    still (inr le) = inr (omega (arith, le))

    differs : (x < i + d) ⊎ (i + d + suc k ≤ x) → x ≡ i + d → ⊥
    differs (inl lt) e = omega (arith, lt, e)
    differs (inr le) e = omega (arith, le, e)

moved_in : (from : Memory) (d i c x : ℕ) (m : Memory) → Inside (i + d) c x →
    taken from m (moved_on i c d) (Kept x) ≡ from (Kept (x - d))
moved_in from d i zero x m s =
    let u : i + d ≤ x = s.0 in let v : x < i + d + 0 = s.1 in absurd (omega (arith, u, v))
moved_in from d i (suc k) x m s =
    go (λ z. moved_in from d (suc i) k x (with_block m (Kept (i + d)) (from (Kept i))) z) (x == i + d) refl
  where
    u : i + d ≤ x
    u = s.0

    v : x < i + d + suc k
    v = s.1

    go : (Inside (suc i + d) k x → taken from (with_block m (Kept (i + d)) (from (Kept i))) (moved_on (suc i) k d)
        (Kept x) ≡ from (Kept (x - d))) → (t : Bool) → (x == i + d) ≡ t →
        taken from (with_block m (Kept (i + d)) (from (Kept i))) (moved_on (suc i) k d) (Kept x) ≡ from (Kept (x - d))
    go ih true w =
        let is : x ≡ i + d = eqb-true x (i + d) w in
        moved_out from d (suc i) k x (with_block m (Kept (i + d)) (from (Kept i))) (inl (omega (arith, is)))
        ∙ ap (λ (t : Bool). if t then from (Kept i) else m (Kept x)) w
        ∙ (let back : i ≡ x - d = omega (arith, is) in ap (λ (y : ℕ). from (Kept y)) back)
    go ih false w = ih (above (nat_lt (i + d) x) refl, omega (arith, v))
      where
        above : (t : Bool) → nat_lt (i + d) x ≡ t → suc i + d ≤ x
        above true a = let z : i + d < x = ltb-true (i + d) x a in omega (arith, z)
        above false a = let z : x ≤ i + d = ltb-false (i + d) x a in
            absurd (eqb-false x (i + d) w (omega (arith, u, z)))

pub more_some : (n d : ℕ) → 0 < d → d < n → 0 < more_of n d
more_some n d some less = go (nat_lt d (n - d))
  where
    go : (t : Bool) → 0 < (if t then d else n - d)
    go true = some
    go false = omega (arith, less)

pub more_few : (n d : ℕ) → more_of n d ≤ d
more_few n d = go (nat_lt d (n - d)) refl
  where
    go : (t : Bool) → nat_lt d (n - d) ≡ t → (if t then d else n - d) ≤ d
    go true e = omega arith
    go false e = ltb-false d (n - d) e

pub more_most : (n d : ℕ) → d ≤ n → d + more_of n d ≤ n
more_most n d le = go (nat_lt d (n - d)) refl
  where
    go : (t : Bool) → nat_lt d (n - d) ≡ t → d + (if t then d else n - d) ≤ n
    go true e = let k : d < n - d = ltb-true d (n - d) e in omega (arith, k)
    go false e = omega (arith, le)

-- each member has the blocks of so many from itself on
abbrev HasOn : (n : ℕ) → (v : ℕ → Block) → (d : ℕ) → (ℕ → Memory) → Type 0
HasOn n v d ms = (r i : ℕ) → r < n → i < d → ms r (Kept i) ≡ v (on n r i)

doubled : (n : ℕ) (v : ℕ → Block) (d : ℕ) (ms : ℕ → Memory) → 0 < d → d < n → HasOn n v d ms →
    HasOn n v (d + more_of n d) (behind_round n ms (Shift (n - d) (moved_on 0 (more_of n d) d)))
doubled n v d ms some less h r i lr li = go (nat_lt i d) refl
  where
    from_is : on n r (n - (n - d)) ≡ on n r d
    from_is = let e : n - (n - d) ≡ d = omega (arith, less) in ap (λ (x : ℕ). on n r x) e

    few : more_of n d ≤ d
    few = more_few n d

    most : d + more_of n d ≤ n
    most = more_most n d (omega (arith, less))

    go : (t : Bool) → nat_lt i d ≡ t →
        taken (ms (on n r (n - (n - d)))) (ms r) (moved_on 0 (more_of n d) d) (Kept i) ≡ v (on n r i)
    go true e = let k : i < d = ltb-true i d e in
        moved_out (ms (on n r (n - (n - d)))) d 0 (more_of n d) i (ms r) (inl (omega (arith, k))) ∙ h r i lr k
    go false e =
        let k : d ≤ i = ltb-false i d e in
        let there : d + (i - d) ≡ i = omega (arith, k) in
        moved_in (ms (on n r (n - (n - d)))) d 0 (more_of n d) i (ms r) (omega (arith, k), omega (arith, li))
        ∙ ap (λ (x : ℕ). ms x (Kept (i - d))) from_is
        ∙ h (on n r d) (i - d) (on_below n r d lr (omega (arith, less))) (omega (arith, k, li, few))
        ∙ ap v (on_on n r d (i - d) lr (omega (arith, k, li, most)) ∙ ap (λ (x : ℕ). on n r x) there)

doubling_has : (k n : ℕ) (v : ℕ → Block) (d : ℕ) (ms : ℕ → Memory) → 0 < d → d ≤ n → n ≤ d + k → HasOn n v d ms →
    HasOn n v n (behind_rounds n ms (doubling k n d))
doubling_has zero n v d ms some le fuel h = λ r i lr li. h r i lr (omega (arith, li, fuel))
doubling_has (suc k) n v d ms some le fuel h = go
    (λ less. doubling_has k n v (d + more_of n d)
    (behind_round n ms (Shift (n - d) (moved_on 0 (more_of n d) d))) (omega (arith, some)) (more_most n d le)
    (let c : 0 < more_of n d = more_some n d some less in omega (arith, fuel, c)) (doubled n v d ms some less h))
    (nat_lt d n) refl
  where
    go : (d < n → HasOn n v n (behind_rounds n
        (behind_round n ms (Shift (n - d) (moved_on 0 (more_of n d) d))) (doubling k n (d + more_of n d)))) →
        (t : Bool) → nat_lt d n ≡ t →
        HasOn n v n (behind_rounds n ms (if t then
        Shift (n - d) (moved_on 0 (more_of n d) d) ∷ doubling k n (d + more_of n d) else []))
    go ih true e = ih (ltb-true d n e)
    go ih false e = λ r i lr li. let g : n ≤ d = ltb-false d n e in h r i lr (omega (arith, li, g))

doubling_goes : (k n d : ℕ) → 0 < d → AllGo n (doubling k n d)
doubling_goes zero n d some = omega arith
doubling_goes (suc k) n d some =
    go (doubling_goes k n (d + more_of n d) (omega (arith, some))) (nat_lt d n) refl
  where
    go : AllGo n (doubling k n (d + more_of n d)) → (t : Bool) → nat_lt d n ≡ t → AllGo n (if t then
        Shift (n - d) (moved_on 0 (more_of n d) d) ∷ doubling k n (d + more_of n d) else [])
    go ih true e = let l : d < n = ltb-true d n e in ((omega (arith, l), omega (arith, l, some)), ih)
    go ih false e = omega arith

gathering_gives : (f : Folding) (own : ℕ → Slot) (n : ℕ) (given : ℕ → Memory) (r j : ℕ) → r < n → j < n →
    behind_rounds n given (gathering_in_rounds own n) r (Got j) ≡ given j (own j)
gathering_gives f own n given r j lr lj =
    ap (λ (ms : ℕ → Memory). ms r (Got j)) (behind_append n (doubling n n 1) _ ms1)
    ∙ put_in (on n r) n 0 n (on n j (n - r)) j (ms2 r) (omega arith)
    (λ a b la lb e. on_apart n r a b lr la lb e)
    (omega arith, (let l : on n j (n - r) < n = on_below n j (n - r) lj (omega arith) in omega (arith, l)))
    (on_there n r j lr lj)
    ∙ has r (on n j (n - r)) lr (on_below n j (n - r) lj (omega arith))
    ∙ ap (λ (x : ℕ). given x (own x)) (on_there n r j lr lj)
  where
    ms1 : ℕ → Memory
    ms1 = behind_round n given (Each (λ r. (own r, Kept 0) ∷ []))

    ms2 : ℕ → Memory
    ms2 = behind_rounds n ms1 (doubling n n 1)

    has : HasOn n (λ x. given x (own x)) n ms2
    has = doubling_has n n (λ x. given x (own x)) 1 ms1 (omega arith) (omega (arith, lr)) (omega arith)
        (λ x i lx li. let none : i ≡ 0 = omega (arith, li) in
        ap (λ (y : ℕ). ms1 x (Kept y)) none
        ∙ ap (λ (y : ℕ). given y (own y)) (sym (on_none n x lx) ∙ ap (λ (y : ℕ). on n x y) (sym none)))

gathering_goes : (own : ℕ → Slot) (n : ℕ) → AllGo n (gathering_in_rounds own n)
gathering_goes own n =
    (omega arith, all_go_append n (doubling n n 1) _ (doubling_goes n n 1 (omega arith)) (omega arith, omega arith))

pub round_allgather_gives : RoundAllgatherGives
round_allgather_gives f n given r j lr lj = (
  rounds_give f n (gathering_in_rounds (λ x. Given 0) n) given r (Got j) (given j (Given 0))
      (gathering_goes (λ x. Given 0) n) lr (gathering_gives f (λ x. Given 0) n given r j lr lj),
  rounds_give f n (gathering_in_rounds Got n) given r (Got j) (given j (Got j))
      (gathering_goes Got n) lr (gathering_gives f Got n given r j lr lj),
)

-- ALLTOALL

going_out : (from : Memory) (d i c x : ℕ) (m : Memory) → (Inside i c x → x / d % 2 ≡ 1 → ⊥) →
    taken from m (going d i c) (Kept x) ≡ m (Kept x)
going_out from d i zero x m h = refl
going_out from d i (suc k) x m h =
    go (λ m z. going_out from d (suc i) k x m z) (i / d % 2 == 1) refl
  where
    rest : Inside (suc i) k x → x / d % 2 ≡ 1 → ⊥
    rest s e = let u : suc i ≤ x = s.0 in let v : x < suc i + k = s.1 in h (omega (arith, u), omega (arith, v)) e

    go : ((m : Memory) → (Inside (suc i) k x → x / d % 2 ≡ 1 → ⊥) →
        taken from m (going d (suc i) k) (Kept x) ≡ m (Kept x)) → (t : Bool) → (i / d % 2 == 1) ≡ t →
        taken from m (if t then (Kept i, Kept i) ∷ going d (suc i) k else going d (suc i) k) (Kept x) ≡ m (Kept x)
    go ih true e = ih (with_block m (Kept i) (from (Kept i))) rest
        ∙ ap (λ (t : Bool). if t then from (Kept i) else m (Kept x)) (ne_eqb x i (λ (is : x ≡ i).
        h (omega (arith, is), omega (arith, is)) (ap (λ (y : ℕ). y / d % 2) is ∙ eqb-true (i / d % 2) 1 e)))
    go ih false e = ih m rest

going_in : (from : Memory) (d i c x : ℕ) (m : Memory) → Inside i c x → x / d % 2 ≡ 1 →
    taken from m (going d i c) (Kept x) ≡ from (Kept x)
going_in from d i zero x m s b =
    let u : i ≤ x = s.0 in let v : x < i + 0 = s.1 in absurd (omega (arith, u, v))
going_in from d i (suc k) x m s b = go (λ m z. going_in from d (suc i) k x m z b) (i / d % 2 == 1) refl (x == i) refl
  where
    u : i ≤ x
    u = s.0

    v : x < i + suc k
    v = s.1

    above : (x == i) ≡ false → suc i ≤ x
    above w = side (nat_lt i x) refl
      where
        side : (t : Bool) → nat_lt i x ≡ t → suc i ≤ x
        side true a = let z : i < x = ltb-true i x a in omega (arith, z)
        side false a = let z : x ≤ i = ltb-false i x a in absurd (eqb-false x i w (omega (arith, u, z)))

    go : ((m : Memory) → Inside (suc i) k x → taken from m (going d (suc i) k) (Kept x) ≡ from (Kept x)) →
        (t : Bool) → (i / d % 2 == 1) ≡ t → (y : Bool) → (x == i) ≡ y →
        taken from m (if t then (Kept i, Kept i) ∷ going d (suc i) k else going d (suc i) k) (Kept x) ≡ from (Kept x)
    go ih true e true w =
        let is : x ≡ i = eqb-true x i w in
        going_out from d (suc i) k x (with_block m (Kept i) (from (Kept i)))
        (λ z a. let l : suc i ≤ x = z.0 in omega (arith, l, is))
        ∙ ap (λ (t : Bool). if t then from (Kept i) else m (Kept x)) w
        ∙ ap (λ (y : ℕ). from (Kept y)) (sym is)
    go ih true e false w = ih (with_block m (Kept i) (from (Kept i))) (above w, omega (arith, v))
    go ih false e true w =
        let is : x ≡ i = eqb-true x i w in
        absurd (eqb-false (i / d % 2) 1 e (ap (λ (y : ℕ). y / d % 2) (sym is) ∙ b))
    go ih false e false w = ih m (above w, omega (arith, v))

-- what stays of a number where it is cut off at the double
mod_twice : (i d : ℕ) → 0 < d → i / d % 2 ≡ 1 → i % (d + d) ≡ i % d + d
mod_twice i d some odd =
    ap (λ (x : ℕ). x % (d + d)) whole
    ∙ mod-mul-add (i / d / 2) (d + d) (i % d + d) (let l : i % d < d = mod_below i d some in omega (arith, l))
  where
    whole : i ≡ i / d / 2 * (d + d) + (i % d + d)
    whole =
        let e : i / d * d + i % d ≡ i = div-add-mod' i d in
        let q : i / d / 2 * 2 + i / d % 2 ≡ i / d = div-add-mod' (i / d) 2 in
        let p : i / d / 2 * 2 + 1 ≡ i / d = ap (λ (x : ℕ). i / d / 2 * 2 + x) (sym odd) ∙ q in
        let m : (i / d / 2 * 2 + 1) * d + i % d ≡ i = ap (λ (x : ℕ). x * d + i % d) p ∙ e in
        let z : (i / d / 2 * 2 + 1) * d + i % d ≡ i / d / 2 * (d + d) + (i % d + d) = omega arith in sym m ∙ z

mod_once : (i d : ℕ) → 0 < d → i / d % 2 ≡ 0 → i % (d + d) ≡ i % d
mod_once i d some even =
    ap (λ (x : ℕ). x % (d + d)) whole
    ∙ mod-mul-add (i / d / 2) (d + d) (i % d) (let l : i % d < d = mod_below i d some in omega (arith, l))
  where
    whole : i ≡ i / d / 2 * (d + d) + i % d
    whole =
        let e : i / d * d + i % d ≡ i = div-add-mod' i d in
        let q : i / d / 2 * 2 + i / d % 2 ≡ i / d = div-add-mod' (i / d) 2 in
        let p : i / d / 2 * 2 + 0 ≡ i / d = ap (λ (x : ℕ). i / d / 2 * 2 + x) (sym even) ∙ q in
        let m : (i / d / 2 * 2 + 0) * d + i % d ≡ i = ap (λ (x : ℕ). x * d + i % d) p ∙ e in
        let z : (i / d / 2 * 2 + 0) * d + i % d ≡ i / d / 2 * (d + d) + i % d = omega arith in sym m ∙ z

mod_small : (i d : ℕ) → i < d → i % d ≡ i
mod_small i d lt =
    let e : i ≡ 0 * d + i = omega arith in ap (λ (x : ℕ). x % d) e ∙ mod-mul-add 0 d i lt

mod_at_most : (i d : ℕ) → 0 < d → i / d % 2 ≡ 1 → i % d + d ≤ i
mod_at_most i d some odd =
    let e : i / d * d + i % d ≡ i = div-add-mod' i d in
    let q : i / d / 2 * 2 + i / d % 2 ≡ i / d = div-add-mod' (i / d) 2 in
    let p : i / d / 2 * 2 + 1 ≡ i / d = ap (λ (x : ℕ). i / d / 2 * 2 + x) (sym odd) ∙ q in
    let m : (i / d / 2 * 2 + 1) * d + i % d ≡ i = ap (λ (x : ℕ). x * d + i % d) p ∙ e in
    omega (arith, m)

-- back twice is back once
back_back : (n r x d : ℕ) → r < n → x + d ≤ n → on n (on n r (n - d)) (n - x) ≡ on n r (n - (x + d))
back_back n r x d lr le = go (nat_lt (r + (n - d)) n) refl (nat_lt (r + (n - (x + d))) n) refl
  where
    go : (t : Bool) → nat_lt (r + (n - d)) n ≡ t → (u : Bool) → nat_lt (r + (n - (x + d))) n ≡ u →
        on n (if t then r + (n - d) else r + (n - d) - n) (n - x) ≡
        (if u then r + (n - (x + d)) else r + (n - (x + d)) - n)
    go true e true v =
        let k : r + (n - d) < n = ltb-true (r + (n - d)) n e in
        let z : r + (n - d) + (n - x) - n ≡ r + (n - (x + d)) = omega (arith, le) in
        ap (λ (c : Bool). if c then r + (n - d) + (n - x) else r + (n - d) + (n - x) - n)
        (le-ltb (r + (n - d) + (n - x)) n (omega (arith, le))) ∙ z
    go true e false v =
        let k : r + (n - d) < n = ltb-true (r + (n - d)) n e in
        let l : n ≤ r + (n - (x + d)) = ltb-false (r + (n - (x + d))) n v in absurd (omega (arith, k, l, le))
    go false e true v =
        let k : n ≤ r + (n - d) = ltb-false (r + (n - d)) n e in
        let l : r + (n - (x + d)) < n = ltb-true (r + (n - (x + d))) n v in
        let z : r + (n - d) - n + (n - x) ≡ r + (n - (x + d)) = omega (arith, k, le) in
        ap (λ (c : Bool). if c then r + (n - d) - n + (n - x) else r + (n - d) - n + (n - x) - n)
        (lt-ltb (r + (n - d) - n + (n - x)) n (omega (arith, k, l, le))) ∙ z
    go false e false v =
        let k : n ≤ r + (n - d) = ltb-false (r + (n - d)) n e in
        let l : n ≤ r + (n - (x + d)) = ltb-false (r + (n - (x + d))) n v in
        let z : r + (n - d) - n + (n - x) - n ≡ r + (n - (x + d)) - n = omega (arith, k, l, le) in
        ap (λ (c : Bool). if c then r + (n - d) - n + (n - x) else r + (n - d) - n + (n - x) - n)
        (le-ltb (r + (n - d) - n + (n - x)) n (omega (arith, k, l, le))) ∙ z

-- Where all blocks stand on their ways: in place i is the block that has i ranks to go in all, and has gone those below
-- the distance
abbrev Stands : (n : ℕ) → (w : ℕ → ℕ → Block) → (d : ℕ) → (ℕ → Memory) → Type 0
Stands n w d ms =
    (r i : ℕ) → r < n → i < n → ms r (Kept i) ≡ w (on n r (n - i % d)) (on n (on n r (n - i % d)) i)

passed : (n : ℕ) (w : ℕ → ℕ → Block) (d : ℕ) (ms : ℕ → Memory) → 0 < d → d < n → Stands n w d ms →
    Stands n w (d + d) (behind_round n ms (Shift d (going d 0 n)))
passed n w d ms some less h r i lr li = go (i / d % 2 == 1) refl
  where
    here : ℕ → Block
    here s = w s (on n s i)

    go : (t : Bool) → (i / d % 2 == 1) ≡ t →
        taken (ms (on n r (n - d))) (ms r) (going d 0 n) (Kept i) ≡
        w (on n r (n - i % (d + d))) (on n (on n r (n - i % (d + d))) i)
    go true e =
        let odd : i / d % 2 ≡ 1 = eqb-true (i / d % 2) 1 e in
        let most : i % d + d ≤ i = mod_at_most i d some odd in
        going_in (ms (on n r (n - d))) d 0 n i (ms r) (omega arith, omega (arith, li)) odd
        ∙ h (on n r (n - d)) i (on_below n r (n - d) lr (omega arith)) li
        ∙ ap (λ (s : ℕ). w s (on n s i)) (back_back n r (i % d) d lr (omega (arith, most, li))
        ∙ ap (λ (x : ℕ). on n r (n - x)) (sym (mod_twice i d some odd)))
    go false e =
        let below : i / d % 2 < 2 = mod_below (i / d) 2 (omega arith) in
        going_out (ms (on n r (n - d))) d 0 n i (ms r) (λ s odd. eqb-false (i / d % 2) 1 e odd)
        ∙ h r i lr li
        ∙ ap (λ (x : ℕ). w (on n r (n - x)) (on n (on n r (n - x)) i)) (sym (mod_once i d some (even below)))
      where
        even : i / d % 2 < 2 → i / d % 2 ≡ 0
        even l = side (nat_lt 0 (i / d % 2)) refl
          where
            side : (t : Bool) → nat_lt 0 (i / d % 2) ≡ t → i / d % 2 ≡ 0
            side true u =
                let k : 0 < i / d % 2 = ltb-true 0 (i / d % 2) u in
                absurd (eqb-false (i / d % 2) 1 e (omega (arith, k, l)))
            side false u = let k : i / d % 2 ≤ 0 = ltb-false 0 (i / d % 2) u in omega (arith, k)

arrived : (n : ℕ) (w : ℕ → ℕ → Block) (d : ℕ) (ms : ℕ → Memory) → n ≤ d → Stands n w d ms → (r i : ℕ) → r < n →
    i < n → ms r (Kept i) ≡ w (on n r (n - i)) r
arrived n w d ms le h r i lr li =
    h r i lr li
    ∙ ap (λ (x : ℕ). w (on n r (n - x)) (on n (on n r (n - x)) i)) (mod_small i d (omega (arith, li, le)))
    ∙ ap (λ (x : ℕ). w (on n r (n - i)) x) (on_back n r i lr li)

passing_has : (k n : ℕ) (w : ℕ → ℕ → Block) (d : ℕ) (ms : ℕ → Memory) → 0 < d → n ≤ d + k → Stands n w d ms →
    (r i : ℕ) → r < n → i < n → behind_rounds n ms (passing k n d) r (Kept i) ≡ w (on n r (n - i)) r
passing_has zero n w d ms some fuel h r i lr li = arrived n w d ms (omega (arith, fuel)) h r i lr li
passing_has (suc k) n w d ms some fuel h r i lr li = go
    (λ less. passing_has k n w (d + d) (behind_round n ms (Shift d (going d 0 n))) (omega (arith, some))
    (omega (arith, fuel, some)) (passed n w d ms some less h) r i lr li) (nat_lt d n) refl
  where
    go : (d < n → behind_rounds n (behind_round n ms (Shift d (going d 0 n))) (passing k n (d + d)) r (Kept i) ≡
        w (on n r (n - i)) r) → (t : Bool) → nat_lt d n ≡ t →
        behind_rounds n ms (if t then Shift d (going d 0 n) ∷ passing k n (d + d) else []) r (Kept i) ≡
        w (on n r (n - i)) r
    go ih true e = ih (ltb-true d n e)
    go ih false e = arrived n w d ms (ltb-false d n e) h r i lr li

passing_goes : (k n d : ℕ) → 0 < d → AllGo n (passing k n d)
passing_goes zero n d some = omega arith
passing_goes (suc k) n d some = go (passing_goes k n (d + d) (omega (arith, some))) (nat_lt d n) refl
  where
    go : AllGo n (passing k n (d + d)) → (t : Bool) → nat_lt d n ≡ t →
        AllGo n (if t then Shift d (going d 0 n) ∷ passing k n (d + d) else [])
    go ih true e = ((some, ltb-true d n e), ih)
    go ih false e = omega arith

-- what one hands in is no room
abbrev IsNoRoom : (ℕ → ℕ → Slot) → Type 0
IsNoRoom own = (r d j : ℕ) → is_slot (own r d) (Kept j) ≡ false

turned_out : (own : ℕ → ℕ → Slot) (n r p c x : ℕ) (m : Memory) → Beside p c x →
    copied m (turned own n r p c) (Kept x) ≡ m (Kept x)
turned_out own n r p zero x m o = refl
turned_out own n r p (suc k) x m o =
    turned_out own n r (suc p) k x (with_block m (Kept p) (m (own r (on n r p)))) (still o)
    ∙ ap (λ (t : Bool). if t then m (own r (on n r p)) else m (Kept x)) (ne_eqb x p (differs o))
  where
    still : (x < p) ⊎ (p + suc k ≤ x) → Beside (suc p) k x
    still (inl lt) = inl (omega (arith, lt))
    still (inr le) = inr (omega (arith, le))

    differs : (x < p) ⊎ (p + suc k ≤ x) → x ≡ p → ⊥
    differs (inl lt) e = omega (arith, lt, e)
    differs (inr le) e = omega (arith, le, e)

turned_in : (own : ℕ → ℕ → Slot) (n r p c x : ℕ) (m : Memory) → IsNoRoom own → Inside p c x →
    copied m (turned own n r p c) (Kept x) ≡ m (own r (on n r x))
turned_in own n r p zero x m apart s =
    let u : p ≤ x = s.0 in let v : x < p + 0 = s.1 in absurd (omega (arith, u, v))
turned_in own n r p (suc k) x m apart s =
    go (λ z. turned_in own n r (suc p) k x (with_block m (Kept p) (m (own r (on n r p)))) apart z) (x == p) refl
  where
    u : p ≤ x
    u = s.0

    v : x < p + suc k
    v = s.1

    go : (Inside (suc p) k x → copied (with_block m (Kept p) (m (own r (on n r p)))) (turned own n r (suc p) k)
        (Kept x) ≡ with_block m (Kept p) (m (own r (on n r p))) (own r (on n r x))) → (t : Bool) → (x == p) ≡ t →
        copied (with_block m (Kept p) (m (own r (on n r p)))) (turned own n r (suc p) k) (Kept x) ≡
        m (own r (on n r x))
    go ih true w =
        let is : x ≡ p = eqb-true x p w in
        turned_out own n r (suc p) k x (with_block m (Kept p) (m (own r (on n r p)))) (inl (omega (arith, is)))
        ∙ ap (λ (t : Bool). if t then m (own r (on n r p)) else m (Kept x)) w
        ∙ ap (λ (y : ℕ). m (own r (on n r y))) (sym is)
    go ih false w = ih (above (nat_lt p x) refl, omega (arith, v))
        ∙ ap (λ (t : Bool). if t then m (own r (on n r p)) else m (own r (on n r x))) (apart r (on n r x) p)
      where
        above : (t : Bool) → nat_lt p x ≡ t → suc p ≤ x
        above true a = let z : p < x = ltb-true p x a in omega (arith, z)
        above false a = let z : x ≤ p = ltb-false p x a in absurd (eqb-false x p w (omega (arith, u, z)))

exchanging_gives : (f : Folding) (own : ℕ → ℕ → Slot) (n : ℕ) (given : ℕ → Memory) (r j : ℕ) → IsNoRoom own → r < n →
    j < n → behind_rounds n given (exchanging_in_rounds own n) r (Got j) ≡ given j (own j r)
exchanging_gives f own n given r j apart lr lj =
    ap (λ (ms : ℕ → Memory). ms r (Got j)) (behind_append n (passing n n 1) _ ms1)
    ∙ put_in (λ i. on n r (n - i)) n 0 n (on n r (n - j)) j (ms2 r) (omega arith)
    (λ a b la lb e. back_apart n r a b lr la lb e)
    (omega arith, (let l : on n r (n - j) < n = place_below in omega (arith, l)))
    (back_there n r j lr lj)
    ∙ passing_has n n (λ s d. given s (own s d)) 1 ms1 (omega arith) (omega arith) stands r (on n r (n - j)) lr
    place_below
    ∙ ap (λ (s : ℕ). given s (own s r)) (back_there n r j lr lj)
  where
    ms1 : ℕ → Memory
    ms1 = behind_round n given (Each (λ r. turned own n r 0 n))

    ms2 : ℕ → Memory
    ms2 = behind_rounds n ms1 (passing n n 1)

    place_below : on n r (n - j) < n
    place_below = on_below n r (n - j) lr (omega arith)

    stands : Stands n (λ s d. given s (own s d)) 1 ms1
    stands x i lx li =
        turned_in own n x 0 n i (given x) apart (omega arith, omega (arith, li))
        ∙ ap (λ (s : ℕ). given s (own s (on n s i))) (sym (on_all n x) ∙ ap (λ (y : ℕ). on n x y) none)
      where
        none : n ≡ n - i % 1
        none = let l : i % 1 < 1 = mod_below i 1 (omega arith) in omega (arith, l)

exchanging_goes : (own : ℕ → ℕ → Slot) (n : ℕ) → AllGo n (exchanging_in_rounds own n)
exchanging_goes own n =
    (omega arith, all_go_append n (passing n n 1) _ (passing_goes n n 1 (omega arith)) (omega arith, omega arith))

pub round_alltoall_gives : RoundAlltoallGives
round_alltoall_gives f n given r j lr lj = (
  rounds_give f n (exchanging_in_rounds (λ x. Given) n) given r (Got j) (given j (Given r))
      (exchanging_goes (λ x. Given) n) lr (exchanging_gives f (λ x. Given) n given r j (λ x d k. refl) lr lj),
  rounds_give f n (exchanging_in_rounds (λ y. Got) n) given r (Got j) (given j (Got r))
      (exchanging_goes (λ y. Got) n) lr (exchanging_gives f (λ y. Got) n given r j (λ x d k. refl) lr lj),
)
