-- What trees give.
use Rattle.std.proofs.Common.{◌≡◌, ◌<◌, ◌≤◌, ◌⊎◌, inl, inr, ℕ, zero, suc, ◌+◌, ◌-◌, ◌/◌, Bool, true, false, List, []}
use Rattle.std.proofs.Common.{◌∷◌, ◌++◌, if◌then◌else◌, ◌==◌, nat_lt, refl, sym, ap, ap₂, ◌∙◌, subst, arith, ne_eqb}
use Rattle.std.proofs.lemmas.Bool.{eqb-true, eqb-false, eq-eqb, lt-ltb, ltb-true, ltb-false}
use Rattle.collective_plans.specs.declared.plan.Slot.{Slot}
use Rattle.collective_plans.specs.declared.plan.Slot.TheVariants.{Given, Got, Kept}
use Rattle.collective_plans.specs.Slots.{Block, Memory, is_slot, with_block}
use Rattle.collective_plans.specs.Networks.{Folding}
use Rattle.collective_plans.specs.PlanLaws.{folded}
use Rattle.collective_plans.specs.Scripts.{Act, Copies, Folds, Hands, done, part, played, with_memory}
use Rattle.collective_plans.specs.Trees.{IsAssociative, TreeAllreduceGives, TreeBroadcastGives, TreeReduceGives}
use Rattle.collective_plans.specs.Trees.{allreducing, begins, broadcasting, collect, first_holder, joins, middle}
use Rattle.collective_plans.specs.Trees.{other_holder, own_slot, reducing, second_holder, spread}
use Rattle.collective_plans.proofs.PartProofs.{Beside, Inside, Within, differs, other_memory, own_memory, part_gives}
use Rattle.collective_plans.proofs.PartProofs.{played_append, played_beside, put_apart, put_there, within_append}
use Rattle.collective_plans.proofs.PartProofs.{within_wider}

-- HALVES

-- a range that is cut, and where
pub record Cut (l n h : ℕ) : Type 0 where
  pub some : 0 < n / 2
  pub less : n / 2 < n
  pub first : Inside l (n - n / 2) (first_holder (middle l n) l h)
  pub second : Inside (middle l n) (n / 2) (second_holder (middle l n) h)
  pub other : Inside l n (other_holder (middle l n) l h)
  pub apart : (h == other_holder (middle l n) l h) ≡ false

pub cut_of : (l n h : ℕ) → Inside l n h → nat_lt n 2 ≡ false → Cut l n h
cut_of l n h inside e =
    record {
      some = some;
      less = less;
      first = first (nat_lt h (middle l n)) refl;
      second = second (nat_lt h (middle l n)) refl;
      other = other (nat_lt h (middle l n)) refl;
      apart = apart (nat_lt h (middle l n)) refl;
    }
  where
    big : 2 ≤ n
    big = ltb-false n 2 e

    some : 0 < n / 2
    some = omega (arith, big)

    less : n / 2 < n
    less = omega (arith, big)

    low : l ≤ h
    low = inside.0

    high : h < l + n
    high = inside.1

    first : (t : Bool) → nat_lt h (middle l n) ≡ t → Inside l (n - n / 2) (if t then h else l)
    first true u = let k : h < l + (n - n / 2) = ltb-true h (middle l n) u in (low, k)
    first false u = (omega arith, omega (arith, less))

    second : (t : Bool) → nat_lt h (middle l n) ≡ t → Inside (middle l n) (n / 2) (if t then middle l n else h)
    second true u = (omega arith, omega (arith, some))
    second false u = let k : l + (n - n / 2) ≤ h = ltb-false h (middle l n) u in (k, omega (arith, less, high))

    other : (t : Bool) → nat_lt h (middle l n) ≡ t → Inside l n (if t then middle l n else l)
    other true u = (omega arith, omega (arith, some, less))
    other false u = (omega arith, omega (arith, big))

    apart : (t : Bool) → nat_lt h (middle l n) ≡ t → (h == (if t then middle l n else l)) ≡ false
    apart true u = let k : h < l + (n - n / 2) = ltb-true h (middle l n) u in
        ne_eqb h (middle l n) (λ (e : h ≡ middle l n). omega (arith, k, e))
    apart false u = let k : l + (n - n / 2) ≤ h = ltb-false h (middle l n) u in
        ne_eqb h l (λ (e : h ≡ l). omega (arith, k, e, less))

-- a member of a range is in one half of it, and beside the other one
pub in_first : (l n r : ℕ) → Inside l n r → nat_lt r (middle l n) ≡ true →
    Inside l (n - n / 2) r × Beside (middle l n) (n / 2) r
in_first l n r h e =
    let k : r < l + (n - n / 2) = ltb-true r (middle l n) e in
    let u : l ≤ r = h.0 in ((u, k), inl k)

pub in_second : (l n r : ℕ) → n / 2 < n → Inside l n r → nat_lt r (middle l n) ≡ false →
    Inside (middle l n) (n / 2) r × Beside l (n - n / 2) r
in_second l n r less h e =
    let k : l + (n - n / 2) ≤ r = ltb-false r (middle l n) e in
    let u : r < l + n = h.1 in ((k, omega (arith, u, less)), inr k)

first_wider : (l n : ℕ) (xs : List Act) → Within l (n - n / 2) xs → Within l n xs
first_wider l n xs h = within_wider l (n - n / 2) l n (omega arith) (omega arith) xs h

second_wider : (l n : ℕ) → n / 2 < n → (xs : List Act) → Within (middle l n) (n / 2) xs → Within l n xs
second_wider l n less xs h = within_wider (middle l n) (n / 2) l n (omega arith) (omega (arith, less)) xs h

-- SPREADING

pub spread_within : (k : ℕ) (b : Slot) (l n h : ℕ) → Inside l n h → Within l n (spread k b l n h)
spread_within zero b l n h i = omega arith
spread_within (suc k) b l n h i = go (λ l n h i. spread_within k b l n h i) (nat_lt n 2) refl
  where
    go : ((l n h : ℕ) → Inside l n h → Within l n (spread k b l n h)) → (t : Bool) → nat_lt n 2 ≡ t →
        Within l n (if t then [] else
        (Hands h b (other_holder (middle l n) l h) b ∷
        (spread k b l (n - n / 2) (first_holder (middle l n) l h) ++
        spread k b (middle l n) (n / 2) (second_holder (middle l n) h))))
    go ih true e = omega arith
    go ih false e = let c = cut_of l n h i e in (
      (i, c.other),
      within_append l n _ _ (first_wider l n _ (ih l (n - n / 2) _ c.first))
          (second_wider l n c.less _ (ih (middle l n) (n / 2) _ c.second)),
    )

-- behind the message both holders have the block
both_hold : (f : Folding) (ms : ℕ → Memory) (b : Slot) (l n h : ℕ) → Cut l n h →
    (done f ms (Hands h b (other_holder (middle l n) l h) b) (first_holder (middle l n) l h) b ≡ ms h b) ×
    (done f ms (Hands h b (other_holder (middle l n) l h) b) (second_holder (middle l n) h) b ≡ ms h b)
both_hold f ms b l n h c = go (nat_lt h (middle l n)) c.apart
  where
    there : (o : ℕ) → done f ms (Hands h b o b) o b ≡ ms h b
    there o = ap (λ (m : Memory). m b) (own_memory ms o (with_block (ms o) b (ms h b))) ∙ put_there (ms o) b (ms h b)

    here : (o : ℕ) → (h == o) ≡ false → done f ms (Hands h b o b) h b ≡ ms h b
    here o e = ap (λ (m : Memory). m b) (other_memory ms o h (with_block (ms o) b (ms h b)) e)

    go : (t : Bool) → (h == (if t then middle l n else l)) ≡ false →
        (done f ms (Hands h b (if t then middle l n else l) b) (if t then h else l) b ≡ ms h b) ×
        (done f ms (Hands h b (if t then middle l n else l) b) (if t then middle l n else h) b ≡ ms h b)
    go true e = (here (middle l n) e, there (middle l n))
    go false e = (there l, here l e)

pub spread_gives : (f : Folding) (k : ℕ) (b : Slot) (l n h : ℕ) (ms : ℕ → Memory) (r : ℕ) → n ≤ k → Inside l n h →
    Inside l n r → played f ms (spread k b l n h) r b ≡ ms h b
spread_gives f zero b l n h ms r le i j =
    let u : l ≤ h = i.0 in let v : h < l + n = i.1 in absurd (omega (arith, le, u, v))
spread_gives f (suc k) b l n h ms r le i j =
    go (λ l n h ms r le i j. spread_gives f k b l n h ms r le i j) (nat_lt n 2) refl
  where
    alone : nat_lt n 2 ≡ true → ms r b ≡ ms h b
    alone e =
        let s : n < 2 = ltb-true n 2 e in
        let u : l ≤ h = i.0 in let v : h < l + n = i.1 in let w : l ≤ r = j.0 in let x : r < l + n = j.1 in
        let same : r ≡ h = omega (arith, s, u, v, w, x) in ap (λ (y : ℕ). ms y b) same

    go : ((l n h : ℕ) (ms : ℕ → Memory) (r : ℕ) → n ≤ k → Inside l n h → Inside l n r →
        played f ms (spread k b l n h) r b ≡ ms h b) → (t : Bool) → nat_lt n 2 ≡ t → played f ms (if t then [] else
        (Hands h b (other_holder (middle l n) l h) b ∷
        (spread k b l (n - n / 2) (first_holder (middle l n) l h) ++
        spread k b (middle l n) (n / 2) (second_holder (middle l n) h)))) r b ≡ ms h b
    go ih true e = alone e
    go ih false e = ap (λ (y : ℕ → Memory). y r b) (played_append f xs ys ms1) ∙ half (nat_lt r (middle l n)) refl
      where
        c : Cut l n h
        c = cut_of l n h i e

        ms1 : ℕ → Memory
        ms1 = done f ms (Hands h b (other_holder (middle l n) l h) b)

        xs : List Act
        xs = spread k b l (n - n / 2) (first_holder (middle l n) l h)

        ys : List Act
        ys = spread k b (middle l n) (n / 2) (second_holder (middle l n) h)

        half : (t : Bool) → nat_lt r (middle l n) ≡ t → played f (played f
            (done f ms (Hands h b (other_holder (middle l n) l h) b))
            (spread k b l (n - n / 2) (first_holder (middle l n) l h)))
            (spread k b (middle l n) (n / 2) (second_holder (middle l n) h)) r b ≡ ms h b
        half true u = let p = in_first l n r j u in
            ap (λ (m : Memory). m b) (played_beside f (middle l n) (n / 2) r p.1 _
            (spread_within k b (middle l n) (n / 2) _ c.second) _)
            ∙ ih l (n - n / 2) (first_holder (middle l n) l h) _ r
            (let some : 0 < n / 2 = c.some in omega (arith, le, some)) c.first p.0
            ∙ (both_hold f ms b l n h c).0
        half false u = let p = in_second l n r c.less j u in
            let q = in_second l n (second_holder (middle l n) h) c.less (wide c.second) (not_first c.second) in
            ih (middle l n) (n / 2) (second_holder (middle l n) h) _ r
            (let less : n / 2 < n = c.less in omega (arith, le, less)) c.second p.0
            ∙ ap (λ (m : Memory). m b) (played_beside f l (n - n / 2) (second_holder (middle l n) h) q.1 _
            (spread_within k b l (n - n / 2) _ c.first) _)
            ∙ (both_hold f ms b l n h c).1
          where
            wide : Inside (middle l n) (n / 2) (second_holder (middle l n) h) →
                Inside l n (second_holder (middle l n) h)
            wide s =
                let a : l + (n - n / 2) ≤ second_holder (middle l n) h = s.0 in
                let z : second_holder (middle l n) h < l + (n - n / 2) + n / 2 = s.1 in
                let less : n / 2 < n = c.less in (omega (arith, a), omega (arith, z, less))

            not_first : Inside (middle l n) (n / 2) (second_holder (middle l n) h) →
                nat_lt (second_holder (middle l n) h) (middle l n) ≡ false
            not_first s = go2 (nat_lt (second_holder (middle l n) h) (middle l n)) refl
              where
                go2 : (t : Bool) → nat_lt (second_holder (middle l n) h) (middle l n) ≡ t →
                    nat_lt (second_holder (middle l n) h) (middle l n) ≡ false
                go2 false v = v
                go2 true v =
                    let a : second_holder (middle l n) h < l + (n - n / 2) =
                    ltb-true (second_holder (middle l n) h) (middle l n) v in
                    let z : l + (n - n / 2) ≤ second_holder (middle l n) h = s.0 in absurd (omega (arith, a, z))

broadcast_within : (n root : ℕ) → root < n → Within 0 n (broadcasting n root)
broadcast_within n root lt =
    let i : Inside 0 n root = (omega arith, omega (arith, lt)) in (i, spread_within n (Got 0) 0 n root i)

pub tree_broadcast_gives : TreeBroadcastGives
tree_broadcast_gives f n root given r lo lr =
    part_gives f n (broadcasting n root) given r (Got 0) (given root (Given 0)) (broadcast_within n root lo)
    (spread_gives f n (Got 0) 0 n root (done f given (Copies root (Given 0) (Got 0))) r (omega arith)
    (omega arith, omega (arith, lo)) (omega arith, omega (arith, lr))
    ∙ ap (λ (m : Memory). m (Got 0)) (own_memory given root (with_block (given root) (Got 0) (given root (Given 0)))))

-- COLLECTING

-- the left fold of so many blocks more from this one on
abbrev fold_from : Folding → (v : ℕ → Block) → (low more : ℕ) → Block
fold_from f v l zero = v l
fold_from f v l (suc k) = f (fold_from f v l k) (v (l + suc k))

fold_from_0 : (f : Folding) (v : ℕ → Block) (k : ℕ) → fold_from f v 0 k ≡ folded f v k
fold_from_0 f v zero = refl
fold_from_0 f v (suc k) = let here : 0 + suc k ≡ suc k = omega arith in ap₂ f (fold_from_0 f v k) (ap v here)

fold_kind : (f : Folding) (P : Block → Bool) → IsAssociative f P → (v : ℕ → Block) (l k : ℕ) →
    ((x : ℕ) → l ≤ x → x ≤ l + k → P (v x) ≡ true) → P (fold_from f v l k) ≡ true
fold_kind f P a v l zero h = h l (omega arith) (omega arith)
fold_kind f P a v l (suc k) h =
    a.stays _ _ (fold_kind f P a v l k (λ x u w. h x u (omega (arith, w)))) (h (l + suc k) (omega arith) (omega arith))

-- the fold of a row is that of its two parts' folds
fold_split : (f : Folding) (P : Block → Bool) → IsAssociative f P → (v : ℕ → Block) (l a b : ℕ) →
    ((x : ℕ) → l ≤ x → x ≤ l + suc (a + b) → P (v x) ≡ true) →
    fold_from f v l (suc (a + b)) ≡ f (fold_from f v l a) (fold_from f v (l + suc a) b)
fold_split f P s v l a zero h =
    let none : a + 0 ≡ a = omega arith in ap (λ (k : ℕ). fold_from f v l (suc k)) none
fold_split f P s v l a (suc b) h =
    let more : a + suc b ≡ suc (a + b) = omega arith in
    let there : l + suc (suc (a + b)) ≡ l + suc a + suc b = omega arith in
    ap (λ (k : ℕ). fold_from f v l (suc k)) more
    ∙ ap₂ f (fold_split f P s v l a b (λ x u w. h x u (omega (arith, w)))) (ap v there)
    ∙ s.regroups (fold_from f v l a) (fold_from f v (l + suc a) b) (v (l + suc a + suc b))
    (fold_kind f P s v l a (λ x u w. h x u (omega (arith, w))))
    (fold_kind f P s v (l + suc a) b (λ x u w. h x (omega (arith, u)) (omega (arith, w))))
    (h (l + suc a + suc b) (omega arith) (omega arith))

joins_within : (l n h o : ℕ) → Inside l n h → Inside l n o → Within l n (joins h o)
joins_within l n h o i j = ((j, i), go (nat_lt h o))
  where
    go : (t : Bool) → Within l n (if t then Folds h (Kept 0) (Kept 1) (Kept 1) ∷ Copies h (Kept 1) (Kept 0) ∷ [] else
        Folds h (Kept 1) (Kept 0) (Kept 0) ∷ [])
    go true = (i, (i, omega arith))
    go false = (i, omega arith)

pub collect_within : (k l n h : ℕ) → Inside l n h → Within l n (collect k l n h)
collect_within zero l n h i = omega arith
collect_within (suc k) l n h i = go (λ l n h i. collect_within k l n h i) (nat_lt n 2) refl
  where
    go : ((l n h : ℕ) → Inside l n h → Within l n (collect k l n h)) → (t : Bool) → nat_lt n 2 ≡ t →
        Within l n (if t then [] else (collect k l (n - n / 2) (first_holder (middle l n) l h) ++
        (collect k (middle l n) (n / 2) (second_holder (middle l n) h) ++ joins h (other_holder (middle l n) l h))))
    go ih true e = omega arith
    go ih false e = let c = cut_of l n h i e in
        within_append l n _ _ (first_wider l n _ (ih l (n - n / 2) _ c.first))
        (within_append l n _ _ (second_wider l n c.less _ (ih (middle l n) (n / 2) _ c.second))
        (joins_within l n h _ i c.other))

-- one message and a fold join two folds
joins_give : (f : Folding) (ms : ℕ → Memory) (h o : ℕ) →
    played f ms (joins h o) h (Kept 0) ≡
    (if nat_lt h o then f (ms h (Kept 0)) (ms o (Kept 0)) else f (ms o (Kept 0)) (ms h (Kept 0)))
joins_give f ms h o = go (nat_lt h o)
  where
    ms1 : ℕ → Memory
    ms1 = with_memory ms h (with_block (ms h) (Kept 1) (ms o (Kept 0)))

    came : with_memory ms h (with_block (ms h) (Kept 1) (ms o (Kept 0))) h ≡
        with_block (ms h) (Kept 1) (ms o (Kept 0))
    came = own_memory ms h (with_block (ms h) (Kept 1) (ms o (Kept 0)))

    ms2 : ℕ → Memory
    ms2 = with_memory ms1 h (with_block (ms1 h) (Kept 1) (f (ms1 h (Kept 0)) (ms1 h (Kept 1))))

    go : (t : Bool) → played f (done f ms (Hands o (Kept 0) h (Kept 1)))
        (if t then Folds h (Kept 0) (Kept 1) (Kept 1) ∷ Copies h (Kept 1) (Kept 0) ∷ [] else
        Folds h (Kept 1) (Kept 0) (Kept 0) ∷ []) h (Kept 0) ≡
        (if t then f (ms h (Kept 0)) (ms o (Kept 0)) else f (ms o (Kept 0)) (ms h (Kept 0)))
    go true =
        ap (λ (m : Memory). m (Kept 0)) (own_memory ms2 h (with_block (ms2 h) (Kept 0) (ms2 h (Kept 1))))
        ∙ ap (λ (m : Memory). m (Kept 1)) (own_memory ms1 h (with_block (ms1 h) (Kept 1)
        (f (ms1 h (Kept 0)) (ms1 h (Kept 1)))))
        ∙ ap₂ f (ap (λ (m : Memory). m (Kept 0)) came) (ap (λ (m : Memory). m (Kept 1)) came)
    go false =
        ap (λ (m : Memory). m (Kept 0)) (own_memory ms1 h (with_block (ms1 h) (Kept 0)
        (f (ms1 h (Kept 1)) (ms1 h (Kept 0)))))
        ∙ ap₂ f (ap (λ (m : Memory). m (Kept 1)) came) (ap (λ (m : Memory). m (Kept 0)) came)

pub collect_gives : (f : Folding) (P : Block → Bool) → IsAssociative f P → (v : ℕ → Block) (k l n h : ℕ)
    (ms : ℕ → Memory) → n ≤ k → Inside l n h → ((x : ℕ) → Inside l n x → ms x (Kept 0) ≡ v x) →
    ((x : ℕ) → Inside l n x → P (v x) ≡ true) →
    played f ms (collect k l n h) h (Kept 0) ≡ fold_from f v l (n - 1)
collect_gives f P a v zero l n h ms le i has kind =
    let u : l ≤ h = i.0 in let w : h < l + n = i.1 in absurd (omega (arith, le, u, w))
collect_gives f P a v (suc k) l n h ms le i has kind =
    go (λ l n h ms le i has kind. collect_gives f P a v k l n h ms le i has kind) (nat_lt n 2) refl
  where
    alone : nat_lt n 2 ≡ true → ms h (Kept 0) ≡ fold_from f v l (n - 1)
    alone e =
        let s : n < 2 = ltb-true n 2 e in
        let u : l ≤ h = i.0 in let w : h < l + n = i.1 in
        let same : h ≡ l = omega (arith, s, u, w) in
        let none : 0 ≡ n - 1 = omega (arith, s) in
        has h i ∙ ap v same ∙ ap (λ (x : ℕ). fold_from f v l x) none

    go : ((l n h : ℕ) (ms : ℕ → Memory) → n ≤ k → Inside l n h → ((x : ℕ) → Inside l n x → ms x (Kept 0) ≡ v x) →
        ((x : ℕ) → Inside l n x → P (v x) ≡ true) →
        played f ms (collect k l n h) h (Kept 0) ≡ fold_from f v l (n - 1)) →
        (t : Bool) → nat_lt n 2 ≡ t → played f ms (if t then [] else
        (collect k l (n - n / 2) (first_holder (middle l n) l h) ++
        (collect k (middle l n) (n / 2) (second_holder (middle l n) h) ++
        joins h (other_holder (middle l n) l h)))) h (Kept 0) ≡ fold_from f v l (n - 1)
    go ih true e = alone e
    go ih false e =
        ap (λ (y : ℕ → Memory). y h (Kept 0)) (played_append f xs (ys ++ joins h (other_holder (middle l n) l h)) ms)
        ∙ ap (λ (y : ℕ → Memory). y h (Kept 0)) (played_append f ys (joins h (other_holder (middle l n) l h)) ms1)
        ∙ joins_give f ms2 h (other_holder (middle l n) l h)
        ∙ side (nat_lt h (middle l n)) refl first_has second_has
        ∙ sym split
      where
        c : Cut l n h
        c = cut_of l n h i e

        some : 0 < n / 2
        some = c.some

        less : n / 2 < n
        less = c.less

        xs : List Act
        xs = collect k l (n - n / 2) (first_holder (middle l n) l h)

        ys : List Act
        ys = collect k (middle l n) (n / 2) (second_holder (middle l n) h)

        ms1 : ℕ → Memory
        ms1 = played f ms xs

        ms2 : ℕ → Memory
        ms2 = played f ms1 ys

        in_1 : (x : ℕ) → Inside l (n - n / 2) x → Inside l n x
        in_1 x s = let p : l ≤ x = s.0 in let q : x < l + (n - n / 2) = s.1 in (p, omega (arith, q))

        in_2 : (x : ℕ) → Inside (middle l n) (n / 2) x → Inside l n x
        in_2 x s =
            let p : l + (n - n / 2) ≤ x = s.0 in let q : x < l + (n - n / 2) + n / 2 = s.1 in
            (omega (arith, p), omega (arith, q, less))

        one : Block
        one = fold_from f v l (n - n / 2 - 1)

        two : Block
        two = fold_from f v (middle l n) (n / 2 - 1)

        first_is : played f ms (collect k l (n - n / 2) (first_holder (middle l n) l h))
            (first_holder (middle l n) l h) (Kept 0) ≡ fold_from f v l (n - n / 2 - 1)
        first_is = ih l (n - n / 2) (first_holder (middle l n) l h) ms (omega (arith, le, some))
            c.first (λ x s. has x (in_1 x s)) (λ x s. kind x (in_1 x s))

        beside_2 : (x : ℕ) → Inside l (n - n / 2) x → Beside (middle l n) (n / 2) x
        beside_2 x s = inl s.1

        beside_1 : (x : ℕ) → Inside (middle l n) (n / 2) x → Beside l (n - n / 2) x
        beside_1 x s = inr s.0

        first_has : ms2 (first_holder (middle l n) l h) (Kept 0) ≡ fold_from f v l (n - n / 2 - 1)
        first_has =
            ap (λ (m : Memory). m (Kept 0)) (played_beside f (middle l n) (n / 2) (first_holder (middle l n) l h)
            (beside_2 (first_holder (middle l n) l h) c.first) ys
            (collect_within k (middle l n) (n / 2) _ c.second) ms1)
            ∙ first_is

        second_has : ms2 (second_holder (middle l n) h) (Kept 0) ≡ fold_from f v (middle l n) (n / 2 - 1)
        second_has = ih (middle l n) (n / 2) (second_holder (middle l n) h) ms1
            (omega (arith, le, less)) c.second
            (λ x s. ap (λ (m : Memory). m (Kept 0)) (played_beside f l (n - n / 2) x (beside_1 x s) xs
            (collect_within k l (n - n / 2) _ c.first) ms) ∙ has x (in_2 x s)) (λ x s. kind x (in_2 x s))

        side : (t : Bool) → nat_lt h (middle l n) ≡ t →
            ms2 (if t then h else l) (Kept 0) ≡ one → ms2 (if t then middle l n else h) (Kept 0) ≡ two →
            (if nat_lt h (if t then middle l n else l)
            then f (ms2 h (Kept 0)) (ms2 (if t then middle l n else l) (Kept 0))
            else f (ms2 (if t then middle l n else l) (Kept 0)) (ms2 h (Kept 0))) ≡ f one two
        side true u p q =
            ap (λ (t : Bool). if t then f (ms2 h (Kept 0)) (ms2 (middle l n) (Kept 0))
            else f (ms2 (middle l n) (Kept 0)) (ms2 h (Kept 0))) u ∙ ap₂ f p q
        side false u p q =
            ap (λ (t : Bool). if t then f (ms2 h (Kept 0)) (ms2 l (Kept 0)) else f (ms2 l (Kept 0)) (ms2 h (Kept 0)))
            (not_below (nat_lt h l) refl) ∙ ap₂ f p q
          where
            not_below : (t : Bool) → nat_lt h l ≡ t → nat_lt h l ≡ false
            not_below false w = w
            not_below true w =
                let z : h < l = ltb-true h l w in let y : l ≤ h = i.0 in absurd (omega (arith, z, y))

        split : fold_from f v l (n - 1) ≡ f (fold_from f v l (n - n / 2 - 1)) (fold_from f v (middle l n) (n / 2 - 1))
        split =
            let whole : n - 1 ≡ suc (n - n / 2 - 1 + (n / 2 - 1)) = omega (arith, some, less) in
            let there : l + suc (n - n / 2 - 1) ≡ middle l n = omega (arith, less) in
            ap (λ (x : ℕ). fold_from f v l x) whole
            ∙ fold_split f P a v l (n - n / 2 - 1) (n / 2 - 1)
            (λ x u w. kind x (u, omega (arith, w, some, less)))
            ∙ ap (λ (x : ℕ). f (fold_from f v l (n - n / 2 - 1)) (fold_from f v x (n / 2 - 1))) there

-- REDUCTIONS

begins_within : (own : ℕ → Slot) (l k : ℕ) → Within l k (begins own l k)
begins_within own l zero = omega arith
begins_within own l (suc k) = (
  (omega arith, omega arith),
  within_wider (suc l) k l (suc k) (omega arith) (omega arith) _
      (begins_within own (suc l) k),
)

begins_give : (f : Folding) (own : ℕ → Slot) (k l : ℕ) (ms : ℕ → Memory) (x : ℕ) → Inside l k x →
    played f ms (begins own l k) x (Kept 0) ≡ ms x (own x)
begins_give f own zero l ms x i =
    let u : l ≤ x = i.0 in let w : x < l + 0 = i.1 in absurd (omega (arith, u, w))
begins_give f own (suc k) l ms x i =
    go (λ j. begins_give f own k (suc l) (done f ms (Copies l (own l) (Kept 0))) x j) (x == l) refl
  where
    ms1 : ℕ → Memory
    ms1 = done f ms (Copies l (own l) (Kept 0))

    u : l ≤ x
    u = i.0

    w : x < l + suc k
    w = i.1

    go : (Inside (suc l) k x → played f (done f ms (Copies l (own l) (Kept 0))) (begins own (suc l) k) x (Kept 0) ≡
        done f ms (Copies l (own l) (Kept 0)) x (own x)) →
        (t : Bool) → (x == l) ≡ t → played f (done f ms (Copies l (own l) (Kept 0))) (begins own (suc l) k) x
        (Kept 0) ≡ ms x (own x)
    go ih true e =
        let is : x ≡ l = eqb-true x l e in
        ap (λ (m : Memory). m (Kept 0)) (played_beside f (suc l) k x (inl (omega (arith, is))) _
        (begins_within own (suc l) k) ms1)
        ∙ ap (λ (y : ℕ). ms1 y (Kept 0)) is
        ∙ ap (λ (m : Memory). m (Kept 0)) (own_memory ms l (with_block (ms l) (Kept 0) (ms l (own l))))
        ∙ ap (λ (y : ℕ). ms y (own y)) (sym is)
    go ih false e =
        ih (above, omega (arith, w))
        ∙ ap (λ (m : Memory). m (own x)) (other_memory ms l x (with_block (ms l) (Kept 0) (ms l (own l))) e)
      where
        above : suc l ≤ x
        above = side (nat_lt l x) refl
          where
            side : (t : Bool) → nat_lt l x ≡ t → suc l ≤ x
            side true v = let z : l < x = ltb-true l x v in omega (arith, z)
            side false v = let z : x ≤ l = ltb-false l x v in absurd (eqb-false x l e (omega (arith, u, z)))

pub reducing_within : (own : ℕ → Slot) (n root : ℕ) → root < n → Within 0 n (reducing own n root)
reducing_within own n root lt =
    let i : Inside 0 n root = (omega arith, omega (arith, lt)) in
    within_append 0 n (begins own 0 n) _ (begins_within own 0 n)
    (within_append 0 n (collect n 0 n root) _ (collect_within n 0 n root i) (i, omega arith))

pub reducing_gives : (f : Folding) (P : Block → Bool) → IsAssociative f P → (own : ℕ → Slot) (n root : ℕ)
    (ms : ℕ → Memory) → ((s : ℕ) → s < n → P (ms s (own s)) ≡ true) → root < n →
    played f ms (reducing own n root) root (Got 0) ≡ folded f (λ s. ms s (own s)) (n - 1)
reducing_gives f P a own n root ms kind lt =
    ap (λ (y : ℕ → Memory). y root (Got 0)) (played_append f (begins own 0 n) _ ms)
    ∙ ap (λ (y : ℕ → Memory). y root (Got 0)) (played_append f (collect n 0 n root) _ ms1)
    ∙ ap (λ (m : Memory). m (Got 0)) (own_memory ms2 root (with_block (ms2 root) (Got 0) (ms2 root (Kept 0))))
    ∙ collect_gives f P a (λ s. ms s (own s)) n 0 n root ms1 (omega arith) (omega arith, omega (arith, lt))
    (λ x i. begins_give f own n 0 ms x i) (λ x i. kind x (let u : x < 0 + n = i.1 in omega (arith, u)))
    ∙ fold_from_0 f (λ s. ms s (own s)) (n - 1)
  where
    ms1 : ℕ → Memory
    ms1 = played f ms (begins own 0 n)

    ms2 : ℕ → Memory
    ms2 = played f ms1 (collect n 0 n root)

pub tree_reduce_gives : TreeReduceGives
tree_reduce_gives f P n root in_place given a kind lt =
    part_gives f n (reducing (own_slot in_place) n root) given root (Got 0) _
    (reducing_within (own_slot in_place) n root lt)
    (reducing_gives f P a (own_slot in_place) n root given kind lt)

pub allreducing_within : (own : ℕ → Slot) (n : ℕ) → 0 < n → Within 0 n (allreducing own n)
allreducing_within own n lt =
    within_append 0 n (reducing own n 0) _ (reducing_within own n 0 lt)
    (spread_within n (Got 0) 0 n 0 (omega arith, omega (arith, lt)))

pub allreducing_gives : (f : Folding) (P : Block → Bool) → IsAssociative f P → (own : ℕ → Slot) (n : ℕ)
    (ms : ℕ → Memory) (r : ℕ) → ((s : ℕ) → s < n → P (ms s (own s)) ≡ true) → r < n →
    played f ms (allreducing own n) r (Got 0) ≡ folded f (λ s. ms s (own s)) (n - 1)
allreducing_gives f P a own n ms r kind lt =
    let some : 0 < n = omega (arith, lt) in
    ap (λ (y : ℕ → Memory). y r (Got 0)) (played_append f (reducing own n 0) _ ms)
    ∙ spread_gives f n (Got 0) 0 n 0 (played f ms (reducing own n 0)) r (omega arith) (omega arith, omega (arith, some))
    (omega arith, omega (arith, lt))
    ∙ reducing_gives f P a own n 0 ms kind some

pub tree_allreduce_gives : TreeAllreduceGives
tree_allreduce_gives f P n in_place given r a kind lt =
    part_gives f n (allreducing (own_slot in_place) n) given r (Got 0) _
    (allreducing_within (own_slot in_place) n (omega (arith, lt)))
    (allreducing_gives f P a (own_slot in_place) n given r kind lt)
