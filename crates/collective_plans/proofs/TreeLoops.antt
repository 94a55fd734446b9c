-- What the code of trees adds to a plan, piece by piece.
use Rattle.std.proofs.Common.{◌≡◌, ◌<◌, ◌≤◌, inl, inr, ℕ, zero, suc, ◌+◌, ◌-◌, ◌/◌, Bool, true, false, List, [], ◌∷◌}
use Rattle.std.proofs.Common.{◌++◌, if◌then◌else◌, ◌==◌, nat_lt, refl, sym, ap, ap₂, ◌∙◌, arith, ne_eqb, append_assoc}
use Rattle.std.proofs.Common.{append-nil}
use Rattle.std.proofs.lemmas.Bool.{eqb-true, eqb-false, eq-eqb, lt-ltb, le-ltb, ltb-true, ltb-false}
use Rattle.collective_plans.specs.declared.plan.Slot.{Slot}
use Rattle.collective_plans.specs.declared.plan.Slot.TheVariants.{Given, Got, Kept}
use Rattle.collective_plans.specs.declared.plan.Step.{Step}
use Rattle.collective_plans.specs.declared.plan.Step.TheVariants.{Copy, Fold, Receive, Send}
use Rattle.collective_plans.specs.Scripts.{Act, Copies, Folds, Hands, own_step, part, part_of}
use Rattle.collective_plans.specs.Trees.{begins, collect, first_holder, joins, middle, other_holder, reducing}
use Rattle.collective_plans.specs.Trees.{second_holder, spread, tree_allreduce, tree_reduce}
use Rattle.collective_plans.proofs.PartProofs.{Beside, Inside, Within, differs, part_append, part_beside}
use Rattle.collective_plans.proofs.TreeProofs.{Cut, collect_within, cut_of, in_first, in_second, spread_within}

-- one range alone is not cut
pub spread_small : (b : Slot) (l n h r : ℕ) → n < 2 → part r (spread n b l n h) ≡ []
spread_small b l zero h r lt = refl
spread_small b l (suc k) h r lt = ap (λ (t : Bool). part r (if t then [] else
    (Hands h b (other_holder (middle l (suc k)) l h) b ∷
    (spread k b l (suc k - suc k / 2) (first_holder (middle l (suc k)) l h) ++
    spread k b (middle l (suc k)) (suc k / 2) (second_holder (middle l (suc k)) h))))) (lt-ltb (suc k) 2 lt)

pub collect_small : (l n h r : ℕ) → n < 2 → part r (collect n l n h) ≡ []
collect_small l zero h r lt = refl
collect_small l (suc k) h r lt = ap (λ (t : Bool). part r (if t then [] else
    (collect k l (suc k - suc k / 2) (first_holder (middle l (suc k)) l h) ++
    (collect k (middle l (suc k)) (suc k / 2) (second_holder (middle l (suc k)) h) ++
    joins h (other_holder (middle l (suc k)) l h))))) (lt-ltb (suc k) 2 lt)

-- how often a range may be cut makes no difference, where it is often enough
pub spread_enough : (k j : ℕ) (b : Slot) (l n h : ℕ) → n ≤ k → n ≤ j → spread k b l n h ≡ spread j b l n h
spread_enough zero zero b l n h u v = refl
spread_enough zero (suc j) b l n h u v = sym (ap (λ (t : Bool). if t then [] else
    (Hands h b (other_holder (middle l n) l h) b ∷
    (spread j b l (n - n / 2) (first_holder (middle l n) l h) ++
    spread j b (middle l n) (n / 2) (second_holder (middle l n) h)))) (lt-ltb n 2 (omega (arith, u))))
spread_enough (suc k) zero b l n h u v = ap (λ (t : Bool). if t then [] else
    (Hands h b (other_holder (middle l n) l h) b ∷
    (spread k b l (n - n / 2) (first_holder (middle l n) l h) ++
    spread k b (middle l n) (n / 2) (second_holder (middle l n) h)))) (lt-ltb n 2 (omega (arith, v)))
spread_enough (suc k) (suc j) b l n h u v =
    go (λ l n h u v. spread_enough k j b l n h u v) (nat_lt n 2) refl
  where
    go : ((l n h : ℕ) → n ≤ k → n ≤ j → spread k b l n h ≡ spread j b l n h) → (t : Bool) → nat_lt n 2 ≡ t →
        (if t then [] else
        (Hands h b (other_holder (middle l n) l h) b ∷
        (spread k b l (n - n / 2) (first_holder (middle l n) l h) ++
        spread k b (middle l n) (n / 2) (second_holder (middle l n) h)))) ≡
        (if t then [] else
        (Hands h b (other_holder (middle l n) l h) b ∷
        (spread j b l (n - n / 2) (first_holder (middle l n) l h) ++
        spread j b (middle l n) (n / 2) (second_holder (middle l n) h))))
    go ih true e = refl
    go ih false e =
        let big : 2 ≤ n = ltb-false n 2 e in
        ap₂ (λ (xs ys : List Act). Hands h b (other_holder (middle l n) l h) b ∷ (xs ++ ys))
        (ih l (n - n / 2) (first_holder (middle l n) l h) (omega (arith, u, big)) (omega (arith, v, big)))
        (ih (middle l n) (n / 2) (second_holder (middle l n) h) (omega (arith, u, big)) (omega (arith, v, big)))

pub collect_enough : (k j l n h : ℕ) → n ≤ k → n ≤ j → collect k l n h ≡ collect j l n h
collect_enough zero zero l n h u v = refl
collect_enough zero (suc j) l n h u v = sym (ap (λ (t : Bool). if t then [] else
    (collect j l (n - n / 2) (first_holder (middle l n) l h) ++
    (collect j (middle l n) (n / 2) (second_holder (middle l n) h) ++ joins h (other_holder (middle l n) l h))))
    (lt-ltb n 2 (omega (arith, u))))
collect_enough (suc k) zero l n h u v = ap (λ (t : Bool). if t then [] else
    (collect k l (n - n / 2) (first_holder (middle l n) l h) ++
    (collect k (middle l n) (n / 2) (second_holder (middle l n) h) ++ joins h (other_holder (middle l n) l h))))
    (lt-ltb n 2 (omega (arith, v)))
collect_enough (suc k) (suc j) l n h u v =
    go (λ l n h u v. collect_enough k j l n h u v) (nat_lt n 2) refl
  where
    go : ((l n h : ℕ) → n ≤ k → n ≤ j → collect k l n h ≡ collect j l n h) → (t : Bool) → nat_lt n 2 ≡ t →
        (if t then [] else
        (collect k l (n - n / 2) (first_holder (middle l n) l h) ++
        (collect k (middle l n) (n / 2) (second_holder (middle l n) h) ++
        joins h (other_holder (middle l n) l h)))) ≡
        (if t then [] else
        (collect j l (n - n / 2) (first_holder (middle l n) l h) ++
        (collect j (middle l n) (n / 2) (second_holder (middle l n) h) ++
        joins h (other_holder (middle l n) l h))))
    go ih true e = refl
    go ih false e =
        let big : 2 ≤ n = ltb-false n 2 e in
        ap₂ (λ (xs ys : List Act). xs ++ (ys ++ joins h (other_holder (middle l n) l h)))
        (ih l (n - n / 2) (first_holder (middle l n) l h) (omega (arith, u, big)) (omega (arith, v, big)))
        (ih (middle l n) (n / 2) (second_holder (middle l n) h) (omega (arith, u, big)) (omega (arith, v, big)))

-- a part of two lists, of which one is of others
keeps_first : (r : ℕ) (xs ys : List Act) → part r ys ≡ [] → part r (xs ++ ys) ≡ part r xs
keeps_first r xs ys h =
    part_append r xs ys ∙ ap (λ (ss : List Step). part r xs ++ ss) h ∙ append-nil (part r xs)

keeps_second : (r : ℕ) (xs ys : List Act) → part r xs ≡ [] → part r (xs ++ ys) ≡ part r ys
keeps_second r xs ys h = part_append r xs ys ∙ ap (λ (ss : List Step). ss ++ part r ys) h

-- what a member adds in its half
pub spread_cut : (k : ℕ) (b : Slot) (l n h r : ℕ) → n ≡ suc k → 2 ≤ n → Inside l n h → Inside l n r →
    part r (spread n b l n h) ≡ part r (Hands h b (other_holder (middle l n) l h) b ∷ []) ++
    (if nat_lt r (middle l n)
    then part r (spread (n - n / 2) b l (n - n / 2) (first_holder (middle l n) l h))
    else part r (spread (n / 2) b (middle l n) (n / 2) (second_holder (middle l n) h)))
spread_cut k b l n h r is big i j =
    ap (λ (x : ℕ). part r (spread x b l n h)) is
    ∙ ap (λ (t : Bool). part r (if t then [] else
    (Hands h b (other_holder (middle l n) l h) b ∷
    (spread k b l (n - n / 2) (first_holder (middle l n) l h) ++
    spread k b (middle l n) (n / 2) (second_holder (middle l n) h))))) (le-ltb n 2 big)
    ∙ part_append r (Hands h b (other_holder (middle l n) l h) b ∷ []) _
    ∙ ap (λ (ss : List Step). part r (Hands h b (other_holder (middle l n) l h) b ∷ []) ++ ss)
    (half (nat_lt r (middle l n)) refl)
  where
    c : Cut l n h
    c = cut_of l n h i (le-ltb n 2 big)

    half : (t : Bool) → nat_lt r (middle l n) ≡ t →
        part r (spread k b l (n - n / 2) (first_holder (middle l n) l h) ++
        spread k b (middle l n) (n / 2) (second_holder (middle l n) h)) ≡
        (if t
        then part r (spread (n - n / 2) b l (n - n / 2) (first_holder (middle l n) l h))
        else part r (spread (n / 2) b (middle l n) (n / 2) (second_holder (middle l n) h)))
    half true e =
        keeps_first r (spread k b l (n - n / 2) (first_holder (middle l n) l h)) _
        (part_beside (middle l n) (n / 2) r (in_first l n r j e).1 _
        (spread_within k b (middle l n) (n / 2) _ c.second))
        ∙ ap (λ (xs : List Act). part r xs)
        (spread_enough k (n - n / 2) b l (n - n / 2) (first_holder (middle l n) l h) (omega (arith, is, big))
        (omega arith))
    half false e =
        keeps_second r (spread k b l (n - n / 2) (first_holder (middle l n) l h)) _
        (part_beside l (n - n / 2) r (in_second l n r c.less j e).1 _
        (spread_within k b l (n - n / 2) _ c.first))
        ∙ ap (λ (xs : List Act). part r xs)
        (spread_enough k (n / 2) b (middle l n) (n / 2) (second_holder (middle l n) h) (omega (arith, is, big))
        (omega arith))

pub collect_cut : (k l n h r : ℕ) → n ≡ suc k → 2 ≤ n → Inside l n h → Inside l n r →
    part r (collect n l n h) ≡
    (if nat_lt r (middle l n)
    then part r (collect (n - n / 2) l (n - n / 2) (first_holder (middle l n) l h))
    else part r (collect (n / 2) (middle l n) (n / 2) (second_holder (middle l n) h))) ++
    part r (joins h (other_holder (middle l n) l h))
collect_cut k l n h r is big i j =
    ap (λ (x : ℕ). part r (collect x l n h)) is
    ∙ ap (λ (t : Bool). part r (if t then [] else
    (collect k l (n - n / 2) (first_holder (middle l n) l h) ++
    (collect k (middle l n) (n / 2) (second_holder (middle l n) h) ++
    joins h (other_holder (middle l n) l h))))) (le-ltb n 2 big)
    ∙ half (nat_lt r (middle l n)) refl
  where
    c : Cut l n h
    c = cut_of l n h i (le-ltb n 2 big)

    half : (t : Bool) → nat_lt r (middle l n) ≡ t →
        part r (collect k l (n - n / 2) (first_holder (middle l n) l h) ++
        (collect k (middle l n) (n / 2) (second_holder (middle l n) h) ++
        joins h (other_holder (middle l n) l h))) ≡
        (if t
        then part r (collect (n - n / 2) l (n - n / 2) (first_holder (middle l n) l h))
        else part r (collect (n / 2) (middle l n) (n / 2) (second_holder (middle l n) h))) ++
        part r (joins h (other_holder (middle l n) l h))
    half true e =
        part_append r (collect k l (n - n / 2) (first_holder (middle l n) l h)) _
        ∙ ap₂ (λ (xs : List Act) (ss : List Step). part r xs ++ ss)
        (collect_enough k (n - n / 2) l (n - n / 2) (first_holder (middle l n) l h) (omega (arith, is, big))
        (omega arith))
        (keeps_second r (collect k (middle l n) (n / 2) (second_holder (middle l n) h)) _
        (part_beside (middle l n) (n / 2) r (in_first l n r j e).1 _
        (collect_within k (middle l n) (n / 2) _ c.second)))
    half false e =
        keeps_second r (collect k l (n - n / 2) (first_holder (middle l n) l h)) _
        (part_beside l (n - n / 2) r (in_second l n r c.less j e).1 _ (collect_within k l (n - n / 2) _ c.first))
        ∙ part_append r (collect k (middle l n) (n / 2) (second_holder (middle l n) h)) _
        ∙ ap (λ (xs : List Act). part r xs ++ part r (joins h (other_holder (middle l n) l h)))
        (collect_enough k (n / 2) (middle l n) (n / 2) (second_holder (middle l n) h) (omega (arith, is, big))
        (omega arith))

-- a member begins with its own block
begins_part : (own : ℕ → Slot) (k l r : ℕ) → Inside l k r → part r (begins own l k) ≡ Copy (own r) (Kept 0) ∷ []
begins_part own zero l r i =
    let u : l ≤ r = i.0 in let w : r < l + 0 = i.1 in absurd (omega (arith, u, w))
begins_part own (suc k) l r i = go (λ j. begins_part own k (suc l) r j) (r == l) refl
  where
    u : l ≤ r
    u = i.0

    w : r < l + suc k
    w = i.1

    out : (k l r : ℕ) → r < l → part r (begins own l k) ≡ []
    out zero l r lt = refl
    out (suc k) l r lt =
        ap (λ (t : Bool). own_step t (Copy (own l) (Kept 0)) (part r (begins own (suc l) k)))
        (ne_eqb r l (λ (e : r ≡ l). omega (arith, lt, e))) ∙ out k (suc l) r (omega (arith, lt))

    go : (Inside (suc l) k r → part r (begins own (suc l) k) ≡ Copy (own r) (Kept 0) ∷ []) → (t : Bool) → (r == l) ≡ t →
        own_step t (Copy (own l) (Kept 0)) (part r (begins own (suc l) k)) ≡ Copy (own r) (Kept 0) ∷ []
    go ih true e =
        let is : r ≡ l = eqb-true r l e in
        ap₂ (λ (x : ℕ) (ss : List Step). Copy (own x) (Kept 0) ∷ ss) (sym is) (out k (suc l) r (omega (arith, is)))
    go ih false e = ih (above (nat_lt l r) refl, omega (arith, w))
      where
        above : (t : Bool) → nat_lt l r ≡ t → suc l ≤ r
        above true v = let z : l < r = ltb-true l r v in omega (arith, z)
        above false v = let z : r ≤ l = ltb-false l r v in absurd (eqb-false r l e (omega (arith, u, z)))

-- a member's part of a reduction, piece by piece
pub reducing_part : (n root r : ℕ) → r < n →
    tree_reduce n root r ≡
    Copy (Given 0) (Kept 0) ∷ (part r (collect n 0 n root) ++ part r (Copies root (Kept 0) (Got 0) ∷ []))
reducing_part n root r lt =
    part_append r (begins (λ x. Given 0) 0 n) _
    ∙ ap₂ (λ (ss us : List Step). ss ++ us)
    (begins_part (λ x. Given 0) n 0 r (omega arith, omega (arith, lt)))
    (part_append r (collect n 0 n root) (Copies root (Kept 0) (Got 0) ∷ []))

-- what the code adds in the half in which a member is
pub spread_first : (b : Slot) (l n h r : ℕ) (old : List Step) → 2 ≤ n → Inside l n h → Inside l n r →
    r < middle l n →
    (old ++ part r (Hands h b (other_holder (middle l n) l h) b ∷ [])) ++
    part r (spread (n - n / 2) b l (n - n / 2) (first_holder (middle l n) l h)) ≡ old ++ part r (spread n b l n h)
spread_first b l zero h r old big i j lt = absurd (omega (arith, big))
spread_first b l (suc k) h r old big i j lt =
    append_assoc old (part r (Hands h b (other_holder (middle l (suc k)) l h) b ∷ [])) _
    ∙ ap (λ (ss : List Step). old ++ ss) (sym (spread_cut k b l (suc k) h r refl big i j
    ∙ ap (λ (t : Bool). part r (Hands h b (other_holder (middle l (suc k)) l h) b ∷ []) ++
    (if t then part r (spread (suc k - suc k / 2) b l (suc k - suc k / 2) (first_holder (middle l (suc k)) l h))
    else part r (spread (suc k / 2) b (middle l (suc k)) (suc k / 2) (second_holder (middle l (suc k)) h))))
    (lt-ltb r (middle l (suc k)) lt)))

pub spread_second : (b : Slot) (l n h r : ℕ) (old : List Step) → 2 ≤ n → Inside l n h → Inside l n r →
    middle l n ≤ r →
    (old ++ part r (Hands h b (other_holder (middle l n) l h) b ∷ [])) ++
    part r (spread (n / 2) b (middle l n) (n / 2) (second_holder (middle l n) h)) ≡ old ++ part r (spread n b l n h)
spread_second b l zero h r old big i j le = absurd (omega (arith, big))
spread_second b l (suc k) h r old big i j le =
    append_assoc old (part r (Hands h b (other_holder (middle l (suc k)) l h) b ∷ [])) _
    ∙ ap (λ (ss : List Step). old ++ ss) (sym (spread_cut k b l (suc k) h r refl big i j
    ∙ ap (λ (t : Bool). part r (Hands h b (other_holder (middle l (suc k)) l h) b ∷ []) ++
    (if t then part r (spread (suc k - suc k / 2) b l (suc k - suc k / 2) (first_holder (middle l (suc k)) l h))
    else part r (spread (suc k / 2) b (middle l (suc k)) (suc k / 2) (second_holder (middle l (suc k)) h))))
    (le-ltb r (middle l (suc k)) le)))

pub collect_first : (l n h r : ℕ) (old : List Step) → 2 ≤ n → Inside l n h → Inside l n r → r < middle l n →
    (old ++ part r (collect (n - n / 2) l (n - n / 2) (first_holder (middle l n) l h))) ++
    part r (joins h (other_holder (middle l n) l h)) ≡ old ++ part r (collect n l n h)
collect_first l zero h r old big i j lt = absurd (omega (arith, big))
collect_first l (suc k) h r old big i j lt =
    append_assoc old (part r (collect (suc k - suc k / 2) l (suc k - suc k / 2)
    (first_holder (middle l (suc k)) l h))) _
    ∙ ap (λ (ss : List Step). old ++ ss) (sym (collect_cut k l (suc k) h r refl big i j
    ∙ ap (λ (t : Bool).
    (if t then part r (collect (suc k - suc k / 2) l (suc k - suc k / 2) (first_holder (middle l (suc k)) l h))
    else part r (collect (suc k / 2) (middle l (suc k)) (suc k / 2) (second_holder (middle l (suc k)) h))) ++
    part r (joins h (other_holder (middle l (suc k)) l h))) (lt-ltb r (middle l (suc k)) lt)))

pub collect_second : (l n h r : ℕ) (old : List Step) → 2 ≤ n → Inside l n h → Inside l n r → middle l n ≤ r →
    (old ++ part r (collect (n / 2) (middle l n) (n / 2) (second_holder (middle l n) h))) ++
    part r (joins h (other_holder (middle l n) l h)) ≡ old ++ part r (collect n l n h)
collect_second l zero h r old big i j le = absurd (omega (arith, big))
collect_second l (suc k) h r old big i j le =
    append_assoc old (part r (collect (suc k / 2) (middle l (suc k)) (suc k / 2)
    (second_holder (middle l (suc k)) h))) _
    ∙ ap (λ (ss : List Step). old ++ ss) (sym (collect_cut k l (suc k) h r refl big i j
    ∙ ap (λ (t : Bool).
    (if t then part r (collect (suc k - suc k / 2) l (suc k - suc k / 2) (first_holder (middle l (suc k)) l h))
    else part r (collect (suc k / 2) (middle l (suc k)) (suc k / 2) (second_holder (middle l (suc k)) h))) ++
    part r (joins h (other_holder (middle l (suc k)) l h))) (le-ltb r (middle l (suc k)) le)))

-- the pieces of a reduction, at the root and elsewhere
pub reducing_at_root : (n root r : ℕ) (old : List Step) → r < n → r ≡ root →
    ((old ++ Copy (Given 0) (Kept 0) ∷ []) ++ part r (collect n 0 n root)) ++ Copy (Kept 0) (Got 0) ∷ [] ≡
    old ++ tree_reduce n root r
reducing_at_root n root r old lt is =
    append_assoc (old ++ Copy (Given 0) (Kept 0) ∷ []) (part r (collect n 0 n root)) (Copy (Kept 0) (Got 0) ∷ [])
    ∙ append_assoc old (Copy (Given 0) (Kept 0) ∷ []) _
    ∙ ap (λ (ss : List Step). old ++ ss) (sym (reducing_part n root r lt
    ∙ ap (λ (t : Bool). Copy (Given 0) (Kept 0) ∷ (part r (collect n 0 n root) ++
    own_step t (Copy (Kept 0) (Got 0)) [])) (eq-eqb r root is)))

pub reducing_elsewhere : (n root r : ℕ) (old : List Step) → r < n → (r ≡ root → ⊥) →
    (old ++ Copy (Given 0) (Kept 0) ∷ []) ++ part r (collect n 0 n root) ≡ old ++ tree_reduce n root r
reducing_elsewhere n root r old lt apart =
    append_assoc old (Copy (Given 0) (Kept 0) ∷ []) (part r (collect n 0 n root))
    ∙ ap (λ (ss : List Step). old ++ ss) (sym (reducing_part n root r lt
    ∙ ap (λ (t : Bool). Copy (Given 0) (Kept 0) ∷ (part r (collect n 0 n root) ++
    own_step t (Copy (Kept 0) (Got 0)) [])) (ne_eqb r root apart)
    ∙ ap (λ (ss : List Step). Copy (Given 0) (Kept 0) ∷ ss) (append-nil (part r (collect n 0 n root)))))

-- the whole plan of an allreduce
pub allreduce_pieces : (n r : ℕ) →
    ([] ++ tree_reduce n 0 r) ++ part r (spread n (Got 0) 0 n 0) ≡ tree_allreduce n r
allreduce_pieces n r = sym (part_append r (reducing (λ x. Given 0) n 0) (spread n (Got 0) 0 n 0))
