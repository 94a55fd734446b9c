-- The laws of the binomial tree.
use Rattle.std.proofs.Common.{◌≡◌, ◌<◌, ◌≤◌, ℕ, zero, suc, ◌+◌, ◌-◌, ◌*◌, ◌%◌, ◌/◌, ◌==◌, ◌&&◌, Bool, true, false, List}
use Rattle.std.proofs.Common.{[], ◌∷◌, ◌++◌, length, take, drop, map, fold, nat_lt, if◌then◌else◌, refl, sym, ap, ◌∙◌}
use Rattle.std.proofs.Common.{subst, arith, ◌⊎◌, inl, inr, ⊎_elim, append_assoc, append-nil}
use Rattle.std.specs.List.{AllByRecursion}
use Rattle.std.proofs.lemmas.Bool.{and_parts, and_from, eqb-true, eq-eqb, ltb-true, lt-ltb, ltb-false}
use Rattle.std.proofs.lemmas.Nat.{mod-mul-add, div-add-mod'}
use Rattle.std.proofs.lemmas.List.{take_all, drop-drop}
use Rattle.binomial_trees.specs.Trees.{children, children_from, has_child, parent, parent_from, reach, reach_from}
use Rattle.binomial_trees.specs.Trees.{subtree, subtrees, rotate, rotate_back}
use Rattle.binomial_trees.specs.TreeLaws.{AreFilled, ChildrenAreFew, ChildrenHaveTheirParent, ChildrenPartition}
use Rattle.binomial_trees.specs.TreeLaws.{FoldsGoByPieces, IsChildOf, IsOneOf, ParentsHaveTheirChild, SubtreesFold}
use Rattle.binomial_trees.specs.TreeLaws.{TopStandsAboveAll, PlacesTurn, doubled, joined, left_fold}

-- DOUBLING

doubled_twice : (k d : ℕ) → doubled k (d + d) ≡ doubled k d + doubled k d
doubled_twice zero d = refl
doubled_twice (suc k) d = doubled_twice k (d + d)

doubled_more : (k d : ℕ) → 0 < d → d + k ≤ doubled k d
doubled_more zero d lt = omega arith
doubled_more (suc k) d lt =
    let r : (d + d) + k ≤ doubled k (d + d) = doubled_more k (d + d) (omega (arith, lt)) in omega (arith, r, lt)

-- a double is so many times what was doubled
doubled_times : (k d : ℕ) → (m : ℕ) × (doubled k d ≡ m * d)
doubled_times zero d = (1, omega arith)
doubled_times (suc k) d =
    let r = doubled_times k (d + d) in let e : doubled k (d + d) ≡ r.0 * (d + d) = r.1 in (r.0 + r.0, omega (arith, e))

-- how a number stands that a double divides
no_rest : (q d : ℕ) → 0 < d → (q * d) % d ≡ 0
no_rest q d lt = ap (λ (x : ℕ). x % d) (omega arith) ∙ mod-mul-add q d 0 lt

rest_is : (q d : ℕ) → 0 < d → (q * (d + d) + d) % (d + d) ≡ d
rest_is q d lt = mod-mul-add q (d + d) d (omega (arith, lt))

whole_of : (v d : ℕ) → v % d ≡ 0 → v ≡ (v / d) * d
whole_of v d h = let e : v / d * d + v % d ≡ v = div-add-mod' v d in omega (arith, e, h)

-- A NUMBER WHOSE LOWEST DIGIT 1 STANDS AT A DOUBLE

-- q times twice a double and the double itself
abbrev EndsAt : (w k d : ℕ) → (q : ℕ) → Type 0
EndsAt w k d q = w ≡ q * (doubled k d + doubled k d) + doubled k d

ends_there : (w d q : ℕ) → 0 < d → EndsAt w zero d q → (w % (d + d) == 0) ≡ false
ends_there w d q lt h = go (w % (d + d) == 0) refl
  where
    rest : w % (d + d) ≡ d
    rest = ap (λ (x : ℕ). x % (d + d)) h ∙ rest_is q d lt

    go : (t : Bool) → (w % (d + d) == 0) ≡ t → (w % (d + d) == 0) ≡ false
    go false e = e
    go true e = let z : w % (d + d) ≡ 0 = eqb-true (w % (d + d)) 0 e in absurd (omega (arith, lt, z, rest))

ends_later : (w k d q : ℕ) → 0 < d → EndsAt w (suc k) d q → (w % (d + d) == 0) ≡ true
ends_later w k d q lt h =
    eq-eqb (w % (d + d)) 0 (ap (λ (x : ℕ). x % (d + d)) is ∙
    no_rest (q * (t.0 + t.0) + t.0) (d + d) (omega (arith, lt)))
  where
    t : (m : ℕ) × (doubled k (d + d) ≡ m * (d + d))
    t = doubled_times k (d + d)

    is : w ≡ (q * (t.0 + t.0) + t.0) * (d + d)
    is = let e : doubled k (d + d) ≡ t.0 * (d + d) = t.1 in h ∙ (ap (λ (x : ℕ). q * (x + x) + x) e ∙ omega arith)

-- its children end at the double, or behind the last position
Reaches : (n w r m : ℕ) → Type 0
Reaches n w r m = (r ≡ m) ⊎ ((n ≤ w + r) × (n ≤ w + m))

reach_ends : (k levels d n w q : ℕ) → 0 < d → k < levels → EndsAt w k d q → (reach_from levels d n w ≡ doubled k d) ⊎
    ((n ≤ w + reach_from levels d n w) × (n ≤ w + doubled k d))
reach_ends k zero d n w q lt le h = absurd (omega (arith, le))
reach_ends zero (suc levels) d n w q lt le h =
    inl (ap (λ (t : Bool). if t && nat_lt (w + d) n then reach_from levels (d + d) n w else d) (ends_there w d q lt h))
reach_ends (suc k) (suc levels) d n w q lt le h =
    go (nat_lt (w + d) n) refl (reach_ends k levels (d + d) n w q (omega (arith, lt)) (omega (arith, le)) h)
  where
    more : d + suc k ≤ doubled (suc k) d
    more = doubled_more (suc k) d lt

    step : (w % (d + d) == 0) ≡ true
    step = ends_later w k d q lt h

    go : (t : Bool) → nat_lt (w + d) n ≡ t → (reach_from levels (d + d) n w ≡ doubled k (d + d)) ⊎
        ((n ≤ w + reach_from levels (d + d) n w) × (n ≤ w + doubled k (d + d))) →
        ((if (w % (d + d) == 0) && t then reach_from levels (d + d) n w else d) ≡ doubled k (d + d)) ⊎
        ((n ≤ w + (if (w % (d + d) == 0) && t then reach_from levels (d + d) n w else d)) × (n ≤ w + doubled k (d + d)))
    go true e rest =
        subst (λ (b : Bool). ((if b && true then reach_from levels (d + d) n w else d) ≡ doubled k (d + d)) ⊎
        ((n ≤ w + (if b && true then reach_from levels (d + d) n w else d)) × (n ≤ w + doubled k (d + d))))
        (sym step) rest
    go false e rest =
        let far : n ≤ w + d = ltb-false (w + d) n e in
        subst (λ (b : Bool). ((if b && false then reach_from levels (d + d) n w else d) ≡ doubled k (d + d)) ⊎
        ((n ≤ w + (if b && false then reach_from levels (d + d) n w else d)) × (n ≤ w + doubled k (d + d))))
        (sym step) (inr (far, omega (arith, far, more)))

-- its parent is it without the double
parent_ends : (k levels d w q : ℕ) → 0 < d → k < levels → EndsAt w k d q → parent_from levels d w ≡ w - doubled k d
parent_ends k zero d w q lt le h = absurd (omega (arith, le))
parent_ends zero (suc levels) d w q lt le h =
    ap (λ (t : Bool). if t then parent_from levels (d + d) w else w - d) (ends_there w d q lt h)
parent_ends (suc k) (suc levels) d w q lt le h =
    ap (λ (t : Bool). if t then parent_from levels (d + d) w else w - d) (ends_later w k d q lt h) ∙
    parent_ends k levels (d + d) w q (omega (arith, lt)) (omega (arith, le)) h

-- THE SUBTREE OF A CHILD

-- what stands before so many
take_both : {A : Type 0} (a b : ℕ) (xs : List A) → take a xs ++ take b (drop a xs) ≡ take (a + b) xs
take_both zero b xs = let e : b ≡ 0 + b = omega arith in ap (λ (x : ℕ). take x xs) e
take_both {A = A} (suc a) b [] = go b
  where
    go : (b : ℕ) → ◌≡◌ {A = List A} (take b []) (take (suc a + b) [])
    go zero = sym (take_all (suc a + 0) [] (omega arith))
    go (suc b) = sym (take_all (suc a + suc b) [] (omega arith))
take_both {A = A} (suc a) b (x ∷ xs) = ap (λ (ys : List A). x ∷ ys) (take_both a b xs) ∙
    (let e : suc (a + b) ≡ suc a + b = omega arith in ap (λ (y : ℕ). take y (x ∷ xs)) e)

length_drop : {A : Type 0} (a : ℕ) (xs : List A) → length (drop a xs) ≡ length xs - a
length_drop zero xs = omega arith
length_drop (suc a) [] = omega arith
length_drop (suc a) (x ∷ xs) = let r : length (drop a xs) ≡ length xs - a = length_drop a xs in omega (arith, r)

take_past : {A : Type 0} (r m w : ℕ) (xs : List A) → length xs ≤ w + r → length xs ≤ w + m →
    take r (drop w xs) ≡ take m (drop w xs)
take_past r m w xs a b =
    let l : length (drop w xs) ≡ length xs - w = length_drop w xs in
    take_all r (drop w xs) (omega (arith, a, l)) ∙ sym (take_all m (drop w xs) (omega (arith, b, l)))

child_reaches : (i d n v : ℕ) → d ≡ doubled i 1 → v % (d + d) ≡ 0 → v + d < n →
    (reach n (v + d) ≡ d) ⊎ ((n ≤ v + d + reach n (v + d)) × (n ≤ v + d + d))
child_reaches i d n v di div lt =
    subst (λ (x : ℕ). (reach n (v + d) ≡ x) ⊎ ((n ≤ v + d + reach n (v + d)) × (n ≤ v + d + x))) (sym di)
    (reach_ends i n 1 n (v + d) (v / (d + d)) (omega arith)
    (let m : 1 + i ≤ doubled i 1 = doubled_more i 1 (omega arith) in omega (arith, m, di, lt)) ends)
  where
    ends : EndsAt (v + d) i 1 (v / (d + d))
    ends = subst (λ (x : ℕ). v + d ≡ (v / (d + d)) * (x + x) + x) di
        (let w : v ≡ (v / (d + d)) * (d + d) = whole_of v (d + d) div in omega (arith, w))

child_subtree : {A : Type 0} (i d v : ℕ) (xs : List A) → d ≡ doubled i 1 → v % (d + d) ≡ 0 → v + d < length xs →
    subtree (length xs) xs (v + d) ≡ take d (drop (v + d) xs)
child_subtree i d v xs di div lt =
    ⊎_elim (λ e. ap (λ (r : ℕ). take r (drop (v + d) xs)) e)
    (λ e. take_past (reach (length xs) (v + d)) d (v + d) xs e.0 e.1) (child_reaches i d (length xs) v di div lt)

-- what the test of a child says
pub child_test : (n v d : ℕ) → has_child n v d ≡ true → (v % (d + d) ≡ 0) × (v + d < n)
child_test n v d h =
    let p = and_parts (v % (d + d) == 0) (nat_lt (v + d) n) h in (eqb-true (v % (d + d)) 0 p.0, ltb-true (v + d) n p.1)

parts_from : {A : Type 0} (levels i d v : ℕ) (xs : List A) → d ≡ doubled i 1 →
    take d (drop v xs) ++ joined (subtrees (length xs) xs (children_from levels d (length xs) v)) ≡
    take (reach_from levels d (length xs) v) (drop v xs)
parts_from zero i d v xs di = append-nil (take d (drop v xs))
parts_from {A = A} (suc levels) i d v xs di =
    go (has_child (length xs) v d) refl
    (parts_from levels (suc i) (d + d) v xs (ap (λ (x : ℕ). x + x) di ∙ sym (doubled_twice i 1)))
  where
    go : (t : Bool) → has_child (length xs) v d ≡ t →
        take (d + d) (drop v xs) ++ joined (subtrees (length xs) xs (children_from levels (d + d) (length xs) v)) ≡
        take (reach_from levels (d + d) (length xs) v) (drop v xs) →
        take d (drop v xs) ++
        joined (subtrees (length xs) xs (if t then (v + d) ∷ children_from levels (d + d) (length xs) v else [])) ≡
        take (if t then reach_from levels (d + d) (length xs) v else d) (drop v xs)
    go false h rest = append-nil (take d (drop v xs))
    go true h rest =
        let p = child_test (length xs) v d h in
        sym (append_assoc (take d (drop v xs)) (subtree (length xs) xs (v + d))
        (joined (subtrees (length xs) xs (children_from levels (d + d) (length xs) v))))
        ∙ (ap (λ (ys : List A). ys ++ joined (subtrees (length xs) xs (children_from levels (d + d) (length xs) v)))
        (ap (λ (ys : List A). take d (drop v xs) ++ ys) (child_subtree i d v xs di p.0 p.1 ∙
        ap (λ (ys : List A). take d ys) (sym (drop-drop d v xs))) ∙ take_both d d (drop v xs))
        ∙ rest)

pub children_partition : (A : Type 0) → ChildrenPartition A
children_partition A xs v lt = sym (parts_from (length xs) 0 1 v xs refl)

-- PARENTS AND CHILDREN

pub all_parents : (levels i d n v : ℕ) → d ≡ doubled i 1 → AllByRecursion (IsChildOf n v) (children_from levels d n v)
all_parents zero i d n v di = tt
all_parents (suc levels) i d n v di =
    go (has_child n v d) refl
    (all_parents levels (suc i) (d + d) n v (ap (λ (x : ℕ). x + x) di ∙ sym (doubled_twice i 1)))
  where
    more : 1 + i ≤ doubled i 1
    more = doubled_more i 1 (omega arith)

    go : (t : Bool) → has_child n v d ≡ t → AllByRecursion (IsChildOf n v) (children_from levels (d + d) n v) →
        AllByRecursion (IsChildOf n v) (if t then (v + d) ∷ children_from levels (d + d) n v else [])
    go false h rest = tt
    go true h rest =
        let p = child_test n v d h in
        let w : v ≡ (v / (d + d)) * (d + d) = whole_of v (d + d) p.0 in
        let ends : EndsAt (v + d) i 1 (v / (d + d)) = subst (λ (x : ℕ). v + d ≡ (v / (d + d)) * (x + x) + x) di (omega (arith, w)) in
        let e : parent (v + d) ≡ v + d - doubled i 1 = parent_ends i (v + d) 1 (v + d) (v / (d + d)) (omega arith) (omega (arith, more, di)) ends in
        ((omega (arith, more, di), p.1, omega (arith, e, di)), rest)

pub children_have_their_parent : ChildrenHaveTheirParent
children_have_their_parent n v = all_parents n 0 1 n v refl

-- the lowest digit 1 of a number that a distance divides
record Lowest (w d : ℕ) : Type 0 where
  pub times : ℕ
  pub whole : ℕ
  pub ends : EndsAt w times d whole

lowest : (levels d w : ℕ) → 0 < d → w % d ≡ 0 → 0 < w → w < doubled levels d → Lowest w d
lowest zero d w ld div lw lt = absurd (let e : w ≡ (w / d) * d = whole_of w d div in none (w / d) e)
  where
    none : (q : ℕ) → w ≡ q * d → ⊥
    none zero e = absurd (omega (arith, e, lw))
    none (suc q) e = absurd (let m : w ≡ q * d + d = e ∙ omega arith in omega (arith, m, lt))
lowest (suc levels) d w ld div lw lt =
    go (w % (d + d) == 0) refl (λ z. lowest levels (d + d) w (omega (arith, ld)) z lw lt)
  where
    go : (t : Bool) → (w % (d + d) == 0) ≡ t → (w % (d + d) ≡ 0 → Lowest w (d + d)) → Lowest w d
    go true h later =
        let r = later (eqb-true (w % (d + d)) 0 h) in record { times = suc r.times; whole = r.whole; ends = r.ends }
    go false h later = half (w / d) (whole_of w d div)
      where
        -- an even number of times is none: the double would divide it
        half : (q : ℕ) → w ≡ q * d → Lowest w d
        half q e = by (q % 2) (q / 2) (div-add-mod' q 2) refl
          where
            by : (r h2 : ℕ) → h2 * 2 + q % 2 ≡ q → q % 2 ≡ r → Lowest w d
            by zero h2 s z =
                absurd (even h2 (e ∙ (ap (λ (x : ℕ). x * d) (sym s ∙ ap (λ (x : ℕ). h2 * 2 + x) z) ∙ omega arith)))
              where
                even : (h2 : ℕ) → w ≡ h2 * (d + d) → ⊥
                even h2 k =
                    let z2 : w % (d + d) ≡ 0 = ap (λ (x : ℕ). x % (d + d)) k ∙ no_rest h2 (d + d) (omega (arith, ld)) in
                    clash (sym h ∙ eq-eqb (w % (d + d)) 0 z2)
                  where
                    clash : false ≡ true → ⊥
                    clash x = absurd (grind arith)
            by (suc zero) h2 s z =
                record {
                  times = 0;
                  whole = h2;
                  ends =
                      e ∙ (ap (λ (x : ℕ). x * d) (sym s ∙ ap (λ (x : ℕ). h2 * 2 + x) z) ∙ omega arith);
                }
            by (suc (suc r)) h2 s z = absurd (omega (arith, z))

-- a child that there is, is among the children
among_children : (k levels d n u q : ℕ) → 0 < d → k < levels → u ≡ q * (doubled k d + doubled k d) →
    u + doubled k d < n → IsOneOf (u + doubled k d) (children_from levels d n u)
among_children k zero d n u q ld le h lt = absurd (omega (arith, le))
among_children zero (suc levels) d n u q ld le h lt =
    subst (λ (t : Bool). IsOneOf (u + d) (if t then (u + d) ∷ children_from levels (d + d) n u else [])) (sym test)
    (inl refl)
  where
    test : has_child n u d ≡ true
    test = and_from (u % (d + d) == 0) (nat_lt (u + d) n)
        (eq-eqb (u % (d + d)) 0 (ap (λ (x : ℕ). x % (d + d)) h ∙ no_rest q (d + d) (omega (arith, ld))))
        (lt-ltb (u + d) n lt)
among_children (suc k) (suc levels) d n u q ld le h lt =
    subst (λ (t : Bool). IsOneOf (u + doubled k (d + d)) (if t then (u + d) ∷ children_from levels (d + d) n u else []))
    (sym test) (inr (among_children k levels (d + d) n u q (omega (arith, ld)) (omega (arith, le)) h lt))
  where
    t : (m : ℕ) × (doubled k (d + d) ≡ m * (d + d))
    t = doubled_times k (d + d)

    is : u ≡ (q * (t.0 + t.0)) * (d + d)
    is = let e : doubled k (d + d) ≡ t.0 * (d + d) = t.1 in h ∙ (ap (λ (x : ℕ). q * (x + x)) e ∙ omega arith)

    more : (d + d) + k ≤ doubled k (d + d)
    more = doubled_more k (d + d) (omega (arith, ld))

    test : has_child n u d ≡ true
    test = and_from (u % (d + d) == 0) (nat_lt (u + d) n)
        (eq-eqb (u % (d + d)) 0 (ap (λ (x : ℕ). x % (d + d)) is ∙
        no_rest (q * (t.0 + t.0)) (d + d) (omega (arith, ld)))) (lt-ltb (u + d) n (omega (arith, lt, more)))

pub parents_have_their_child : ParentsHaveTheirChild
parents_have_their_child n v pos lt =
    (omega (arith, is, more, ends), subst (λ (x : ℕ). IsOneOf x (children n (parent v))) back inside)
  where
    low : Lowest v 1
    low = lowest v 1 v (omega arith) (ap (λ (x : ℕ). x % 1) (omega arith) ∙ no_rest v 1 (omega arith)) pos
        (let m : 1 + v ≤ doubled v 1 = doubled_more v 1 (omega arith) in omega (arith, m))

    more : 1 + low.times ≤ doubled low.times 1
    more = doubled_more low.times 1 (omega arith)

    ends : v ≡ low.whole * (doubled low.times 1 + doubled low.times 1) + doubled low.times 1
    ends = low.ends

    is : parent v ≡ v - doubled low.times 1
    is = parent_ends low.times v 1 v low.whole (omega arith) (omega (arith, more, ends)) low.ends

    up : parent v ≡ low.whole * (doubled low.times 1 + doubled low.times 1)
    up = omega (arith, is, ends)

    back : parent v + doubled low.times 1 ≡ v
    back = omega (arith, up, ends)

    inside : IsOneOf (parent v + doubled low.times 1) (children n (parent v))
    inside = among_children low.times n 1 n (parent v) low.whole (omega arith) (omega (arith, more, back, lt)) up
        (omega (arith, back, lt))

-- THE TOP

top_reaches : (levels i d n : ℕ) → d ≡ doubled i 1 → n ≤ levels + i → n ≤ reach_from levels d n 0
top_reaches zero i d n di le = let m : 1 + i ≤ doubled i 1 = doubled_more i 1 (omega arith) in omega (arith, m, di, le)
top_reaches (suc levels) i d n di le =
    go (has_child n 0 d) refl (top_reaches levels (suc i) (d + d) n (ap (λ (x : ℕ). x + x) di ∙ sym (doubled_twice i 1))
    (omega (arith, le)))
  where
    ld : 1 + i ≤ doubled i 1
    ld = doubled_more i 1 (omega arith)

    go : (t : Bool) → has_child n 0 d ≡ t → n ≤ reach_from levels (d + d) n 0 →
        n ≤ (if t then reach_from levels (d + d) n 0 else d)
    go true h rest = rest
    go false h rest = far (nat_lt (0 + d) n) refl
      where
        far : (t : Bool) → nat_lt (0 + d) n ≡ t → n ≤ d
        far false e = let z : n ≤ 0 + d = ltb-false (0 + d) n e in omega (arith, z)
        far true e =
            absurd (clash
            (sym h ∙ and_from (0 % (d + d) == 0) (nat_lt (0 + d) n)
            (eq-eqb (0 % (d + d)) 0 (ap (λ (x : ℕ). x % (d + d)) (omega arith) ∙
            no_rest 0 (d + d) (omega (arith, ld, di)))) e))
          where
            clash : false ≡ true → ⊥
            clash x = absurd (grind arith)

pub top_stands_above_all : (A : Type 0) → TopStandsAboveAll A
top_stands_above_all A xs =
    take_all (reach (length xs) 0) xs (top_reaches (length xs) 0 1 (length xs) refl (omega arith))

-- FEW CHILDREN

few_from : (levels d n v : ℕ) → d < n + n → doubled (length (children_from levels d n v)) d < n + n
few_from zero d n v lt = lt
few_from (suc levels) d n v lt = go (has_child n v d) refl (few_from levels (d + d) n v)
  where
    go : (t : Bool) → has_child n v d ≡ t →
        (d + d < n + n → doubled (length (children_from levels (d + d) n v)) (d + d) < n + n) →
        doubled (length (if t then (v + d) ∷ children_from levels (d + d) n v else [])) d < n + n
    go false h rest = lt
    go true h rest = let p = child_test n v d h in let q : v + d < n = p.1 in rest (omega (arith, q))

pub children_are_few : ChildrenAreFew
children_are_few n v lt = few_from n 1 n v (omega (arith, lt))

-- FOLDS

fold_on : {A : Type 0} (f : A → A → A) (a : A) (xs ys : List A) → fold f a (xs ++ ys) ≡ fold f (fold f a xs) ys
fold_on f a [] ys = refl
fold_on f a (x ∷ xs) ys = fold_on f (f a x) xs ys

-- a value in front goes into an associative fold from the left
fold_in : {A : Type 0} (f : A → A → A) → ((a b c : A) → f (f a b) c ≡ f a (f b c)) → (a y : A) (ys : List A) →
    fold f (f a y) ys ≡ f a (fold f y ys)
fold_in f assoc a y [] = refl
fold_in {A = A} f assoc a y (z ∷ ys) = ap (λ (x : A). fold f x ys) (assoc a y z) ∙ fold_in f assoc a (f y z) ys

pieces_from : {A : Type 0} (f : A → A → A) (d a : A) (pieces : List (List A)) →
    ((a b c : A) → f (f a b) c ≡ f a (f b c)) → AreFilled pieces →
    fold f a (joined pieces) ≡ fold f a (map (left_fold f d) pieces)
pieces_from f d a [] assoc fill = refl
pieces_from f d a ([] ∷ pieces) assoc fill = absurd (let z : 0 < 0 = fill.0 in omega (arith, z))
pieces_from {A = A} f d a ((x ∷ xs) ∷ pieces) assoc fill =
    fold_on f (f a x) xs (joined pieces) ∙
    (ap (λ (y : A). fold f y (joined pieces)) (fold_in f assoc a x xs) ∙
    pieces_from f d (f a (fold f x xs)) pieces assoc fill.1)

pub folds_go_by_pieces : (A : Type 0) → FoldsGoByPieces A
folds_go_by_pieces A f d [] assoc fill = refl
folds_go_by_pieces A f d ([] ∷ pieces) assoc fill = absurd (let z : 0 < 0 = fill.0 in omega (arith, z))
folds_go_by_pieces A f d ((x ∷ xs) ∷ pieces) assoc fill = fold_on f x xs (joined pieces) ∙
    pieces_from f d (fold f x xs) pieces assoc fill.1

-- what stands from a place on that is there
drop_there : {A : Type 0} (v : ℕ) (xs : List A) → v < length xs → (y : A) × (ys : List A) × (drop v xs ≡ y ∷ ys)
drop_there zero [] lt = absurd (omega (arith, lt))
drop_there zero (x ∷ xs) lt = (x, xs, refl)
drop_there (suc v) [] lt = absurd (omega (arith, lt))
drop_there (suc v) (x ∷ xs) lt = drop_there v xs (omega (arith, lt))

reach_some : (levels d n v : ℕ) → 0 < d → 0 < reach_from levels d n v
reach_some zero d n v ld = ld
reach_some (suc levels) d n v ld = go (has_child n v d) (reach_some levels (d + d) n v (omega (arith, ld)))
  where
    go : (t : Bool) → 0 < reach_from levels (d + d) n v → 0 < (if t then reach_from levels (d + d) n v else d)
    go true r = r
    go false r = ld

pub subtree_filled : {A : Type 0} (xs : List A) (v : ℕ) → v < length xs → 0 < length (subtree (length xs) xs v)
subtree_filled {A = A} xs v lt = go (reach (length xs) v) (reach_some (length xs) 1 (length xs) v (omega arith))
  where
    go : (r : ℕ) → 0 < r → 0 < length (take r (drop v xs))
    go zero lr = absurd (omega (arith, lr))
    go (suc r) lr =
        let t = drop_there v xs lt in subst (λ (ys : List A). 0 < length (take (suc r) ys)) (sym t.2) (omega arith)

filled : {A : Type 0} (xs : List A) (v : ℕ) (cs : List ℕ) → AllByRecursion (IsChildOf (length xs) v) cs →
    AreFilled (subtrees (length xs) xs cs)
filled xs v [] a = tt
filled xs v (c ∷ cs) a = (subtree_filled xs c a.0.1, filled xs v cs a.1)

pub subtrees_fold : (A : Type 0) → SubtreesFold A
subtrees_fold A f d xs v assoc lt =
    ap (left_fold f d) (children_partition A xs v lt)
    ∙ (subst (λ (ys : List A). left_fold f d (take 1 ys ++ joined below) ≡
    left_fold f d (take 1 ys ++ map (left_fold f d) below)) (sym t.2)
    (pieces_from f d t.0 below assoc
    (filled xs v (children (length xs) v) (children_have_their_parent (length xs) v))))
  where
    below : List (List A)
    below = subtrees (length xs) xs (children (length xs) v)

    t : (y : A) × (ys : List A) × (drop v xs ≡ y ∷ ys)
    t = drop_there v xs lt

-- TURNING

pub places_turn : PlacesTurn
places_turn top n lt = record {
  modulo = modulo;
  below = below;
  back = back;
  there = there;
  again = again;
  first =
      first;
}
  where
    modulo : (i : ℕ) → i < n → rotate top n i ≡ (i + (n - top)) % n
    modulo i li = go (nat_lt i top) refl
      where
        go : (t : Bool) → nat_lt i top ≡ t → (if t then i + n - top else i - top) ≡ (i + (n - top)) % n
        go true h =
            let a : i < top = ltb-true i top h in
            let e : i + n - top ≡ i + (n - top) = omega (arith, lt) in
            e ∙ sym (ap (λ (x : ℕ). x % n) (omega arith) ∙ mod-mul-add 0 n (i + (n - top)) (omega (arith, a, lt)))
        go false h =
            let a : top ≤ i = ltb-false i top h in
            let e : i + (n - top) ≡ 1 * n + (i - top) = omega (arith, a, lt) in
            sym (ap (λ (x : ℕ). x % n) e ∙ mod-mul-add 1 n (i - top) (omega (arith, a, li)))

    below : (i : ℕ) → i < n → rotate top n i < n
    below i li = go (nat_lt i top) refl
      where
        go : (t : Bool) → nat_lt i top ≡ t → (if t then i + n - top else i - top) < n
        go true h = let a : i < top = ltb-true i top h in omega (arith, a, lt)
        go false h = let a : top ≤ i = ltb-false i top h in omega (arith, a, li)

    back : (i : ℕ) → i < n → rotate_back top n (rotate top n i) ≡ i
    back i li = go (nat_lt i top) refl
      where
        go : (t : Bool) → nat_lt i top ≡ t → rotate_back top n (if t then i + n - top else i - top) ≡ i
        go true h = far (nat_lt (i + n - top + top) n) refl
          where
            a : i < top
            a = ltb-true i top h

            far : (t : Bool) → nat_lt (i + n - top + top) n ≡ t →
                (if t then i + n - top + top else i + n - top + top - n) ≡ i
            far true q =
                absurd (let z : i + n - top + top < n = ltb-true (i + n - top + top) n q in omega (arith, z, lt))
            far false q = omega (arith, a, lt)
        go false h = near_by (nat_lt (i - top + top) n) refl
          where
            a : top ≤ i
            a = ltb-false i top h

            near_by : (t : Bool) → nat_lt (i - top + top) n ≡ t → (if t then i - top + top else i - top + top - n) ≡ i
            near_by true q = omega (arith, a)
            near_by false q =
                absurd (let z : n ≤ i - top + top = ltb-false (i - top + top) n q in omega (arith, z, a, li))

    there : (v : ℕ) → v < n → rotate_back top n v < n
    there v lv = go (nat_lt (v + top) n) refl
      where
        go : (t : Bool) → nat_lt (v + top) n ≡ t → (if t then v + top else v + top - n) < n
        go true h = ltb-true (v + top) n h
        go false h = let a : n ≤ v + top = ltb-false (v + top) n h in omega (arith, a, lv, lt)

    again : (v : ℕ) → v < n → rotate top n (rotate_back top n v) ≡ v
    again v lv = go (nat_lt (v + top) n) refl
      where
        go : (t : Bool) → nat_lt (v + top) n ≡ t → rotate top n (if t then v + top else v + top - n) ≡ v
        go true h = at (nat_lt (v + top) top) refl
          where
            at : (t : Bool) → nat_lt (v + top) top ≡ t → (if t then v + top + n - top else v + top - top) ≡ v
            at true q = absurd (let z : v + top < top = ltb-true (v + top) top q in omega (arith, z))
            at false q = omega arith
        go false h = at (nat_lt (v + top - n) top) refl
          where
            a : n ≤ v + top
            a = ltb-false (v + top) n h

            at : (t : Bool) → nat_lt (v + top - n) top ≡ t → (if t then v + top - n + n - top else v + top - n - top) ≡
                v
            at true q = omega (arith, a)
            at false q =
                absurd (let z : top ≤ v + top - n = ltb-false (v + top - n) top q in omega (arith, z, lv, lt, a))

    first : (i : ℕ) → i < n → rotate top n i ≡ 0 → i ≡ top
    first i li = go (nat_lt i top) refl
      where
        go : (t : Bool) → nat_lt i top ≡ t → (if t then i + n - top else i - top) ≡ 0 → i ≡ top
        go true h z = absurd (omega (arith, z, lt))
        go false h z = let a : top ≤ i = ltb-false i top h in omega (arith, a, z)
