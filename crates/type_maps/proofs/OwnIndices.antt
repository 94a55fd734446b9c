-- Which indices a process has: a block in each round of the processes, and what is left of one.
use Rattle.std.proofs.Common.{◌≡◌, ◌≢◌, ℕ, zero, suc, ◌+◌, ◌-◌, ◌*◌, ◌/◌, ◌%◌, ◌==◌, ◌<◌, ◌≤◌, min, refl, sym, ◌∙◌}
use Rattle.std.proofs.Common.{ap, subst, Bool, true, false, cond, ◌⊎◌, inl, inr, List, [], ◌∷◌, ◌++◌, filter}
use Rattle.std.proofs.Common.{append_assoc, arith, eq-eqb}
use Rattle.std.specs.List.{range_with_len}
use Rattle.std.proofs.lemmas.List.{append-nil}
use Rattle.std.proofs.lemmas.Nat.{div-mul-add, mod-mul-add, div-add-mod', mod_below, div_below, le-div}
use Rattle.std.proofs.lemmas.Bool.{cases_lt}
use Rattle.type_maps.specs.declared.blocks.Distribution.{Distribution}
use Rattle.type_maps.specs.Constructors.{is_own, own_indices}
use Rattle.type_maps.specs.Distributions.{OwnIndicesAreBlocks, blocks_from}

-- ---- ranges, cut and filtered

plus_zero : (a : ℕ) → a + 0 ≡ a
plus_zero a = omega arith

zero_plus : (a : ℕ) → 0 + a ≡ a
zero_plus a = omega arith

suc_plus : (m n : ℕ) → suc m + n ≡ suc (m + n)
suc_plus m n = omega arith

along : (a m : ℕ) → a + suc m ≡ a + 1 + m
along a m = omega arith

some : (n : ℕ) → 0 < suc n
some n = omega arith

below_suc : (y n : ℕ) → y < n → suc y < suc n
below_suc y n h = omega arith

range_append : (a m n : ℕ) → range_with_len a (m + n) ≡ range_with_len a m ++ range_with_len (a + m) n
range_append a zero n = (λ t. range_with_len a (zero_plus n t)) ∙ (λ t. range_with_len (sym (plus_zero a) t) n)
range_append a (suc m) n =
    ap (range_with_len a) (suc_plus m n) ∙ (λ t. a ∷ range_append (a + 1) m n t) ∙
    (λ t. a ∷ (range_with_len (a + 1) m ++ range_with_len (sym (along a m) t) n))

one_of : (t : Bool) (x : ℕ) (xs ys zs : List ℕ) → zs ≡ xs ++ ys → cond t (x ∷ zs) zs ≡ cond t (x ∷ xs) xs ++ ys
one_of true x xs ys zs e = ap (λ ws. x ∷ ws) e
one_of false x xs ys zs e = e

filter_append : (p : ℕ → Bool) (xs ys : List ℕ) → filter p (xs ++ ys) ≡ filter p xs ++ filter p ys
filter_append p [] ys = refl
filter_append p (x ∷ xs) ys = one_of (p x) x (filter p xs) (filter p ys) (filter p (xs ++ ys)) (filter_append p xs ys)

all_pass : (p : ℕ → Bool) (a n : ℕ) → ((y : ℕ) → y < n → p (a + y) ≡ true) → filter p (range_with_len a n) ≡
    range_with_len a n
all_pass p a zero h = refl
all_pass p a (suc n) h =
    ap (λ t. cond t (a ∷ filter p (range_with_len (a + 1) n)) (filter p (range_with_len (a + 1) n)))
    (subst (λ (i : ℕ). p i ≡ true) (plus_zero a) (h 0 (some n))) ∙
    ap (λ xs. a ∷ xs) (all_pass p (a + 1) n (λ y less. subst (λ (i : ℕ). p i ≡ true) (along a y)
    (h (suc y) (below_suc y n less))))

none_pass : (p : ℕ → Bool) (a n : ℕ) → ((y : ℕ) → y < n → p (a + y) ≡ false) → filter p (range_with_len a n) ≡ []
none_pass p a zero h = refl
none_pass p a (suc n) h =
    ap (λ t. cond t (a ∷ filter p (range_with_len (a + 1) n)) (filter p (range_with_len (a + 1) n)))
    (subst (λ (i : ℕ). p i ≡ false) (plus_zero a) (h 0 (some n))) ∙
    none_pass p (a + 1) n (λ y less. subst (λ (i : ℕ). p i ≡ false) (along a y) (h (suc y) (below_suc y n less)))

-- ---- one round

-- index z of block r of round c is the process r's
own_at : (P q B c r z : ℕ) → z < B → r < P → (((c * P + r) * B + z) / B) % P == q ≡ (r == q)
own_at P q B c r z zb rp = ap (λ i. i % P == q) (div-mul-add (c * P + r) B z zb) ∙ ap (λ i. i == q)
    (mod-mul-add c P r rp)

abbrev own : ℕ → ℕ → ℕ → ℕ → Bool
own P q B i = (i / B) % P == q

-- an index within a round, by its block
index_of : (c P B y : ℕ) → 0 < B → c * (P * B) + y ≡ (c * P + y / B) * B + y % B
index_of c P B y some = let h = div-add-mod' y B in grind (arith, h)

not_equal : (a b : ℕ) → a ≢ b → (a == b) ≡ false
not_equal a b h = grind (arith, h)

in_block : (P q B c y : ℕ) → y < B → q < P → own P q B (c * (P * B) + q * B + y) ≡ true
in_block P q B c y yb qp =
    ap (own P q B) (same c P B q y) ∙ own_at P q B c q y yb qp ∙ eq-eqb q q refl
  where
    same : (c P B q y : ℕ) → c * (P * B) + q * B + y ≡ (c * P + q) * B + y
    same c P B q y = grind arith

before_block : (P q B c y : ℕ) → 0 < B → q < P → y < q * B → own P q B (c * (P * B) + y) ≡ false
before_block P q B c y some qp yq =
    let low : y / B < q = div_below y B q some yq in
    let far : y / B < P = omega arith in
    let other : y / B ≢ q = omega arith in
    ap (own P q B) (index_of c P B y some) ∙ own_at P q B c (y / B) (y % B) (mod_below y B some) far ∙ not_equal
    (y / B) q other

-- so many indices behind the begin of a process's block, but less than a round: another one's
other_block : (P q B c y : ℕ) → 0 < B → q < P → y < P * B → B ≤ y → own P q B (c * (P * B) + q * B + y) ≡ false
other_block P q B c y some qp yp far = go (cases_lt (q + y / B) P)
  where
    near : y / B < P
    near = div_below y B P some yp

    one : 1 ≤ y / B
    one = le-div 1 y B some (subst (λ (b : ℕ). b ≤ y) (sym (once B)) far)
      where
        once : (b : ℕ) → 1 * b ≡ b
        once b = omega arith

    here : c * (P * B) + q * B + y ≡ (c * P + (q + y / B)) * B + y % B
    here = let h = div-add-mod' y B in grind (arith, h)

    next : (r : ℕ) → q + y / B ≡ P + r → c * (P * B) + q * B + y ≡ ((c + 1) * P + r) * B + y % B
    next r e = here ∙ ap (λ x. (c * P + x) * B + y % B) e ∙ ap (λ x. x * B + y % B) (turn c P r)
      where
        turn : (c P r : ℕ) → c * P + (P + r) ≡ (c + 1) * P + r
        turn c P r = grind arith

    go : ((q + y / B) < P) ⊎ (P ≤ (q + y / B)) → own P q B (c * (P * B) + q * B + y) ≡ false
    go (inl h) =
        let other : q + y / B ≢ q = omega (arith, one) in
        ap (own P q B) here ∙ own_at P q B c (q + y / B) (y % B) (mod_below y B some) h ∙ not_equal (q + y / B) q other
    go (inr h) =
        let r : ℕ = q + y / B - P in
        let e : q + y / B ≡ P + r = omega arith in
        let low : r < P = omega (arith, near) in
        let other : r ≢ q = omega (arith, near) in
        ap (own P q B) (next r e) ∙ own_at P q B (c + 1) r (y % B) (mod_below y B some) low ∙ not_equal r q other

-- of so many indices behind the begin of a process's block, at most a round, its own are the first ones
behind_begin : (P q B c n : ℕ) → 0 < B → q < P → n ≤ P * B →
    filter (own P q B) (range_with_len (c * (P * B) + q * B) n) ≡ range_with_len (c * (P * B) + q * B) (min n B)
behind_begin P q B c n some qp fits = go (cases_lt B n)
  where
    a : ℕ
    a = c * (P * B) + q * B

    go : (B < n) ⊎ (n ≤ B) →
        filter (own P q B) (range_with_len (c * (P * B) + q * B) n) ≡ range_with_len (c * (P * B) + q * B) (min n B)
    go (inr h) =
        all_pass (own P q B) (c * (P * B) + q * B) n (λ y yn. in_block P q B c y (omega (arith, h, yn)) qp) ∙
        ap (range_with_len (c * (P * B) + q * B)) (low n B h)
      where
        low : (n B : ℕ) → n ≤ B → n ≡ min n B
        low n B h = omega arith
    go (inl h) =
        ap (λ k. filter (own P q B) (range_with_len (c * (P * B) + q * B) k)) (cut n B h) ∙
        ap (filter (own P q B)) (range_append (c * (P * B) + q * B) B (n - B)) ∙
        filter_append (own P q B) (range_with_len (c * (P * B) + q * B) B)
        (range_with_len (c * (P * B) + q * B + B) (n - B)) ∙
        (λ t. all_pass (own P q B) (c * (P * B) + q * B) B (λ y yn. in_block P q B c y yn qp) t ++
        none_pass (own P q B) (c * (P * B) + q * B + B) (n - B) (λ y yn. subst (λ (i : ℕ). own P q B i ≡ false)
        (regroup (c * (P * B) + q * B) B y)
        (other_block P q B c (B + y) some qp (omega (arith, fits, yn, h)) (omega arith))) t) ∙
        append-nil (range_with_len (c * (P * B) + q * B) B) ∙
        ap (range_with_len (c * (P * B) + q * B)) (high n B h)
      where
        cut : (n B : ℕ) → B < n → n ≡ B + (n - B)
        cut n B h = omega arith

        regroup : (a B y : ℕ) → a + (B + y) ≡ a + B + y
        regroup a B y = omega arith

        high : (n B : ℕ) → B < n → B ≡ min n B
        high n B h = omega arith

rounds : (P q B c k over : ℕ) → 0 < B → q < P → over ≤ P * B →
    filter (own P q B) (range_with_len (c * (P * B) + q * B) (k * (P * B) + over)) ≡
    blocks_from (c * (P * B) + q * B) B (P * B) k ++ range_with_len (c * (P * B) + q * B + k * (P * B)) (min over B)
rounds P q B c zero over some qp fits =
    ap (λ n. filter (own P q B) (range_with_len (c * (P * B) + q * B) n)) (none (P * B) over) ∙
    behind_begin P q B c over some qp fits ∙
    ap (λ a. range_with_len a (min over B)) (same (c * (P * B) + q * B) (P * B))
  where
    none : (w over : ℕ) → 0 * w + over ≡ over
    none w over = omega arith

    same : (a w : ℕ) → a ≡ a + 0 * w
    same a w = omega arith
rounds P q B c (suc k) over some qp fits =
    ap (λ n. filter (own P q B) (range_with_len (c * (P * B) + q * B) n)) (first k (P * B) over) ∙
    ap (filter (own P q B)) (range_append (c * (P * B) + q * B) (P * B) (k * (P * B) + over)) ∙
    filter_append (own P q B) (range_with_len (c * (P * B) + q * B) (P * B))
    (range_with_len (c * (P * B) + q * B + P * B) (k * (P * B) + over)) ∙
    (λ t. behind_begin P q B c (P * B) some qp (refl_le (P * B)) t ++
    later (rounds P q B (c + 1) k over some qp fits) t) ∙
    (λ t. range_with_len (c * (P * B) + q * B) (whole t) ++ (blocks_from (c * (P * B) + q * B + P * B) B (P * B) k ++
    range_with_len (last (c * (P * B) + q * B) (P * B) k t) (min over B))) ∙
    sym (append_assoc (range_with_len (c * (P * B) + q * B) B) (blocks_from (c * (P * B) + q * B + P * B) B (P * B) k)
    (range_with_len (c * (P * B) + q * B + suc k * (P * B)) (min over B)))
  where
    first : (k w over : ℕ) → suc k * w + over ≡ w + (k * w + over)
    first k w over = grind arith

    refl_le : (n : ℕ) → n ≤ n
    refl_le n = omega arith

    last : (a w k : ℕ) → a + w + k * w ≡ a + suc k * w
    last a w k = grind arith

    at_least : (P B : ℕ) → 0 < P → B ≤ P * B
    at_least zero B h = absurd (omega arith)
    at_least (suc p) B h = let g : suc p * B ≡ B + p * B = grind arith in omega (arith, g)

    whole : min (P * B) B ≡ B
    whole = let h = at_least P B (omega (arith, qp)) in omega (arith, h)

    next : c * (P * B) + q * B + P * B ≡ (c + 1) * (P * B) + q * B
    next = turn c (P * B) (q * B)
      where
        turn : (c w f : ℕ) → c * w + f + w ≡ (c + 1) * w + f
        turn c w f = grind arith

    later : filter (own P q B) (range_with_len ((c + 1) * (P * B) + q * B) (k * (P * B) + over)) ≡
        blocks_from ((c + 1) * (P * B) + q * B) B (P * B) k ++
        range_with_len ((c + 1) * (P * B) + q * B + k * (P * B)) (min over B) →
        filter (own P q B) (range_with_len (c * (P * B) + q * B + P * B) (k * (P * B) + over)) ≡
        blocks_from (c * (P * B) + q * B + P * B) B (P * B) k ++
        range_with_len (c * (P * B) + q * B + P * B + k * (P * B)) (min over B)
    later given = subst (λ (a : ℕ). filter (own P q B) (range_with_len a (k * (P * B) + over)) ≡
        blocks_from a B (P * B) k ++ range_with_len (a + k * (P * B)) (min over B)) (sym next) given

-- all own indices, where the process has some: its blocks of whole rounds, and what is left of one
own_are_blocks : (d : Distribution) (k over : ℕ) → 0 < d.block → d.process < d.processes →
    over ≤ d.processes * d.block → d.size ≡ d.process * d.block + (k * (d.processes * d.block) + over) →
    own_indices d ≡ blocks_from (d.process * d.block) d.block (d.processes * d.block) k ++
    range_with_len (d.process * d.block + k * (d.processes * d.block)) (min over d.block)
own_are_blocks d k over some qp fits size =
    ap (λ n. filter (is_own d) (range_with_len 0 n)) size ∙
    ap (filter (is_own d)) (range_append 0 (d.process * d.block) (k * (d.processes * d.block) + over)) ∙
    filter_append (is_own d) (range_with_len 0 (d.process * d.block))
    (range_with_len (0 + d.process * d.block) (k * (d.processes * d.block) + over)) ∙
    (λ t. none_pass (is_own d) 0 (d.process * d.block) before t ++
    filter (is_own d) (range_with_len (from (d.process * d.block) (d.processes * d.block) t)
    (k * (d.processes * d.block) + over))) ∙
    rounds d.processes d.process d.block 0 k over some qp fits ∙
    (λ t. blocks_from (sym (from0 (d.process * d.block) (d.processes * d.block)) t) d.block (d.processes * d.block) k ++
    range_with_len (sym (from0 (d.process * d.block) (d.processes * d.block)) t + k * (d.processes * d.block))
    (min over d.block))
  where
    from : (f w : ℕ) → 0 + f ≡ 0 * w + f
    from f w = omega arith

    from0 : (f w : ℕ) → f ≡ 0 * w + f
    from0 f w = omega arith

    before : (y : ℕ) → y < d.process * d.block → is_own d (0 + y) ≡ false
    before y h = subst (λ (i : ℕ). is_own d i ≡ false) (sym (from y (d.processes * d.block)))
        (before_block d.processes d.process d.block 0 y some qp h)

-- and none, where its first block begins behind the last index
own_are_none : (d : Distribution) → 0 < d.block → d.process < d.processes → d.size ≤ d.process * d.block → own_indices
    d ≡ []
own_are_none d some qp none = none_pass (is_own d) 0 d.size before
  where
    from : (f w : ℕ) → 0 + f ≡ 0 * w + f
    from f w = omega arith

    before : (y : ℕ) → y < d.size → is_own d (0 + y) ≡ false
    before y h = subst (λ (i : ℕ). is_own d i ≡ false) (sym (from y (d.processes * d.block)))
        (before_block d.processes d.process d.block 0 y some qp (omega (arith, h, none)))

pub own_indices_are_blocks : OwnIndicesAreBlocks
own_indices_are_blocks = record { blocks = own_are_blocks; none = own_are_none }
