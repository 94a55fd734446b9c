-- The laws of places and ranks.
use Rattle.std.proofs.Common.{◌≡◌, ◌<◌, ◌≤◌, ℕ, suc, length, ◌+◌, ◌-◌, ◌*◌, ◌%◌, ◌/◌, List, [], ◌∷◌}
use Rattle.std.proofs.Common.{refl, sym, ap, ◌∙◌, subst, arith}
use Rattle.std.proofs.lemmas.Nat.{mul-le, div-add-mod', div-mul-add, mod-mul-add, mod_below, mul-add-lt, div_below}
use Rattle.std.proofs.Math.Nat.{add-mul-mod_self_left, add-mod_right, mod-add-div'}
use Rattle.cartesian_grids.specs.Grids.{IsPlace, IsSized, RanksArePlaces, coordinates, product, row_major}
use Rattle.std.proofs.Common.{◌⊎◌, inl, inr, Bool, true, false, ℤ, Some, take, drop, get_or}
use Rattle.std.proofs.Math.Seq.{take-length}
use Rattle.std.proofs.Math.Bool.{beq}
use Rattle.std.proofs.lemmas.Bool.{false≢true, cases_lt}
use Rattle.cartesian_grids.specs.Moves.{BackUndoesAhead, moved, option_map, shifted}
use Rattle.cartesian_grids.specs.Parts.{chosen}

-- a grid has a place
pub product_some : (ns : List ℕ) → IsSized ns → 0 < product ns
product_some [] h = omega arith
product_some (n ∷ ns) h =
    let e : 0 < product ns = product_some ns h.1 in
    let f : 1 * 1 ≤ n * product ns = mul-le 1 1 n (product ns) h.0 e in omega (arith, f)

-- a coordinate by a rank, and a rank by a coordinate and a rank of the other dimensions
pub coordinate_below : (r p n : ℕ) → 0 < p → r < n * p → r / p < n
coordinate_below r p n h l = div_below r p n h l

pub place_below : (c n p t : ℕ) → c < n → t < p → c * p + t < n * p
place_below c n p t h l = let e : c * p + t < p * n = mul-add-lt c p t n h l in grind arith

pub next_below : (r p n t : ℕ) → r < n * p → t < p → r / p * p + t < n * p
next_below r p n t h l = place_below (r / p) n p t (div_below r p n (omega (arith, l)) h) l

pub rank_place : (ns : List ℕ) (r : ℕ) → IsSized ns → r < product ns → IsPlace ns (coordinates ns r)
rank_place [] r h l = tt
rank_place (n ∷ ns) r h l =
    let e : 0 < product ns = product_some ns h.1 in
    (div_below r (product ns) n e l, rank_place ns (r % product ns) h.1 (mod_below r (product ns) e))

pub rank_rank : (ns : List ℕ) (r : ℕ) → IsSized ns → r < product ns → row_major ns (coordinates ns r) ≡ r
rank_rank [] r h l = omega arith
rank_rank (n ∷ ns) r h l =
    let e : 0 < product ns = product_some ns h.1 in
    ap (λ x. r / product ns * product ns + x) (rank_rank ns (r % product ns) h.1 (mod_below r (product ns) e)) ∙
    div-add-mod' r (product ns)

pub rank_below : (ns cs : List ℕ) → IsPlace ns cs → row_major ns cs < product ns
rank_below [] [] h = omega arith
rank_below [] (c ∷ cs) h = absurd h
rank_below (n ∷ ns) [] h = absurd h
rank_below (n ∷ ns) (c ∷ cs) h =
    let e : row_major ns cs < product ns = rank_below ns cs h.1 in
    let f : c * product ns + row_major ns cs < product ns * n = mul-add-lt c (product ns) (row_major ns cs) n h.0 e in
    grind arith

pub rank_back : (ns cs : List ℕ) → IsPlace ns cs → coordinates ns (row_major ns cs) ≡ cs
rank_back [] [] h = refl
rank_back [] (c ∷ cs) h = absurd h
rank_back (n ∷ ns) [] h = absurd h
rank_back (n ∷ ns) (c ∷ cs) h =
    let e : row_major ns cs < product ns = rank_below ns cs h.1 in
    let d = div-mul-add c (product ns) (row_major ns cs) e in
    let m = mod-mul-add c (product ns) (row_major ns cs) e in
    ap (λ x. x ∷ coordinates ns ((c * product ns + row_major ns cs) % product ns)) d ∙
    ap (λ x. c ∷ coordinates ns x) m ∙ ap (λ xs. c ∷ xs) (rank_back ns cs h.1)

pub ranks_are_places : RanksArePlaces
ranks_are_places = record { place = rank_place; rank = rank_rank; below = rank_below; back = rank_back }

-- what is left of steps on a ring, and whole rounds
rounds : (n k : ℕ) → (q : ℕ) × (k ≡ k % n + n * q)
rounds n k = (k / n, let e = mod-add-div' k n in grind arith)

round_gone : (n x q : ℕ) → (x + n * q) % n ≡ x % n
round_gone n x q = add-mul-mod_self_left x n q

small_rest : (n x : ℕ) → x < n → x % n ≡ x
small_rest n x h = ap (λ y. y % n) (omega arith) ∙ mod-mul-add 0 n x h

pub length-coordinates : (ns : List ℕ) (r : ℕ) → length (coordinates ns r) ≡ length ns
length-coordinates [] r = refl
length-coordinates (n ∷ ns) r = ap suc (length-coordinates ns (r % product ns))

-- A LIST AND WHAT FOLLOWS ITS FIRST ELEMENT

abbrev pub rest : {A : Type 0} → List A → List A
rest xs = take (length xs - 1) (drop 1 xs)

pub first_and_rest : {A : Type 0} (xs : List A) (d : A) → 1 ≤ length xs → xs ≡ get_or xs 0 d ∷ rest xs
first_and_rest [] d h = absurd (omega (arith, h))
first_and_rest (x ∷ xs) d h =
    ap (λ ys. x ∷ ys) (sym (ap (λ k. take k xs) (omega arith) ∙ take-length xs))

-- MOVES

move_first :
    (n : ℕ) (ms : List ℕ) (p : Bool) (qs : List Bool) (r to : ℕ) (z : ℤ) → IsSized (n ∷ ms) →
    Some to ≡ moved n p (r / product ms) z →
    Some (to * product ms + r % product ms) ≡
    option_map (row_major (n ∷ ms)) (shifted (n ∷ ms) (p ∷ qs) (coordinates (n ∷ ms) r) 0 z)
move_first n ms p qs r to z h m =
    let some : 0 < product ms = product_some ms h.1 in
    let e : row_major ms (coordinates ms (r % product ms)) ≡ r % product ms =
    rank_rank ms (r % product ms) h.1 (mod_below r (product ms) some) in
    ap (λ x. Some (to * product ms + x)) (sym e) ∙
    ap (λ o. option_map (row_major (n ∷ ms)) (option_map (λ x. x ∷ coordinates ms (r % product ms)) o)) m

pub move_here :
    (ns : List ℕ) (ps : List Bool) (n : ℕ) (ms : List ℕ) (p : Bool) (qs : List Bool) (r s to k : ℕ) (y z : ℤ) →
    ns ≡ n ∷ ms → ps ≡ p ∷ qs → IsSized ns → s ≡ product ms → k ≡ 0 → y ≡ z → Some to ≡ moved n p (r / s) y →
    Some (to * s + r % s) ≡ option_map (row_major ns) (shifted ns ps (coordinates ns r) k z)
move_here ns ps n ms p qs r s to k y z e f h g d w m =
    let P : List ℕ → Type 0 = IsSized in
    let h' : IsSized (n ∷ ms) = subst P e h in
    let m' : Some to ≡ moved n p (r / product ms) z =
    m ∙ ap (λ x. moved n p (r / x) y) g ∙ ap (λ x. moved n p (r / product ms) x) w in
    let a = move_first n ms p qs r to z h' m' in
    ap (λ x. Some (to * x + r % x)) g ∙ a ∙
    ap (λ x. option_map (row_major x) (shifted x (p ∷ qs) (coordinates x r) 0 z)) (sym e) ∙
    ap (λ x. option_map (row_major ns) (shifted ns x (coordinates ns r) 0 z)) (sym f) ∙
    ap (λ x. option_map (row_major ns) (shifted ns ps (coordinates ns r) x z)) (sym d)

pub next_in :
    (ns : List ℕ) (n : ℕ) (ms : List ℕ) (r s t : ℕ) → ns ≡ n ∷ ms → s ≡ product ms → r < product ns →
    t < product ms → r / s * s + t < product ns
next_in ns n ms r s t e g h l =
    let a : product ns ≡ n * product ms = ap product e in
    let b : n * product ms ≡ n * s = ap (λ x. n * x) (sym g) in
    let d : r / s * s + t < n * s = next_below r s n t (omega (arith, a, b, h)) (omega (arith, g, l)) in
    omega (arith, a, b, d)

-- PARTS

pub chosen_few : (b : Bool) (ks : List Bool) (ns : List ℕ) → IsSized ns → product (chosen b ks ns) ≤ product ns
chosen_few b [] ns h = product_some ns h
chosen_few b (k ∷ ks) [] h = omega arith
chosen_few true (true ∷ ks) (n ∷ ns) h =
    mul-le n (product (chosen true ks ns)) n (product ns) (omega arith) (chosen_few true ks ns h.1)
chosen_few true (false ∷ ks) (n ∷ ns) h =
    let a = mul-le 1 (product (chosen true ks ns)) n (product ns) h.0 (chosen_few true ks ns h.1) in omega (arith, a)
chosen_few false (true ∷ ks) (n ∷ ns) h =
    let a = mul-le 1 (product (chosen false ks ns)) n (product ns) h.0 (chosen_few false ks ns h.1) in omega (arith, a)
chosen_few false (false ∷ ks) (n ∷ ns) h =
    mul-le n (product (chosen false ks ns)) n (product ns) (omega arith) (chosen_few false ks ns h.1)

chosen_first :
    (b k : Bool) (ks : List Bool) (n : ℕ) (ms : List ℕ) → beq k b ≡ true →
    chosen b (k ∷ ks) (n ∷ ms) ≡ n ∷ chosen b ks ms
chosen_first true true ks n ms h = refl
chosen_first true false ks n ms h = absurd (false≢true h)
chosen_first false true ks n ms h = absurd (false≢true h)
chosen_first false false ks n ms h = refl

pub place_in :
    (b : Bool) (keeps : List Bool) (ns : List ℕ) (k : Bool) (ks : List Bool) (n : ℕ) (ms : List ℕ) (r s q t : ℕ) →
    keeps ≡ k ∷ ks → ns ≡ n ∷ ms → beq k b ≡ true → 0 < s → s ≡ product ms → r < product ns →
    q ≡ product (chosen b ks ms) → t < product (chosen b ks ms) →
    r / s * q + t < product (chosen b keeps ns)
place_in b keeps ns k ks n ms r s q t e f h some g l d u =
    let a : product ns ≡ n * product ms = ap product f in
    let i : n * product ms ≡ n * s = ap (λ x. n * x) (sym g) in
    let j : r / s < n = coordinate_below r s n some (omega (arith, a, i, l)) in
    let v : r / s * q + t < n * q = place_below (r / s) n q t j (omega (arith, d, u)) in
    let w : chosen b keeps ns ≡ n ∷ chosen b ks ms =
    ap (λ x. chosen b x ns) e ∙ ap (λ x. chosen b (k ∷ ks) x) f ∙ chosen_first b k ks n ms h in
    let x : product (chosen b keeps ns) ≡ n * product (chosen b ks ms) = ap product w in
    let y : n * product (chosen b ks ms) ≡ n * q = ap (λ z. n * z) (sym d) in
    omega (arith, v, x, y)

-- STEPS ON A RING

back_then_ahead : (n x k q r : ℕ) → x < n → k ≡ r + n * q → r < n → ((x + (n - r)) % n + k) % n ≡ x
back_then_ahead n x k q r h e l =
    let a : ((x + (n - r)) % n + k) % n ≡ ((x + (n - r)) % n + r) % n =
    ap (λ y. ((x + (n - r)) % n + y) % n) e ∙ ap (λ y. y % n) (regroup ((x + (n - r)) % n)) ∙
    round_gone n ((x + (n - r)) % n + r) q in
    a ∙ cases (x + (n - r)) refl
  where
    regroup : (y : ℕ) → y + (r + n * q) ≡ y + r + n * q
    regroup y = omega arith

    cases : (y : ℕ) → y ≡ x + (n - r) → (y % n + r) % n ≡ x
    cases y f = go (cases_lt y n)
      where
        go : (y < n) ⊎ (n ≤ y) → (y % n + r) % n ≡ x
        go (inl s) =
            ap (λ v. (v + r) % n) (small_rest n y s) ∙ ap (λ v. v % n) (omega (arith, f, l, s)) ∙
            add-mod_right x n ∙ small_rest n x h
        go (inr s) =
            let g : y ≡ (x - r) + n * 1 = omega (arith, f, l, s, h) in
            let t : y % n ≡ x - r =
            ap (λ v. v % n) g ∙ round_gone n (x - r) 1 ∙ small_rest n (x - r) (omega (arith, h)) in
            ap (λ v. (v + r) % n) t ∙ ap (λ v. v % n) (omega (arith, f, l, s, h)) ∙ small_rest n x h

ahead_then_back : (n x k q r : ℕ) → x < n → k ≡ r + n * q → r < n → ((x + k) % n + (n - r)) % n ≡ x
ahead_then_back n x k q r h e l =
    let a : (x + k) % n ≡ (x + r) % n =
    ap (λ y. (x + y) % n) e ∙ ap (λ y. y % n) (omega arith) ∙ round_gone n (x + r) q in
    ap (λ y. (y + (n - r)) % n) a ∙ go (cases_lt (x + r) n)
  where
    go : (x + r < n) ⊎ (n ≤ x + r) → ((x + r) % n + (n - r)) % n ≡ x
    go (inl s) =
        ap (λ v. (v + (n - r)) % n) (small_rest n (x + r) s) ∙ ap (λ v. v % n) (omega (arith, l)) ∙
        add-mod_right x n ∙ small_rest n x h
    go (inr s) =
        let g : x + r ≡ (x + r - n) + n * 1 = omega (arith, s) in
        let t : (x + r) % n ≡ x + r - n =
        ap (λ v. v % n) g ∙ round_gone n (x + r - n) 1 ∙ small_rest n (x + r - n) (omega (arith, h, l, s)) in
        ap (λ v. (v + (n - r)) % n) t ∙ ap (λ v. v % n) (omega (arith, s, l)) ∙ small_rest n x h

pub back_undoes_ahead : BackUndoesAhead
back_undoes_ahead n x k h =
    let e = rounds n k in
    let l : k % n < n = mod_below k n (omega (arith, h)) in
    (back_then_ahead n x k e.0 (k % n) h e.1 l, ahead_then_back n x k e.0 (k % n) h e.1 l)
