-- The processes through the sets in their order.
use Rattle.std.proofs.Common.{◌≡◌, ℕ, zero, suc, ◌+◌, ◌-◌, ◌<◌, ◌≤◌, List, ◌∷◌, ◌++◌, length, get_or, drop, replicate}
use Rattle.std.proofs.Common.{Some, refl, sym, ap, ◌∙◌, arith}
use Rattle.std.specs.Prelude.{slice_get}
use Rattle.std.proofs.lemmas.List.{at_drop_more}
use Rattle.std.proofs.lemmas.List.Concat.{flat_map-cons}
use Rattle.launch_plan.specs.declared.process_set.ProcessSet.{ProcessSet}
use Rattle.launch_plan.specs.Launches.{processes}

within : {A : Type 0} (x : A) (rest : List A) (n r : ℕ) → r < n → slice_get (replicate n x ++ rest) r ≡ Some x
within x rest zero r lt = absurd (omega (arith, lt))
within x rest (suc n) zero lt = refl
within x rest (suc n) (suc r) lt = within x rest n r (omega arith)

beyond : {A : Type 0} (x : A) (rest : List A) (n r : ℕ) → n ≤ r → slice_get (replicate n x ++ rest) r ≡
    slice_get rest (r - n)
beyond x rest zero r le = let e : r ≡ r - 0 = omega arith in ap (slice_get rest) e
beyond x rest (suc n) zero le = absurd (omega (arith, le))
beyond x rest (suc n) (suc r) le = let e : r - n ≡ suc r - suc n = omega arith in beyond x rest n r (omega arith) ∙
    ap (slice_get rest) e

at_set : (sets : List ProcessSet) (i : ℕ) (set : ProcessSet) → i < length sets → set ≡ get_or sets i set →
    processes (drop i sets) ≡ replicate set.count set ++ processes (drop (i + 1) sets)
at_set sets i set lt is =
    at_drop_more processes sets i set lt ∙ ap (λ (s : ProcessSet). processes (s ∷ drop (i + 1) sets)) (sym is) ∙
    flat_map-cons (λ s. replicate s.count s) set (drop (i + 1) sets)

-- a rank below the set's count is a process of the set
pub in_set : (sets : List ProcessSet) (i left : ℕ) (set : ProcessSet) → i < length sets → set ≡ get_or sets i set →
    left < set.count → slice_get (processes (drop i sets)) left ≡ Some set
in_set sets i left set lt is here = ap (λ (ps : List ProcessSet). slice_get ps left) (at_set sets i set lt is) ∙
    within set (processes (drop (i + 1) sets)) set.count left here

-- another rank is behind it
pub behind_set : (sets : List ProcessSet) (i left : ℕ) (set : ProcessSet) → i < length sets → set ≡ get_or sets i set →
    set.count ≤ left
    → slice_get (processes (drop i sets)) left ≡ slice_get (processes (drop (i + 1) sets)) (left - set.count)
behind_set sets i left set lt is past = ap (λ (ps : List ProcessSet). slice_get ps left) (at_set sets i set lt is) ∙
    beyond set (processes (drop (i + 1) sets)) set.count left past
