-- What passes weigh, and the status.
use Rattle.std.proofs.Common.{◌≡◌, ℕ, ◌<◌, ◌≤◌, Bool, true, false, not, ◌||◌, List, [], ◌∷◌, map, refl, sym, ap, ◌∙◌}
use Rattle.std.proofs.Common.{arith, ◌⊎◌, inl, inr}
use Rattle.std.specs.Prelude.{if◌then◌else◌, max}
use Rattle.std.specs.List.{list_any}
use Rattle.std.proofs.lemmas.Bool.{cases_lt, le-ltb, lt-ltb}
use Rattle.rank_findings.specs.Laws.{Pass, RunsGiveStatuses, tells, weighs}
use Rattle.rank_findings.specs.Verdicts.{heaviest, is_told}

below : (n : ℕ) → n < 2 → is_told n ≡ false
below n less = ap not (lt-ltb n 2 less)

above : (n : ℕ) → 2 ≤ n → is_told n ≡ true
above n most = ap not (le-ltb n 2 most)

of_two : (a b : ℕ) → (a < 2) ⊎ (2 ≤ a) → (b < 2) ⊎ (2 ≤ b) → is_told (max a b) ≡ is_told a || is_told b
of_two a b (inl x) (inl y) =
    below (max a b) (omega arith) ∙ sym (ap (λ (t : Bool). t || is_told b) (below a x) ∙ below b y)
of_two a b (inl x) (inr y) =
    above (max a b) (omega arith) ∙ sym (ap (λ (t : Bool). t || is_told b) (below a x) ∙ above b y)
of_two a b (inr x) y = above (max a b) (omega arith) ∙ sym (ap (λ (t : Bool). t || is_told b) (above a x))

heaviest_tells : (ws : List ℕ) → is_told (heaviest ws) ≡ list_any is_told ws
heaviest_tells [] = refl
heaviest_tells (w ∷ ws) =
    of_two w (heaviest ws) (cases_lt w 2) (cases_lt (heaviest ws) 2) ∙
    ap (λ (t : Bool). is_told w || t) (heaviest_tells ws)

pass_tells : (runs : List ℕ) (is_astray : Bool) →
    is_told (if is_astray then max (heaviest runs) 2 else heaviest runs) ≡ is_astray || list_any is_told runs
pass_tells runs true = above (max (heaviest runs) 2) (omega arith)
pass_tells runs false = heaviest_tells runs

passes_tell : (ps : List Pass) → list_any is_told (map weighs ps) ≡ list_any tells ps
passes_tell [] = refl
passes_tell (p ∷ ps) =
    ap (λ (t : Bool). t || list_any is_told (map weighs ps)) (pass_tells p.runs p.is_astray) ∙
    ap (λ (t : Bool). tells p || t) (passes_tell ps)

one : (t : Bool) (other : ℕ) → t ≡ true → (if t then 1 else other) ≡ 1
one true other is = refl
one false other is = absurd cc

none : (t : Bool) (other : ℕ) → t ≡ false → (if t then 1 else other) ≡ other
none true other is = absurd cc
none false other is = refl

pub runs_give_statuses : RunsGiveStatuses
runs_give_statuses ps unexplored = (
  λ is. one (list_any is_told (map weighs ps)) (if unexplored then 7 else 0) (passes_tell ps ∙ is),
  λ is. none (list_any is_told (map weighs ps)) (if unexplored then 7 else 0) (passes_tell ps ∙ is),
)
