-- One more step of the search for a child or for a digit.
use Rattle.std.proofs.Common.{◌≡◌, ◌<◌, ◌≤◌, ℕ, suc, ◌+◌, ◌-◌, ◌%◌, Bool, true, false, List, [], ◌∷◌, ◌++◌}
use Rattle.std.proofs.Common.{if◌then◌else◌, sym, ap, ◌∙◌, arith, append_assoc, append-nil}
use Rattle.std.proofs.lemmas.Bool.{eq-eqb}
use Rattle.std.specs.List.{All}
use Rattle.std.proofs.lemmas.List.Elements.{All-push}
use Rattle.binomial_trees.specs.Trees.{children, children_from, has_child, parent, parent_from}
use Rattle.binomial_trees.proofs.TreeProofs.{child_test}

pub children_more : (below : List ℕ) (size step d v : ℕ) → step < size → has_child size v d ≡ true →
    below ++ children_from (size - step) d size v ≡ children size v →
    (below ++ (v + d) ∷ []) ++ children_from (size - (step + 1)) (d + d) size v ≡ children size v
children_more below size step d v lt h all =
    append_assoc below ((v + d) ∷ []) (children_from (size - (step + 1)) (d + d) size v) ∙
    (ap (λ (xs : List ℕ). below ++ xs) (sym one) ∙ all)
  where
    less : size - step ≡ suc (size - (step + 1))
    less = omega (arith, lt)

    one : children_from (size - step) d size v ≡ (v + d) ∷ children_from (size - (step + 1)) (d + d) size v
    one = ap (λ (k : ℕ). children_from k d size v) less ∙
        ap (λ (t : Bool). if t then (v + d) ∷ children_from (size - (step + 1)) (d + d) size v else []) h

pub children_end : (below : List ℕ) (size step d v : ℕ) → step < size → has_child size v d ≡ false →
    below ++ children_from (size - step) d size v ≡ children size v → below ≡ children size v
children_end below size step d v lt h all = sym (append-nil below) ∙
    (ap (λ (xs : List ℕ). below ++ xs) (sym none) ∙ all)
  where
    less : size - step ≡ suc (size - (step + 1))
    less = omega (arith, lt)

    none : children_from (size - step) d size v ≡ []
    none = ap (λ (k : ℕ). children_from k d size v) less ∙
        ap (λ (t : Bool). if t then (v + d) ∷ children_from (size - (step + 1)) (d + d) size v else []) h

pub near : (size d v : ℕ) → size ≤ 65536 → has_child size v d ≡ true → d + d ≤ 131072
near size d v le h = let p = child_test size v d h in let q : v + d < size = p.1 in omega (arith, q, le)

pub parent_more : (step d v : ℕ) → step < v → v % (d + d) ≡ 0 → parent_from (v - step) d v ≡ parent v →
    parent_from (v - (step + 1)) (d + d) v ≡ parent v
parent_more step d v lt h all = sym one ∙ all
  where
    less : v - step ≡ suc (v - (step + 1))
    less = omega (arith, lt)

    one : parent_from (v - step) d v ≡ parent_from (v - (step + 1)) (d + d) v
    one = ap (λ (k : ℕ). parent_from k d v) less ∙
        ap (λ (t : Bool). if t then parent_from (v - (step + 1)) (d + d) v else v - d) (eq-eqb (v % (d + d)) 0 h)

pub within : (size d v : ℕ) → has_child size v d ≡ true → v + d < size
within size d v h = (child_test size v d h).1

pub all_push : (size : ℕ) (xs : List ℕ) (x : ℕ) → All (λ c. c < size) xs → x < size → All (λ c. c < size) (xs ++ x ∷ [])
all_push size xs x a lt = All-push (λ c. c < size) xs x a lt
