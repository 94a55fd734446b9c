-- Parts of a grid: some dimensions are kept, and each choice of places in the others is a grid of its own.
use Rattle.std.specs.Prelude.{ℕ, Bool, true, false, List, [], ◌∷◌}

-- what stands at the dimensions that are kept, or at those that aren't
abbrev pub chosen : (is_kept : Bool) (keeps : List Bool) → List ℕ → List ℕ
chosen b [] xs = []
chosen b (k ∷ ks) [] = []
chosen true (true ∷ ks) (x ∷ xs) = x ∷ chosen true ks xs
chosen true (false ∷ ks) (x ∷ xs) = chosen true ks xs
chosen false (true ∷ ks) (x ∷ xs) = chosen false ks xs
chosen false (false ∷ ks) (x ∷ xs) = x ∷ chosen false ks xs
