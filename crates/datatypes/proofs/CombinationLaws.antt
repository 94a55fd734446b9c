-- Steps of combining two buffers.
use Rattle.std.proofs.Common.{◌≡◌, ℕ, zero, suc, ◌+◌, ◌<◌, List, [], ◌∷◌, ◌++◌, length, get_or, set, take, drop, refl}
use Rattle.std.proofs.Common.{ap, ◌∙◌, arith}
use Rattle.datatypes.specs.Combinations.{combined_values}

-- as far as the elements below a place are combined
abbrev pub combined_to : (ℕ → ℕ → ℕ) → ℕ → List ℕ → List ℕ → List ℕ
combined_to f k xs ys = combined_values f (take k xs) (take k ys) ++ drop k xs

pub combined_to-none : (f : ℕ → ℕ → ℕ) (xs ys : List ℕ) → combined_to f 0 xs ys ≡ xs
combined_to-none f xs ys = refl

pub combined_to-at : (f : ℕ → ℕ → ℕ) (k : ℕ) (xs ys : List ℕ) → length ys ≡ length xs →
    get_or (combined_to f k xs ys) k 0 ≡ get_or xs k 0
combined_to-at f zero xs ys e = refl
combined_to-at f (suc k) [] ys e = refl
combined_to-at f (suc k) (x ∷ xs) [] e = absurd (omega arith)
combined_to-at f (suc k) (x ∷ xs) (y ∷ ys) e = combined_to-at f k xs ys (omega arith)

combined_to-suc : (f : ℕ → ℕ → ℕ) (k : ℕ) (xs ys : List ℕ) → length ys ≡ length xs → k < length xs
    → set (combined_to f k xs ys) k (f (get_or xs k 0) (get_or ys k 0)) ≡ combined_to f (suc k) xs ys
combined_to-suc f zero [] ys e lt = absurd (omega arith)
combined_to-suc f zero (x ∷ xs) [] e lt = absurd (omega arith)
combined_to-suc f zero (x ∷ xs) (y ∷ ys) e lt = refl
combined_to-suc f (suc k) [] ys e lt = absurd (omega arith)
combined_to-suc f (suc k) (x ∷ xs) [] e lt = absurd (omega arith)
combined_to-suc f (suc k) (x ∷ xs) (y ∷ ys) e lt =
    ap (λ (t : List ℕ). f x y ∷ t) (combined_to-suc f k xs ys (omega arith) (omega arith))

pub combined_to-more : (f : ℕ → ℕ → ℕ) (k : ℕ) (xs ys : List ℕ) → length ys ≡ length xs → k < length xs
    → set (combined_to f k xs ys) k (f (get_or xs k 0) (get_or ys k 0)) ≡ combined_to f (k + 1) xs ys
combined_to-more f k xs ys e lt =
    let one : suc k ≡ k + 1 = omega arith in
    combined_to-suc f k xs ys e lt ∙ ap (λ (n : ℕ). combined_to f n xs ys) one

pub combined_to-all : (f : ℕ → ℕ → ℕ) (k : ℕ) (xs ys : List ℕ) → length ys ≡ length xs → k ≡ length xs →
    combined_to f k xs ys ≡ combined_values f xs ys
combined_to-all f zero [] ys e l = refl
combined_to-all f zero (x ∷ xs) ys e l = absurd (omega arith)
combined_to-all f (suc k) [] ys e l = absurd (omega arith)
combined_to-all f (suc k) (x ∷ xs) [] e l = absurd (omega arith)
combined_to-all f (suc k) (x ∷ xs) (y ∷ ys) e l =
    ap (λ (t : List ℕ). f x y ∷ t) (combined_to-all f k xs ys (omega arith) (omega arith))

pub length-combined_to : (f : ℕ → ℕ → ℕ) (k : ℕ) (xs ys : List ℕ) → length ys ≡ length xs →
    length (combined_to f k xs ys) ≡ length xs
length-combined_to f zero xs ys e = refl
length-combined_to f (suc k) [] ys e = refl
length-combined_to f (suc k) (x ∷ xs) [] e = absurd (omega arith)
length-combined_to f (suc k) (x ∷ xs) (y ∷ ys) e = let h = length-combined_to f k xs ys (omega arith) in omega arith

pub length-combined_values : (f : ℕ → ℕ → ℕ) (xs ys : List ℕ) → length ys ≡ length xs →
    length (combined_values f xs ys) ≡ length xs
length-combined_values f [] ys e = refl
length-combined_values f (x ∷ xs) [] e = absurd (omega arith)
length-combined_values f (x ∷ xs) (y ∷ ys) e = let h = length-combined_values f xs ys (omega arith) in omega arith
