-- The laws of the binomial tree.
use Rattle.std.specs.Prelude.{◌≡◌, ◌<◌, ℕ, zero, suc, ◌+◌, ◌-◌, ◌%◌, List, [], ◌∷◌, ◌++◌, length, take, drop, fold, map}
use Rattle.std.specs.Prelude.{◌⊎◌}
use Rattle.std.specs.List.{AllByRecursion}
use Rattle.binomial_trees.specs.Trees.{children, parent, subtree, subtrees, rotate, rotate_back}

-- one list of several
abbrev pub joined : {A : Type 0} → List (List A) → List A
joined [] = []
joined (xs ∷ xss) = xs ++ joined xss

-- whether a position is one of these
abbrev pub IsOneOf : ℕ → List ℕ → Type 0
IsOneOf v [] = ⊥
IsOneOf v (w ∷ ws) = (v ≡ w) ⊎ IsOneOf v ws

-- The children of v partition what stands below it, in their order: what belongs to v itself, and then to the subtree
-- of each child
abbrev pub ChildrenPartition : (A : Type 0) → Type 0
ChildrenPartition A =
    (xs : List A) (v : ℕ) → v < length xs →
    subtree (length xs) xs v ≡ take 1 (drop v xs) ++ joined (subtrees (length xs) xs (children (length xs) v))

-- The top stands above all
abbrev pub TopStandsAboveAll : (A : Type 0) → Type 0
TopStandsAboveAll A = (xs : List A) → subtree (length xs) xs 0 ≡ xs

-- a child comes after its parent, is below n, and has this parent
abbrev pub IsChildOf : (n v child : ℕ) → Type 0
IsChildOf n v c = (v < c) × (c < n) × (parent c ≡ v)

abbrev pub ChildrenHaveTheirParent : Type 0
ChildrenHaveTheirParent = (n v : ℕ) → AllByRecursion (IsChildOf n v) (children n v)

-- each position but the top is a child of its parent, which comes before it
abbrev pub ParentsHaveTheirChild : Type 0
ParentsHaveTheirChild = (n v : ℕ) → 0 < v → v < n → (parent v < v) × IsOneOf v (children n (parent v))

-- the double of 1, so many times
abbrev pub doubled : (times distance : ℕ) → ℕ
doubled zero d = d
doubled (suc k) d = doubled k (d + d)

-- A position has at most so many children as doubling 1 stays below twice n: one more than the logarithm of n
abbrev pub ChildrenAreFew : Type 0
ChildrenAreFew = (n v : ℕ) → 0 < n → doubled (length (children n v)) 1 < n + n

-- the left fold of a list, where it isn't empty
abbrev pub left_fold : {A : Type 0} → (A → A → A) → (empty : A) → List A → A
left_fold f d [] = d
left_fold f d (x ∷ xs) = fold f x xs

-- none of these lists is empty
abbrev pub AreFilled : {A : Type 0} → List (List A) → Type 0
AreFilled [] = Unit {0}
AreFilled (xs ∷ xss) = (0 < length xs) × AreFilled xss

-- The left fold by an associative operation, piece by piece
abbrev pub FoldsGoByPieces : (A : Type 0) → Type 0
FoldsGoByPieces A =
    (f : A → A → A) (empty : A) (pieces : List (List A)) → ((a b c : A) → f (f a b) c ≡ f a (f b c)) →
    AreFilled pieces →
    left_fold f empty (joined pieces) ≡ left_fold f empty (map (left_fold f empty) pieces)

-- So that of a subtree: what belongs to the position, then the folds of its children's subtrees, in order of position
abbrev pub SubtreesFold : (A : Type 0) → Type 0
SubtreesFold A =
    (f : A → A → A) (empty : A) (xs : List A) (v : ℕ) → ((a b c : A) → f (f a b) c ≡ f a (f b c)) → v < length xs →
    left_fold f empty (subtree (length xs) xs v) ≡
    left_fold f empty (take 1 (drop v xs) ++ map (left_fold f empty) (subtrees (length xs) xs (children (length xs) v)))

-- Positions are places turned by the top's: each place has one, and each position is of one place
pub record Turns (top n : ℕ) : Type 0 where
  pub modulo : (i : ℕ) → i < n → rotate top n i ≡ (i + (n - top)) % n
  pub below : (i : ℕ) → i < n → rotate top n i < n
  pub back : (i : ℕ) → i < n → rotate_back top n (rotate top n i) ≡ i
  pub there : (v : ℕ) → v < n → rotate_back top n v < n
  pub again : (v : ℕ) → v < n → rotate top n (rotate_back top n v) ≡ v
  pub first : (i : ℕ) → i < n → rotate top n i ≡ 0 → i ≡ top

abbrev pub PlacesTurn : Type 0
PlacesTurn = (top n : ℕ) → top < n → Turns top n
