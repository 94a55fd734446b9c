-- The binomial tree over the positions from 0 on that are below n. The parent of a position above 0 is that position
-- with its lowest binary digit 1 made 0, so position 0 is the top.
use Rattle.std.specs.Prelude.{ℕ, zero, suc, ◌+◌, ◌-◌, ◌%◌, ◌==◌, ◌&&◌, Bool, List, [], ◌∷◌, nat_lt, if◌then◌else◌, take}
use Rattle.std.specs.Prelude.{drop}

-- whether a position has a child at this distance: the double of the distance, a power of two, divides it, and the
-- child is below n
abbrev pub has_child : (n v distance : ℕ) → Bool
has_child n v d = (v % (d + d) == 0) && nat_lt (v + d) n

-- its children from this distance on, rising, at most so many
abbrev pub children_from : (levels distance n v : ℕ) → List ℕ
children_from zero d n v = []
children_from (suc levels) d n v = if has_child n v d then (v + d) ∷ children_from levels (d + d) n v else []

-- its children, rising
abbrev pub children : (n v : ℕ) → List ℕ
children n v = children_from n 1 n v

-- the distance at which its children end
abbrev pub reach_from : (levels distance n v : ℕ) → ℕ
reach_from zero d n v = d
reach_from (suc levels) d n v = if has_child n v d then reach_from levels (d + d) n v else d

-- its children end there: from the position on, so many positions, as far as they are below n, stand below it or are it
abbrev pub reach : (n v : ℕ) → ℕ
reach n v = reach_from n 1 n v

-- what belongs to a position and all that stand below it, where each position has one of these
abbrev pub subtree : {A : Type 0} → (n : ℕ) → List A → (v : ℕ) → List A
subtree n xs v = take (reach n v) (drop v xs)

-- what belongs to these positions and all below them
abbrev pub subtrees : {A : Type 0} → (n : ℕ) → List A → List ℕ → List (List A)
subtrees n xs [] = []
subtrees n xs (v ∷ vs) = subtree n xs v ∷ subtrees n xs vs

-- the position less its lowest binary digit 1, which is sought from this distance on
abbrev pub parent_from : (levels distance v : ℕ) → ℕ
parent_from zero d v = v - d
parent_from (suc levels) d v = if v % (d + d) == 0 then parent_from levels (d + d) v else v - d

-- the parent of a position above 0
abbrev pub parent : (v : ℕ) → ℕ
parent v = parent_from v 1 v

-- ---- a tree whose top is another member

-- the position of the member at a place where the one at `top` has position 0: (place - top) modulo n
abbrev pub rotate : (top n place : ℕ) → ℕ
rotate top n i = if nat_lt i top then i + n - top else i - top

-- the place of the member with this position
abbrev pub rotate_back : (top n position : ℕ) → ℕ
rotate_back top n v = if nat_lt (v + top) n then v + top else v + top - n
