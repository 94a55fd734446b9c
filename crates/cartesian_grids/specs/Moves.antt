-- Moves along a dimension: on a ring round and round, else up to the ends.
use Rattle.std.specs.Prelude.{ℕ, zero, suc, ℤ, pos, negsuc, Bool, true, false, ◌+◌, ◌-◌, ◌%◌, ◌<◌, ◌≡◌}
use Rattle.std.specs.Prelude.{Option, None, Some, List, [], ◌∷◌, nat_lt, if◌then◌else◌}

-- the place that lies so many steps ahead of a place, or behind it, in a dimension of this size
abbrev pub ahead : (size : ℕ) (is_ring : Bool) (from steps : ℕ) → Option ℕ
ahead n true x k = Some ((x + k) % n)
ahead n false x k = (if nat_lt (x + k) n then Some (x + k) else None)

abbrev pub behind : (size : ℕ) (is_ring : Bool) (from steps : ℕ) → Option ℕ
behind n true x k = Some ((x + (n - k % n)) % n)
behind n false x k = (if nat_lt x k then None else Some (x - k))

-- the place to which a displacement leads
abbrev pub moved : (size : ℕ) (is_ring : Bool) (from : ℕ) (displacement : ℤ) → Option ℕ
moved n ring x (pos k) = ahead n ring x k
moved n ring x (negsuc k) = behind n ring x (suc k)

-- each of an option's values by a function
abbrev pub option_map : {A B : Type 0} → (A → B) → Option A → Option B
option_map f None = None
option_map f (Some x) = Some (f x)

-- both, where there are both
abbrev pub joined : Option ℕ → Option (List ℕ) → Option (List ℕ)
joined None cs = None
joined (Some c) None = None
joined (Some c) (Some cs) = Some (c ∷ cs)

-- the place that coordinates name: on a ring each number is one, counted from 0
abbrev pub named : (sizes : List ℕ) (rings : List Bool) (given : List ℤ) → Option (List ℕ)
named [] ps zs = Some []
named (n ∷ ns) [] zs = None
named (n ∷ ns) (p ∷ ps) [] = None
named (n ∷ ns) (p ∷ ps) (z ∷ zs) = joined (moved n p 0 z) (named ns ps zs)

-- the place to which a displacement in one dimension leads: the other coordinates stay
abbrev pub shifted : (sizes : List ℕ) (rings : List Bool) (place : List ℕ) (direction : ℕ) (by : ℤ) → Option (List ℕ)
shifted [] ps cs k z = None
shifted (n ∷ ns) [] cs k z = None
shifted (n ∷ ns) (p ∷ ps) [] k z = None
shifted (n ∷ ns) (p ∷ ps) (c ∷ cs) zero z = option_map (λ x. x ∷ cs) (moved n p c z)
shifted (n ∷ ns) (p ∷ ps) (c ∷ cs) (suc k) z = option_map (λ xs. c ∷ xs) (shifted ns ps cs k z)

-- On a ring steps back undo steps ahead
abbrev pub BackUndoesAhead : Type 0
BackUndoesAhead =
    (n x k : ℕ) → x < n → (((x + (n - k % n)) % n + k) % n ≡ x) × (((x + k) % n + (n - k % n)) % n ≡ x)
