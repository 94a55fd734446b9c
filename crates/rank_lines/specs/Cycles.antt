-- Ranks that wait for one another.
use Rattle.std.specs.Prelude.{◌≡◌, ℕ, ⊤, List, [], ◌∷◌, Contains}
use Rattle.rank_lines.specs.declared.cycle.Wait.{Wait}

-- a rank waits for another one
abbrev pub WaitsFor : List Wait → ℕ → ℕ → Type 0
WaitsFor waits rank other = (wait : Wait) × Contains waits wait × (wait.rank ≡ rank) × (wait.other ≡ other)

-- the first of these ranks, or this one where there is none
abbrev pub first_or : List ℕ → ℕ → ℕ
first_or [] rank = rank
first_or (first ∷ ranks) rank = first

-- each of these ranks waits for the next, and the last one for this one
abbrev pub AreWaiting : List Wait → List ℕ → ℕ → Type 0
AreWaiting waits [] other = ⊤
AreWaiting waits (rank ∷ ranks) other = WaitsFor waits rank (first_or ranks other) × AreWaiting waits ranks other

-- ranks, at least one, of which each waits for the next, and the last one for the first
abbrev pub IsCycle : List Wait → List ℕ → Type 0
IsCycle waits [] = ⊥
IsCycle waits (rank ∷ ranks) = AreWaiting waits (rank ∷ ranks) rank
