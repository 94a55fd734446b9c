-- How two groups compare (MPI 3.1, 6.3.1).
use Rattle.std.specs.Prelude.{◌≡◌, ◌≢◌, ℕ, List}
use Rattle.groups.specs.Groups.{is_member}
use Rattle.groups.specs.declared.comparison.GroupComparison.{GroupComparison}
use Rattle.groups.specs.declared.comparison.GroupComparison.TheVariants.{Ident, Similar, Unequal}

-- the two groups hold the same ranks, in whichever order
abbrev pub HaveSameMembers : List ℕ → List ℕ → Type 0
HaveSameMembers first second = (rank : ℕ) → is_member first rank ≡ is_member second rank

-- what is so of two groups that compare like this
abbrev pub ComparesAs : List ℕ → List ℕ → GroupComparison → Type 0
ComparesAs first second Ident = first ≡ second
ComparesAs first second Similar = (first ≢ second) × HaveSameMembers first second
ComparesAs first second Unequal = ¬ HaveSameMembers first second
