-- What a rank writes, line by line.
use Rattle.std.specs.Prelude.{◌≡◌, ◌⊎◌, ℕ, ◌≤◌, Bool, nat_le, ◌||◌, List, [], ◌++◌, length, take, drop}
use Rattle.launch_keeper.specs.JoinedOutput.{IsLine, ended}

-- nothing, or something that ends with the end of a line
abbrev pub AreEnded : List ℕ → Type 0
AreEnded lines = (lines ≡ []) ⊎ ((front : List ℕ) × (lines ≡ ended front))

-- so many bytes are whole lines, and no line ends behind them
pub record IsWholeLength (bytes : List ℕ) (whole : ℕ) : Type 0 where
  pub within : whole ≤ length bytes
  pub lines : AreEnded (take whole bytes)
  pub rest : IsLine (drop whole bytes)

-- these whole lines are taken of all bytes, and this rest is left, in which no line ends
pub record IsTaken (all lines rest : List ℕ) : Type 0 where
  pub nothing_lost : all ≡ lines ++ rest
  pub are_whole : AreEnded lines
  pub rest_is_line : IsLine rest

-- whether the beginning of a line is handed on: nothing more of it came for 100 milliseconds, or its first byte came a
-- second ago
abbrev pub is_due : ℕ → ℕ → Bool
is_due silence age = nat_le 100 silence || nat_le 1000 age
