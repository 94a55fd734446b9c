-- What a contract sees of a part of a split communicator.
use Rattle.std.specs.Prelude.{ℕ, List}

-- its colour, and the old ranks of its members in their new order
pub record SplitPart : Type 0 where
  pub colour : ℕ
  pub ranks : List ℕ
