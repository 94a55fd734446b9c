use Rattle.std.proofs.Common.{◌≡◌, ℕ, List, length}
use Rattle.datatypes.specs.Contents.{values_of, AreWhole}
use Rattle.datatypes.proofs.CombinationLaws.{combined_to}
use Rattle.datatypes.proofs.combination.combine_sized.Given as goal

-- as far as the elements below a place are combined
pub record HasCombined (f : ℕ → ℕ → ℕ) (size count : ℕ) (old next new : List ℕ) : Type 0 where
  pub whole : AreWhole size new
  pub len : length new ≡ length old
  pub values : values_of size new ≡ combined_to f count (values_of size old) (values_of size next)

abbrev pub invariant-loop-place : goal.invariant-loop-place
invariant-loop-place g l = HasCombined (g.P.PairOp.makes l.op) l.size l.place l.fn.all l.next l.all
