use Rattle.std.proofs.Common.{◌≡◌, ℕ, List}
use Rattle.vocabulary.specs.declared.basic_type.BasicType.{BasicType}
use Rattle.datatypes.specs.Contents.{Contents}
use Rattle.datatypes.proofs.CombinationLaws.{combined_to}
use Rattle.datatypes.proofs.combination.combine_each.Given as goal

-- as far as the elements below a place are combined
pub record IsCombined (f : ℕ → ℕ → ℕ) (count : ℕ) (old next : List ℕ) (basic : BasicType) (new : Contents) : Type 0 where
  pub basic_is : new.basic ≡ basic
  pub values : new.values ≡ combined_to f count old next

abbrev pub invariant-loop-place : goal.invariant-loop-place
invariant-loop-place g l =
    IsCombined (g.P.PairOp.makes l.op) l.place l.fn.all.values l.next.values l.fn.all.basic l.all
