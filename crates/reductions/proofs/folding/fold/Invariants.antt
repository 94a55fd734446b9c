use Rattle.std.proofs.Common.{◌≡◌, ℕ, List, length, take}
use Rattle.datatypes.specs.Contents.{Contents}
use Rattle.reductions.specs.Folds.{folded_values}
use Rattle.datatypes.proofs.BufferSteps.{contents_of}
use Rattle.reductions.proofs.folding.fold.Given as goal

-- as far as the members before one are combined
pub record HasFolded (f : ℕ → ℕ → ℕ) (first : Contents) (count : ℕ) (rest : List Contents) (all : Contents) : Type
    0 where
  pub folded : all ≡ contents_of first.basic (folded_values f first.values (take count rest))
  pub len : length all.values ≡ length first.values

abbrev pub invariant-loop-next : goal.invariant-loop-next
invariant-loop-next g l = HasFolded (g.R.ReduceOp.combines l.op) l.first l.next-index l.rest l.all
