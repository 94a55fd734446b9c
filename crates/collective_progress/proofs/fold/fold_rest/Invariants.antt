-- The blocks of the ranks so far are combined.
use Rattle.std.proofs.Common.{◌≡◌, ℕ, List, length, take, Option}
use Rattle.std.specs.Prelude.{fold}
use Rattle.collective_progress.specs.Blocks.{blocks_known, one_more}
use Rattle.datatypes.specs.Contents.{Contents}
use Rattle.collective_progress.proofs.fold.fold_rest.Given as goal

-- these elements, of one type, and as many as there are of these
pub record HasFolded (before mine all : Contents) (values : List ℕ) : Type 0 where
  pub basic : all.basic ≡ before.basic
  pub values_are : all.values ≡ values
  pub len : length all.values ≡ length mine.values

abbrev pub invariant-loop-rank : goal.invariant-loop-rank
invariant-loop-rank g l =
    HasFolded l.fn.all l.mine l.all
    (fold (λ (all : List ℕ) (next : Option Contents). one_more (g.R.ReduceOp.combines l.op) all next) l.fn.all.values
    (blocks_known l.seat.own l.mine l.seat.inside.now.incarnation l.seat.inside.now.context
    l.seat.inside.now.number l.seat.notes.now
    (take l.rank-index l.ranks)))
