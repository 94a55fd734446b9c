-- The blocks of the ranks so far.
use Rattle.std.proofs.Common.{◌≡◌, ◌%◌, ℕ, List, length, take}
use Rattle.collective_progress.specs.Blocks.{blocks_known, joined_values}
use Rattle.datatypes.specs.Contents.{values_of}
use Rattle.vocabulary.specs.BasicTypes.{size_of}
use Rattle.collective_progress.proofs.gather.joined_bytes.Given as goal

-- bytes of whole elements, and these
pub record HasJoined (size : ℕ) (bytes values : List ℕ) : Type 0 where
  pub values_are : values_of size bytes ≡ values
  pub whole : length bytes % size ≡ 0

abbrev pub invariant-loop-rank : goal.invariant-loop-rank
invariant-loop-rank l =
    HasJoined (size_of l.mine.basic) l.bytes.items
    (joined_values
    (blocks_known l.seat.own l.mine l.seat.inside.now.incarnation l.seat.inside.now.context
    l.seat.inside.now.number l.seat.notes.now
    (take l.rank-index l.ranks)))
