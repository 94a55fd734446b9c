use Rattle.std.proofs.Common.{◌≡◌, ◌*◌, ℕ, List, length, take, drop}
use Rattle.datatypes.specs.Contents.{values_of, AreWhole}
use Rattle.derived_types.specs.Layouts.{moved}
use Rattle.datatypes.specs.Transfers.{put_at}
use Rattle.datatypes.proofs.unpacking.put_blocks.Given as goal

-- the first elements stand at their offsets
pub record HasMoved (size from start count : ℕ) (old message offsets new : List ℕ) : Type 0 where
  pub whole : AreWhole size new
  pub len : length new ≡ length old
  pub elements : length (values_of size new) ≡ length (values_of size old)
  pub values : values_of size new ≡
      put_at (values_of size old) (moved from (take count offsets)) (take count (drop start (values_of size message)))

abbrev pub invariant-loop-number : goal.invariant-loop-number
invariant-loop-number l = HasMoved l.copy.size l.copy.from l.start (l.number * l.block) l.fn.bytes l.message
    l.copy.offsets.now l.bytes
