use Rattle.std.proofs.Common.{◌≡◌, ◌*◌, ℕ, List, length, take}
use Rattle.datatypes.specs.Contents.{values_of, AreWhole}
use Rattle.derived_types.specs.Layouts.{places}
use Rattle.datatypes.specs.Transfers.{put_at}
use Rattle.datatypes.proofs.unpacking.put_sized.Given as goal

-- the elements of the first copies stand at their places
pub record HasCopies (size copies : ℕ) (old message offsets new : List ℕ) : Type 0 where
  pub whole : AreWhole size new
  pub len : length new ≡ length old
  pub elements : length (values_of size new) ≡ length (values_of size old)
  pub values : values_of size new ≡
      put_at (values_of size old) (places copies offsets) (take (copies * length offsets) (values_of size message))

abbrev pub invariant-loop-copy : goal.invariant-loop-copy
invariant-loop-copy l = HasCopies l.size l.copy l.fn.bytes l.message l.strided.offsets.now l.bytes
