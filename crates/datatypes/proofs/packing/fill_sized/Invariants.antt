use Rattle.std.proofs.Common.{◌≡◌, ◌*◌, ◌++◌, ℕ, List, length, drop}
use Rattle.datatypes.specs.Contents.{values_of, AreWhole}
use Rattle.derived_types.specs.Layouts.{places}
use Rattle.datatypes.specs.Transfers.{elements_at}
use Rattle.datatypes.proofs.packing.fill_sized.Given as goal

-- the elements of the first copies are gathered
pub record HasGathered (size copies : ℕ) (old bytes offsets new : List ℕ) : Type 0 where
  pub whole : AreWhole size new
  pub len : length new ≡ length old
  pub values : values_of size new ≡ elements_at (values_of size bytes) (places copies offsets) ++
      drop (copies * length offsets) (values_of size old)

abbrev pub invariant-loop-copy : goal.invariant-loop-copy
invariant-loop-copy l = HasGathered l.size l.copy l.fn.out l.bytes l.strided.offsets.now l.out
