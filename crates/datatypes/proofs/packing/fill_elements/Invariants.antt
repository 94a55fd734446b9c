use Rattle.std.proofs.Common.{◌≡◌, ◌+◌, ◌++◌, ℕ, List, length, take, drop}
use Rattle.datatypes.specs.Contents.{values_of, AreWhole}
use Rattle.derived_types.specs.Layouts.{moved}
use Rattle.datatypes.specs.Transfers.{elements_at}
use Rattle.datatypes.proofs.packing.fill_elements.Given as goal

-- the first elements are gathered
pub record HasFilled (size at from count : ℕ) (old bytes offsets new : List ℕ) : Type 0 where
  pub whole : AreWhole size new
  pub len : length new ≡ length old
  pub elements : length (values_of size new) ≡ length (values_of size old)
  pub values : values_of size new ≡
      (take at (values_of size old) ++ elements_at (values_of size bytes) (moved from (take count offsets))) ++
      drop (at + count) (values_of size old)

abbrev pub invariant-loop-i : goal.invariant-loop-i
invariant-loop-i l = HasFilled l.copy.size l.at l.copy.from l.i l.fn.out l.bytes l.copy.offsets.now l.out
