use Rattle.std.proofs.Common.{refl, arith}
use Rattle.derived_types.proofs.layout.Layout.new.Goals as goal

pub invariant_of-result : goal.invariant_of-result
invariant_of-result c = rw c.in_ok-offsets.ensures.items (record {
  lowest_is = refl;
  highest_is = omega arith;
  repeats_is = refl;
  within = record { entries = omega arith; highest = omega arith; extent = omega arith };
})
