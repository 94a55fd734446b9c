use Rattle.std.proofs.Common.{◌≡◌, ◌++◌}
use Rattle.derived_types.specs.Layouts.{vector_offsets}
use Rattle.derived_types.proofs.construction.append_vector.Given as goal

abbrev pub invariant-loop-i : goal.invariant-loop-i
invariant-loop-i l = l.offsets.items ≡ l.fn.offsets.items ++ vector_offsets l.i l.blocklength l.stride l.old
