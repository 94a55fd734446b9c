use Rattle.std.proofs.Common.{◌≡◌, ◌++◌}
use Rattle.derived_types.specs.Layouts.{copies_at}
use Rattle.derived_types.proofs.construction.append_copies.Given as goal

abbrev pub invariant-loop-i : goal.invariant-loop-i
invariant-loop-i l = l.offsets.items ≡ l.fn.offsets.items ++ copies_at l.first l.i l.old
