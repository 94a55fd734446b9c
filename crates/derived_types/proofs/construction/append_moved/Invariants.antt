use Rattle.std.proofs.Common.{◌≡◌, ◌++◌, take}
use Rattle.derived_types.specs.Layouts.{moved}
use Rattle.derived_types.proofs.construction.append_moved.Given as goal

abbrev pub invariant-loop-offset : goal.invariant-loop-offset
invariant-loop-offset l = l.offsets.items ≡ l.fn.offsets.items ++ moved l.by (take l.offset-index l.old)
