use Rattle.std.proofs.Common.{◌≡◌, ◌++◌, take}
use Rattle.derived_types.specs.Layouts.{indexed_offsets}
use Rattle.derived_types.proofs.construction.append_blocks.Given as goal

abbrev pub invariant-loop-block : goal.invariant-loop-block
invariant-loop-block l = l.offsets.items ≡ l.fn.offsets.items ++ indexed_offsets (take l.block-index l.blocks) l.old
