use Rattle.std.proofs.Common.{◌≡◌, ◌*◌, ◌++◌, take}
use Rattle.derived_types.specs.Layouts.{moved}
use Rattle.datatypes.specs.Pieces.{pieces_of}
use Rattle.datatypes.proofs.packing.append_blocks.Given as goal

abbrev pub invariant-loop-number : goal.invariant-loop-number
invariant-loop-number l = l.out.items ≡ l.fn.out.items ++
    pieces_of l.copy.size l.bytes (moved l.copy.from (take (l.number * l.block) l.copy.offsets.now))
