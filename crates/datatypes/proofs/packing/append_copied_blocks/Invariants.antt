use Rattle.std.proofs.Common.{◌≡◌, ◌++◌}
use Rattle.derived_types.specs.Layouts.{places}
use Rattle.datatypes.specs.Pieces.{pieces_of}
use Rattle.datatypes.proofs.packing.append_copied_blocks.Given as goal

abbrev pub invariant-loop-number : goal.invariant-loop-number
invariant-loop-number l = l.out.items ≡ l.fn.out.items ++
    pieces_of l.strided.size l.bytes (places l.number l.strided.offsets.now)
