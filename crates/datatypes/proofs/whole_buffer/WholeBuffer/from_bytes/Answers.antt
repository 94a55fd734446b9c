use Rattle.std.proofs.Common.{rules}
use Rattle.datatypes.proofs.BufferSteps.{all_bytes}
use Rattle.datatypes.proofs.whole_buffer.WholeBuffer.from_bytes.Goals as goal

pub invariant_of-result : goal.invariant_of-result
invariant_of-result c =
    record { no_rest = c.requires; are_bytes = all_bytes c.args.bytes.items (λ i d h. search rules) }
