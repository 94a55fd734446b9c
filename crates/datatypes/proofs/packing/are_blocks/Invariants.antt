use Rattle.std.proofs.Common.{◌≡◌, ◌<◌, ◌*◌, ℕ, get_or, take, drop}
use Rattle.std.specs.List.{range_with_len}
use Rattle.datatypes.proofs.packing.are_blocks.Given as goal

abbrev pub invariant-loop-number : goal.invariant-loop-number
invariant-loop-number l =
    (k : ℕ) → k < l.number → take l.block (drop (k * l.block) l.offsets) ≡
    range_with_len (get_or l.offsets (k * l.block) 0) l.block
