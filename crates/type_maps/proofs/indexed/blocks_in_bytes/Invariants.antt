use Rattle.std.proofs.Common.{◌≡◌, take}
use Rattle.type_maps.specs.Constructors as constructors
use Rattle.type_maps.proofs.indexed.blocks_in_bytes.Given as goal

abbrev pub invariant-loop-block : goal.invariant-loop-block
invariant-loop-block l = l.made.items ≡ constructors.blocks_in_bytes l.extent (take l.block-index l.blocks)
