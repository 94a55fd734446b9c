use Rattle.std.proofs.Common.{take}
use Rattle.type_maps.specs.Constructors.{blocks_with}
use Rattle.type_maps.specs.Maps.{Map}
use Rattle.type_maps.specs.Types.{IsBuilt, IsTypeOf, after_blocks}
use Rattle.type_maps.proofs.indexed.add_blocks.Given as goal

abbrev pub invariant-loop-block : goal.invariant-loop-block
invariant-loop-block l = (m n : Map) → IsBuilt m l.initial.made → IsTypeOf n l.item →
    IsBuilt (after_blocks m (blocks_with (take l.block-index l.blocks) n)) l.made
