use Rattle.type_maps.specs.Constructors.{blocks_with}
use Rattle.type_maps.specs.Maps.{no_elements}
use Rattle.type_maps.specs.Types.{after_blocks}
use Rattle.type_maps.proofs.TypeLaws.{parts_made, parts_refused}
use Rattle.type_maps.proofs.datatype.Datatype.hindexed.Goals as goal

pub returns-in-Ok : goal.returns-in-Ok
returns-in-Ok c = λ m t. parts_made (blocks_with c.args.blocks.now m) c.finish.result
    (c.finish.ensures (after_blocks no_elements (blocks_with c.args.blocks.now m))
    (c.in-Ok.ensures no_elements m c.new-made.ensures t))

pub returns-in-Err : goal.returns-in-Err
returns-in-Err c = λ m t. parts_refused (blocks_with c.args.blocks.now m) c.in-Err.refusal
    (c.in-Err.ensures no_elements m c.new-made.ensures t)
