use Rattle.type_maps.specs.Maps.{no_elements}
use Rattle.type_maps.specs.Types.{after_blocks}
use Rattle.type_maps.proofs.TypeLaws.{parts_made, parts_refused}
use Rattle.type_maps.proofs.indexed.struct_of.Goals as goal

pub returns-in-Ok : goal.returns-in-Ok
returns-in-Ok c = λ ps a. parts_made ps c.finish.result
    (c.finish.ensures (after_blocks no_elements ps) (c.in-Ok.ensures no_elements ps c.new-made.ensures a))

pub returns-in-Err : goal.returns-in-Err
returns-in-Err c = λ ps a. parts_refused ps c.in-Err.refusal (c.in-Err.ensures no_elements ps c.new-made.ensures a)
