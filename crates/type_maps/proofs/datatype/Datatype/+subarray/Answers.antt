use Rattle.std.proofs.Common.{◌<◌, List, length, subst, arith}
use Rattle.std.proofs.lemmas.List.{take_rest}
use Rattle.type_maps.specs.declared.blocks.Dimension.{Dimension}
use Rattle.type_maps.specs.Constructors.{part_of_rows}
use Rattle.type_maps.specs.Types.{MakesIf, PartsFit}
use Rattle.type_maps.proofs.TypeLaws.{parts_of_rows_made}
use Rattle.type_maps.proofs.datatype.Datatype.+subarray.Goals as goal

pub returns-in-Ok-part_of_row : goal.returns-in-Ok-part_of_row
returns-in-Ok-part_of_row t c = λ m s.
    let some : 0 < length c.args.dimensions.now = omega (arith, c.in-len1-up.len_at_least) in
    parts_of_rows_made c.args.dimensions.now _ m c.in-Ok-part_of_row.part c.subarray.result some
    (c.in-Ok-part_of_row.ensures m s)
    (λ x is. subst (λ (ds : List Dimension). MakesIf (PartsFit ds x) (part_of_rows ds x) c.subarray.result)
    (take_rest c.args.dimensions.now 1) (c.subarray.ensures x is))
