use Rattle.std.proofs.Common.{rules, w64}
use mir.Val.{SFits}
use Rattle.type_maps.proofs.TypeLaws.{contiguous_made, count_is}
use Rattle.type_maps.proofs.datatype.Datatype.contiguous.Goals as goal

pub returns-in-Ok : goal.returns-in-Ok
returns-in-Ok c = λ m t.
    let f : SFits w64 c.args.count = search rules in
    contiguous_made c.args.count c.in-Ok.count m c.in_a_row.result c.copies.result
    (count_is c.args.count c.in-Ok.count f c.in-Ok.ensures)
    (c.in_a_row.ensures m t) (c.copies.ensures m t)
