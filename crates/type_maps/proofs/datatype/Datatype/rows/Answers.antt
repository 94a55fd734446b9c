use Rattle.std.proofs.Common.{rules, ◌∙◌, ap, w64}
use Rattle.std.proofs.lemmas.Int.{to_z-of_z}
use mir.Val.{SFits}
use Rattle.type_maps.specs.Types.{rows_apart}
use Rattle.type_maps.proofs.TypeLaws.{row_refused, rows_made}
use Rattle.type_maps.proofs.datatype.Datatype.rows.Goals as goal

pub returns-in-Ok : goal.returns-in-Ok
returns-in-Ok c = λ m t.
    let f : SFits w64 c.args.stride = search rules in
    rows_made c.args.count c.args.blocklength c.args.stride m c.in_a_row.result c.rows_apart.result c.in-Ok.row
    c.copies-in-Ok.result (c.in_a_row.ensures m t) (c.in-Ok.ensures m t)
    (c.rows_apart.ensures ∙ ap (rows_apart c.args.count) (to_z-of_z w64 c.args.stride f)) c.copies-in-Ok.ensures

pub returns-in-Err : goal.returns-in-Err
returns-in-Err c = λ m t. row_refused c.args.count c.args.blocklength c.args.stride m c.in_a_row.result c.in-Err.refusal
    (c.in_a_row.ensures m t) (c.in-Err.ensures m t)
