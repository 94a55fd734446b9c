use Rattle.std.proofs.Common.{rules, subst, w64}
use Rattle.std.proofs.Math.IntN.{ℤ}
use Rattle.std.proofs.lemmas.Int.{to_z-of_z}
use mir.Val.{SFits}
use Rattle.type_maps.specs.Constructors as constructors
use Rattle.type_maps.specs.Types.{MakesIf, RowsFit}
use Rattle.type_maps.proofs.TypeLaws.{count_is, hvector_made}
use Rattle.type_maps.proofs.datatype.Datatype.hvector.Goals as goal

pub returns : goal.returns
returns c = λ m t.
    let f : SFits w64 c.args.count = search rules in
    let g : SFits w64 c.args.blocklength = search rules in
    let h : SFits w64 c.args.stride = search rules in
    hvector_made c.args.count c.args.blocklength c.in-Ok.blocks c.in-Ok-count_of.length c.args.stride m c.rows.result
    (count_is c.args.count c.in-Ok.blocks f c.in-Ok.ensures)
    (count_is c.args.blocklength c.in-Ok-count_of.length g c.in-Ok-count_of.ensures)
    (subst (λ (s : ℤ). MakesIf (RowsFit c.in-Ok.blocks c.in-Ok-count_of.length s m)
    (constructors.hvector c.in-Ok.blocks c.in-Ok-count_of.length s m) c.rows.result) (to_z-of_z w64 c.args.stride h)
    (c.rows.ensures m t))
