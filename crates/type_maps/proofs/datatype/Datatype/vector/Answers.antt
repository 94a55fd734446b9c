use Rattle.std.proofs.Common.{rules, subst, sym, ap, ◌∙◌, w64}
use Rattle.std.proofs.Math.IntN.{ℤ, ◌*ℤ◌}
use Rattle.std.proofs.lemmas.Int.{to_z-of_z}
use mir.Val.{SFits}
use Rattle.type_maps.specs.Constructors as constructors
use Rattle.type_maps.specs.Refusals.{Fits}
use Rattle.type_maps.specs.Types.{MakesIf, RowsFit}
use Rattle.type_maps.proofs.TypeLaws.{count_is, neither_negative, vector_made}
use Rattle.type_maps.proofs.Words.{word_product}
use Rattle.type_maps.proofs.datatype.Datatype.vector.Goals as goal

pub returns-in_default-product : goal.returns-in_default-product
returns-in_default-product c = λ m t.
    let f : SFits w64 c.args.count = search rules in
    let g : SFits w64 c.args.blocklength = search rules in
    let h : SFits w64 c.args.stride = search rules in
    let k : SFits w64 c.args.self.now.extent = search rules in (
      neither_negative c.args.count c.args.blocklength c.in-Ok.blocks c.in-Ok-count_of.length
          (count_is c.args.count c.in-Ok.blocks f c.in-Ok.ensures)
          (count_is c.args.blocklength c.in-Ok-count_of.length g c.in-Ok-count_of.ensures),
      λ fits. c.in_default-product.ensures.1 (subst (λ (x : ℤ). Fits x)
          (sym (λ i. to_z-of_z w64 c.args.stride h i *ℤ (to_z-of_z w64 c.args.self.now.extent k ∙ t.extent_is) i))
          fits.bytes),
    )

pub returns : goal.returns
returns c = λ m t.
    let f : SFits w64 c.args.count = search rules in
    let g : SFits w64 c.args.blocklength = search rules in
    let h : SFits w64 c.args.stride = search rules in
    let k : SFits w64 c.args.self.now.extent = search rules in
    let b : SFits w64 c.in-Ok-product.bytes = search rules in
    vector_made c.args.count c.args.blocklength c.in-Ok.blocks c.in-Ok-count_of.length c.args.stride
    c.in-Ok-product.bytes m c.rows.result
    (count_is c.args.count c.in-Ok.blocks f c.in-Ok.ensures)
    (count_is c.args.blocklength c.in-Ok-count_of.length g c.in-Ok-count_of.ensures)
    (word_product c.in-Ok-product.bytes c.args.stride c.args.self.now.extent h k c.in-Ok-product.ensures ∙
    ap (λ x. c.args.stride *ℤ x) t.extent_is)
    (subst (λ (s : ℤ). MakesIf (RowsFit c.in-Ok.blocks c.in-Ok-count_of.length s m)
    (constructors.hvector c.in-Ok.blocks c.in-Ok-count_of.length s m) c.rows.result)
    (to_z-of_z w64 c.in-Ok-product.bytes b)
    (c.rows.ensures m t))
