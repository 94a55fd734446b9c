use Rattle.std.proofs.Common.{rules, ◌∙◌, w64, to_z, of_z}
use Rattle.std.proofs.Math.IntN.{◌+ℤ◌}
use Rattle.std.proofs.lemmas.Int.{to_z-of_z}
use mir.Val.{SFits}
use Rattle.type_maps.proofs.TypeLaws.{marked, resized_made}
use Rattle.type_maps.proofs.datatype.Datatype.resized.Goals as goal

pub returns-in-Ok-again : goal.returns-in-Ok-again
returns-in-Ok-again c = λ m t.
    let f : SFits w64 c.args.lower = search rules in
    let g : SFits w64 c.args.extent = search rules in
    let h : SFits w64 c.in-Ok.upper = search rules in
    resized_made c.args.lower c.args.extent (to_z w64 (of_z w64 c.args.lower)) (to_z w64 (of_z w64 c.in-Ok.upper)) m
    c.finish.result
    (to_z-of_z w64 c.args.lower f)
    (to_z-of_z w64 c.in-Ok.upper h ∙ c.in-Ok.ensures ∙
    (λ i. to_z-of_z w64 c.args.lower f i +ℤ to_z-of_z w64 c.args.extent g i))
    (c.finish.ensures (marked (to_z w64 (of_z w64 c.args.lower)) (to_z w64 (of_z w64 c.in-Ok.upper)) m)
    (c.mark.ensures m (c.in-Ok-again.ensures m t)))
