use Rattle.std.proofs.Common.{rules, ◌∙◌, ap, w64, to_z, of_z}
use Rattle.std.proofs.Math.IntN.{ℤ, pos}
use Rattle.std.proofs.lemmas.Int.{to_z-of_z}
use mir.Val.{SFits}
use Rattle.type_maps.specs.Maps.{copied, joined, no_elements, places_of}
use Rattle.type_maps.specs.Types.{in_a_row}
use Rattle.type_maps.proofs.TypeLaws.{marked, part_made, part_refused}
use Rattle.type_maps.proofs.datatype.Datatype.part_of_row.Goals as goal

pub returns-in-Ok-add : goal.returns-in-Ok-add
returns-in-Ok-add c = λ m t.
    let f : SFits w64 c.in-Ok.first = search rules in
    let g : SFits w64 c.in-Ok-extents.whole = search rules in
    part_made c.args.part.now m c.in_a_row.result (to_z w64 (of_z w64 c.in-Ok-extents.whole)) c.finish.result
    (c.in_a_row.ensures m t ∙ ap (λ (x : ℤ). in_a_row x c.args.part.now.subsize m)
    (to_z-of_z w64 c.in-Ok.first f ∙ c.in-Ok.ensures m t))
    (to_z-of_z w64 c.in-Ok-extents.whole g ∙ c.in-Ok-extents.ensures m t)
    (c.finish.ensures (marked (pos 0) (to_z w64 (of_z w64 c.in-Ok-extents.whole))
    (copied (places_of c.in_a_row.result) m))
    (c.mark.ensures (joined no_elements (copied (places_of c.in_a_row.result) m))
    (c.in-Ok-add.ensures no_elements m c.new-made.ensures t)))

pub returns-in-Err : goal.returns-in-Err
returns-in-Err c = λ m t.
    let f : SFits w64 c.in-Ok.first = search rules in
    part_refused c.args.part.now m c.in_a_row.result c.in-Err.refusal
    (c.in_a_row.ensures m t ∙ ap (λ (x : ℤ). in_a_row x c.args.part.now.subsize m)
    (to_z-of_z w64 c.in-Ok.first f ∙ c.in-Ok.ensures m t))
    (c.in-Err.ensures no_elements m c.new-made.ensures t)
