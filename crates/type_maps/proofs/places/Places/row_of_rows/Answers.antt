use Rattle.std.proofs.Common.{rules, ◌≡◌, ◌*◌, ◌∙◌, sym, ap, w64}
use Rattle.std.proofs.Math.IntN.{ℤ, pos, ◌*ℤ◌}
use Rattle.std.proofs.lemmas.Int.{to_z-of_z}
use mir.Val.{SFits}
use Rattle.type_maps.proofs.PlaceLaws.{in_one_row}
use Rattle.type_maps.proofs.Words.{same_word, word_product}
use Rattle.type_maps.proofs.places.Places.row_of_rows.Goals as goal

pub returns-then-branch-others : goal.returns-then-branch-others
returns-then-branch-others c =
    let f : SFits w64 c.args.at = search rules in
    let g : SFits w64 c.args.self.now.stride = search rules in
    let h : SFits w64 c.in_ok-checked_mul.field-0 = search rules in
    let k : SFits w64 c.args.others.now.stride = search rules in
    let r : SFits w64 c.in-Ok.row = search rules in
    let z : c.in_ok-checked_mul.field-0 ≡ c.in-Ok.row *ℤ c.args.self.now.stride =
    word_product _ c.in-Ok.row c.args.self.now.stride r g c.in_ok-checked_mul.ensures.1 in
    let touch : c.args.others.now.stride ≡ pos c.args.self.now.count *ℤ c.args.self.now.stride =
    sym (same_word _ _ h k c.if-branch-others.true) ∙ z ∙ ap (λ (x : ℤ). x *ℤ c.args.self.now.stride) c.in-Ok.ensures in
    let many : c.in_ok-count.count ≡ c.args.others.now.count * c.args.self.now.count = search rules in
    in_one_row c.args.others.now c.args.self.now _ touch (to_z-of_z w64 c.args.at f ∙ c.requires) many
    (to_z-of_z w64 c.args.self.now.stride g)
