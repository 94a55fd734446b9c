use Rattle.std.proofs.Common.{rules, ◌∙◌, refl, w64}
use Rattle.std.proofs.Common.{arith}
use Rattle.std.proofs.lemmas.Int.{to_z-of_z, ints}
use mir.Val.{SFits}
use Rattle.type_maps.proofs.PlaceLaws.{at_one_place, at_a_single_place}
use Rattle.type_maps.proofs.places.Places.at_each.Goals as goal

pub returns-then-self-eq1 : goal.returns-then-self-eq1
returns-then-self-eq1 c =
    let f : SFits w64 c.in_ok-at.at = search rules in
    let g : SFits w64 c.args.others.now.stride = search rules in
    at_one_place c.args.others.now c.args.self.now _ c.if-self-eq1.true
    (to_z-of_z w64 c.in_ok-at.at f ∙ omega (arith, ints, c.in_ok-at.ensures)) refl
    (to_z-of_z w64 c.args.others.now.stride g)

pub returns-then-others-eq1 : goal.returns-then-others-eq1
returns-then-others-eq1 c =
    let f : SFits w64 c.in_ok-at.at = search rules in
    let g : SFits w64 c.args.self.now.stride = search rules in
    at_a_single_place c.args.others.now c.args.self.now _ c.if-others-eq1.true
    (to_z-of_z w64 c.in_ok-at.at f ∙ omega (arith, ints, c.in_ok-at.ensures)) refl
    (to_z-of_z w64 c.args.self.now.stride g)
