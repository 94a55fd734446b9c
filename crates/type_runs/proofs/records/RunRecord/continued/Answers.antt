use Rattle.std.proofs.Common.{rules, ◌≡◌, ◌+◌, refl, sym, ◌∙◌, ap, w64, to_z, of_z, arith}
use Rattle.std.proofs.Math.IntN.{ℤ, pos, ◌+ℤ◌, ◌*ℤ◌}
use Rattle.std.proofs.lemmas.Int.{to_z-of_z, ints}
use mir.Val.{SFits}
use Rattle.type_maps.proofs.Words.{same_word, word_product}
use Rattle.type_runs.proofs.RunLaws.{goes_on}
use Rattle.type_runs.proofs.records.RunRecord.continued.Goals as goal

pub returns : goal.returns
returns c = λ bodies bytes more a b.
    let f : SFits w64 c.args.self.now.at = search rules in
    let g : SFits w64 c.step-stride.result = search rules in
    let h : SFits w64 c.in_ok-gap.gap = search rules in
    let k : SFits w64 c.in_ok-checked_mul.field-0 = search rules in
    let r : SFits w64 c.in-Ok.pieces = search rules in
    let way : c.in_ok-checked_mul.field-0 ≡ c.in-Ok.pieces *ℤ c.step-stride.result =
    word_product _ c.in-Ok.pieces c.step-stride.result r g c.in_ok-checked_mul.ensures.1 in
    let touch : c.in_ok-gap.gap ≡ pos c.args.self.now.count *ℤ c.step-stride.result =
    sym (same_word _ _ k h c.if-branch-gap.false) ∙ way ∙ ap (λ (x : ℤ). x *ℤ c.step-stride.result) c.in-Ok.ensures in
    let next : c.args.next.now.at ≡ c.args.self.now.at +ℤ c.in_ok-gap.gap =
    omega (arith, ints, c.in_ok-gap.ensures) in
    let word : to_z w64 (of_z w64 c.step-stride.result) ≡ c.step-stride.result = to_z-of_z w64 c.step-stride.result g in
    let many : c.in_ok-count.count ≡ c.args.self.now.count + c.args.next.now.count = search rules in
    goes_on bodies c.args.self.now c.args.next.now _ bytes more c.requires.length c.requires.body
    (c.has_other_step.ensures c.if-has_other_step.false) (c.has_other_step-2.ensures c.if-has_other_step-2.false)
    (next ∙ ap (λ (x : ℤ). c.args.self.now.at +ℤ x) touch ∙
    ap (λ (x : ℤ). c.args.self.now.at +ℤ (pos c.args.self.now.count *ℤ x)) (sym word))
    (to_z-of_z w64 c.args.self.now.at f) many refl refl a b
