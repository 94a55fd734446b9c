use Rattle.std.proofs.Common.{rules, true, ◌≡◌, refl, ◌∙◌, w64, to_z, of_z}
use Rattle.std.proofs.Math.IntN.{◌+ℤ◌, ◌*ℤ◌}
use Rattle.std.proofs.lemmas.Int.{to_z-of_z}
use mir.Val.{SFits}
use Rattle.type_runs.proofs.MakingLaws.{resized_told}
use Rattle.type_runs.proofs.making.resize.Goals as goal

pub returns : goal.returns
returns c = λ m h.
    let fl : SFits w64 c.args.lower = search rules in
    let fc : SFits w64 c.args.count = search rules in
    let fu : SFits w64 c.args.unit = search rules in
    let fe : SFits w64 c.in-Ok.extent = search rules in
    let fs : SFits w64 c.in-Ok-sum.upper = search rules in
    let low : to_z w64 (of_z w64 c.args.lower) ≡ c.args.lower = to_z-of_z w64 c.args.lower fl in
    let wide : to_z w64 (of_z w64 c.in-Ok.extent) ≡ c.args.count *ℤ c.args.unit = to_z-of_z w64 c.in-Ok.extent fe ∙
    c.in-Ok.ensures ∙ (λ t. to_z-of_z w64 c.args.count fc t *ℤ to_z-of_z w64 c.args.unit fu t) in
    let high : to_z w64 (of_z w64 c.in-Ok-sum.upper) ≡ c.args.lower +ℤ (c.args.count *ℤ c.args.unit) =
    to_z-of_z w64 c.in-Ok-sum.upper fs ∙ c.in-Ok-sum.ensures ∙ (λ t. low t +ℤ wide t) in
    resized_told c.args.numbers.now (record c.args.numbers.now {
      lower_mark = to_z w64 (of_z w64 c.args.lower);
      upper_mark = to_z w64 (of_z w64 c.in-Ok-sum.upper);
      has_lower = true;
      has_upper = true;
    }) m c.args.lower (c.args.count *ℤ c.args.unit) refl refl refl refl low high refl
    refl refl refl refl refl h
