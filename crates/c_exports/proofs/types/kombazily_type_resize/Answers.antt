use Rattle.std.proofs.Common.{rules, refl, sym, ◌∙◌, inl, inr, w64, to_z, of_z}
use Rattle.std.proofs.Math.IntN.{◌*ℤ◌}
use Rattle.std.proofs.lemmas.Int.{to_z-of_z}
use mir.Val.{SFits}
use Rattle.type_maps.specs.Constructors.{resized}
use Rattle.type_maps.specs.Summaries.{summary_of}
use Rattle.type_runs.specs.Making.{ResizeFits}
use Rattle.type_runs.proofs.MakingLaws.{same_resize}
use Rattle.c_exports.proofs.types.kombazily_type_resize.Goals as goal

pub returns-in-Ok : goal.returns-in-Ok
returns-in-Ok c = λ m h.
    let fl : SFits w64 c.args.lower = search rules in
    let fc : SFits w64 c.args.count = search rules in
    let fu : SFits w64 c.args.unit = search rules in
    inl (
      refl,
      c.in-Ok.ensures m h ∙ (λ t. summary_of (resized (to_z-of_z w64 c.args.lower fl t)
          (to_z-of_z w64 c.args.count fc t *ℤ to_z-of_z w64 c.args.unit fu t) m)),
    )

pub returns-in-Err : goal.returns-in-Err
returns-in-Err c = λ m h.
    let fl : SFits w64 c.args.lower = search rules in
    let fc : SFits w64 c.args.count = search rules in
    let fu : SFits w64 c.args.unit = search rules in
    let why : ResizeFits c.args.lower c.args.count c.args.unit → ⊥ = λ f. c.in-Err.ensures m h
    (same_resize c.args.lower c.args.count c.args.unit (to_z w64 (of_z w64 c.args.lower))
    (to_z w64 (of_z w64 c.args.count)) (to_z w64 (of_z w64 c.args.unit)) (sym (to_z-of_z w64 c.args.lower fl))
    (sym (to_z-of_z w64 c.args.count fc)) (sym (to_z-of_z w64 c.args.unit fu)) f) in
    inr (refl, why, refl)
