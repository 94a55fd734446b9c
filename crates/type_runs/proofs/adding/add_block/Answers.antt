use Rattle.std.proofs.Common.{rules, ◌≡◌, take, refl, sym, ap, ◌∙◌, subst, w64, to_z, of_z}
use Rattle.std.proofs.Math.IntN.{ℤ, ◌*ℤ◌}
use Rattle.std.proofs.lemmas.Int.{to_z-of_z}
use mir.Val.{SFits}
use Rattle.type_maps.specs.declared.places.Places.{Places}
use Rattle.type_maps.specs.Maps.{Map}
use Rattle.type_maps.specs.Summaries.{extent}
use Rattle.type_maps.specs.Refusals.{Fits}
use Rattle.type_maps.specs.Types.{AddFits, in_a_row}
use Rattle.type_runs.specs.Making.{Stand, with_copies}
use Rattle.type_runs.proofs.MakingLaws.{add_under, no_copies}
use Rattle.type_runs.proofs.adding.add_block.Goals as goal

pub returns : goal.returns
returns c = λ bodies m n a within b e.
    let fa : SFits w64 c.args.at = search rules in
    let fu : SFits w64 c.args.unit = search rules in
    let place : to_z w64 (of_z w64 c.args.at) *ℤ to_z w64 (of_z w64 c.args.unit) ≡ c.args.at *ℤ c.args.unit =
    λ t. to_z-of_z w64 c.args.at fa t *ℤ to_z-of_z w64 c.args.unit fu t in
    let f : SFits w64 c.in-Ok.first = search rules in
    let g : SFits w64 c.args.item.now.extent = search rules in
    let same : record {
      at = to_z w64 (of_z w64 c.in-Ok.first);
      count = c.args.count;
      stride = to_z w64 (of_z w64
          c.args.item.now.extent);
    } ≡ in_a_row (c.args.at *ℤ c.args.unit) c.args.count n =
    λ t. record {
      at = (to_z-of_z w64 c.in-Ok.first f ∙ c.in-Ok.ensures ∙ place) t;
      count = c.args.count;
      stride = (to_z-of_z w64 c.args.item.now.extent g ∙ e) t;
    } in
    add_under bodies _ _ _ _ n _ _ _ c.add_copies.result
    (λ h. subst (λ (p : Places). AddFits m n p) (sym same) h.copies) (ap (with_copies m n) same)
    (c.add_copies.ensures bodies m n a within b)

pub returns-then-count-eq0 : goal.returns-then-count-eq0
returns-then-count-eq0 c = λ bodies m n a within b e. record {
  stand = subst (λ (x : Map). Stand bodies x c.args.made.now (take c.args.used.now c.args.into.now))
      (sym (no_copies m n (c.args.at *ℤ c.args.unit) (extent n) c.args.count c.if-count-eq0.true)) a;
  within = within;
}

pub returns-in_default : goal.returns-in_default
returns-in_default c = λ bodies m n a within b e.
    let fa : SFits w64 c.args.at = search rules in
    let fu : SFits w64 c.args.unit = search rules in
    let place : to_z w64 (of_z w64 c.args.at) *ℤ to_z w64 (of_z w64 c.args.unit) ≡ c.args.at *ℤ c.args.unit =
    λ t. to_z-of_z w64 c.args.at fa t *ℤ to_z-of_z w64 c.args.unit fu t in
    record { same = refl; why = λ f. c.in_default.ensures.1 (subst (λ (z : ℤ). Fits z) (sym place) f.place) }
