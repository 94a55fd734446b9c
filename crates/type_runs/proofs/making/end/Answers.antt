use Rattle.std.proofs.Common.{rules, ◌≡◌, ◌∙◌, sym, ap, subst, w64}
use Rattle.std.proofs.Math.IntN.{◌-ℤ◌}
use Rattle.std.proofs.lemmas.Int.{to_z-of_z}
use mir.Val.{SFits}
use Rattle.type_maps.specs.declared.summary.Summary.{Summary}
use Rattle.type_maps.specs.Refusals.{BoundsFit, Fits}
use Rattle.type_maps.specs.Summaries.{data_lower, data_upper, lower_bound, summary_of, upper_bound}
use Rattle.type_runs.proofs.making.end.Goals as goal

pub returns-then-is_too_wide : goal.returns-then-is_too_wide
returns-then-is_too_wide c = λ m h f. c.is_too_wide.ensures c.if-is_too_wide.true
    (subst (λ (s : Summary). Fits (data_upper s.span -ℤ data_lower s.span)) (sym (c.summary-summary.ensures ∙ h))
    f.true_extent)

pub returns-in_default : goal.returns-in_default
returns-in_default c = λ m h f. c.in_default.ensures.1 (subst (λ (s : Summary). BoundsFit s)
    (sym (c.summary-summary.ensures ∙ h)) f.bounds)

pub returns : goal.returns
returns c = λ m h.
    let e : c.summary-summary.result ≡ summary_of m = c.summary-summary.ensures ∙ h in
    let f : SFits w64 c.lower.result = search rules in
    let g : SFits w64 c.in-Ok.extent = search rules in
    record {
      summary_is = h;
      lower_is = to_z-of_z w64 c.lower.result f ∙ c.lower.ensures ∙ ap lower_bound e;
      extent_is = to_z-of_z w64 c.in-Ok.extent g ∙ c.in-Ok.ensures ∙
          (λ t. upper_bound (e t) -ℤ lower_bound (e t));
    }
