use Rattle.std.proofs.Common.{◌∙◌, sym, refl, subst}
use Rattle.type_maps.specs.declared.summary.Summary.{Summary}
use Rattle.type_maps.specs.Refusals.{SummaryFits}
use Rattle.type_maps.specs.Summaries.{joined_summaries}
use Rattle.type_maps.proofs.SummaryLaws.{copied_told, summary_added}
use Rattle.type_runs.proofs.adding.numbers_with.Goals as goal

pub returns-in_default : goal.returns-in_default
returns-in_default c = λ m n b t f. c.in_default.ensures.1 (
  f.places,
  subst (λ (x : Summary). SummaryFits x) (copied_told n c.args.at.now c.summary.result (c.summary.ensures ∙ t))
      f.copies,
)

pub returns-in_default-joined : goal.returns-in_default-joined
returns-in_default-joined c = λ m n b t f. c.in_default-joined.ensures.1
    (subst (λ (x : Summary). SummaryFits x)
    (sym (summary_added m n c.args.at.now c.summary-2.result c.summary.result c.in-Ok.copies
    (joined_summaries c.summary-2.result c.in-Ok.copies) (c.summary-2.ensures ∙ b) (c.summary.ensures ∙ t)
    c.in-Ok.ensures refl)) f.all)

pub returns : goal.returns
returns c = λ m n b t. c.of.ensures.meant ∙ summary_added m n c.args.at.now c.summary-2.result c.summary.result
    c.in-Ok.copies c.in-Ok-joined.all (c.summary-2.ensures ∙ b) (c.summary.ensures ∙ t) c.in-Ok.ensures
    c.in-Ok-joined.ensures
