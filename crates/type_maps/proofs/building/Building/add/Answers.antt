use Rattle.std.proofs.Common.{refl, sym, subst}
use Rattle.type_maps.specs.declared.summary.Summary.{Summary}
use Rattle.type_maps.specs.Refusals.{SummaryFits}
use Rattle.type_maps.specs.Summaries.{joined_summaries}
use Rattle.type_maps.proofs.SummaryLaws.{copied_told, summary_added}
use Rattle.type_maps.proofs.building.Building.add.Goals as goal

pub returns-in_default : goal.returns-in_default
returns-in_default c = λ m n b t f. c.in_default.ensures.1 (
  f.places,
  subst (λ (x : Summary). SummaryFits x) (copied_told n c.args.at.now c.args.item.now.summary
      t.summary_is) f.copies,
)

pub returns-in_default-joined : goal.returns-in_default-joined
returns-in_default-joined c = λ m n b t f. c.in_default-joined.ensures.1
    (subst (λ (x : Summary). SummaryFits x)
    (sym (summary_added m n c.args.at.now c.args.self.now.summary c.args.item.now.summary c.in-Ok.copies
    (joined_summaries c.args.self.now.summary c.in-Ok.copies) b.summary_is t.summary_is c.in-Ok.ensures refl)) f.all)

pub returns-in-Ok-append_type : goal.returns-in-Ok-append_type
returns-in-Ok-append_type c = λ m n b t. record {
  summary_is = summary_added m n c.args.at.now c.args.self.now.summary c.args.item.now.summary c.in-Ok.copies
      c.in-Ok-joined.summary b.summary_is t.summary_is c.in-Ok.ensures c.in-Ok-joined.ensures;
  spells = c.in-Ok-append_type.ensures m.elements n b.spells t;
}
