use Rattle.std.proofs.Common.{ap, sym, ◌∙◌}
use Rattle.derived_types.specs.declared.span.Span.{Span}
use Rattle.derived_types.specs.Spans.{copied_span, unless_far}
use Rattle.derived_types.specs.Layouts.{contiguous_offsets}
use Rattle.derived_types.proofs.LayoutLaws.{judges, span_of-copies}
use Rattle.derived_types.proofs.layout.Layout.judge_contiguous.Goals as goal

pub returns : goal.returns
returns c =
    let offsets = c.args.self.now.offsets in
    judges (contiguous_offsets c.args.count offsets) c.copies.result c.span_or_refusal.result
    (c.copies.ensures ∙ ap (λ (s : Span). unless_far (copied_span s 0 c.args.count)) c.span.ensures.span ∙
    ap unless_far (sym (span_of-copies 0 c.args.count offsets)))
    c.span_or_refusal.ensures
