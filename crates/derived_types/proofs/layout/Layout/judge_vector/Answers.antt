use Rattle.std.proofs.Common.{ap, sym, ◌∙◌}
use Rattle.derived_types.specs.declared.span.Span.{Span}
use Rattle.derived_types.specs.Spans.{vector_span, unless_far}
use Rattle.derived_types.specs.Layouts.{vector_offsets}
use Rattle.derived_types.proofs.LayoutLaws.{judges, span_of-vector}
use Rattle.derived_types.proofs.layout.Layout.judge_vector.Goals as goal

pub returns : goal.returns
returns c =
    let offsets = c.args.self.now.offsets in
    let a = c.args in
    judges (vector_offsets a.count a.blocklength a.stride offsets) c.vector.result c.span_or_refusal.result
    (c.vector.ensures ∙ ap (λ (s : Span). unless_far (vector_span s a.count a.blocklength a.stride)) c.span.ensures.span
    ∙ ap unless_far (sym (span_of-vector a.count a.blocklength a.stride offsets)))
    c.span_or_refusal.ensures
