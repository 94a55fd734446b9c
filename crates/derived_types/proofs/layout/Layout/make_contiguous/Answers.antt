use Rattle.std.proofs.Common.{◌≡◌, length, ap, ◌∙◌, arith}
use Rattle.derived_types.specs.declared.span.Span.{Span}
use Rattle.derived_types.specs.Layouts.{Shape, contiguous_offsets}
use Rattle.derived_types.proofs.LayoutLaws.{some-copies, within_of}
use Rattle.derived_types.proofs.layout.Layout.make_contiguous.Goals as goal

pub append_copies-requires-clause-some : goal.append_copies-requires-clause-some
append_copies-requires-clause-some c =
    let offsets = c.args.self.now.offsets in
    let same : c.as_slice.result.now ≡ offsets = c.as_slice.ensures.value ∙ ap (λ (s : Shape). s.offsets) c.self.view_is in
    let count : c.args.span.entries ≡ length (contiguous_offsets c.args.count offsets) = ap (λ (s : Span). s.entries) c.requires.span in
    let t = c.if-span-gt0.true in
    rw same (some-copies 0 c.args.count offsets (omega arith))

pub append_copies-requires-clause-near : goal.append_copies-requires-clause-near
append_copies-requires-clause-near c =
    let offsets = c.args.self.now.offsets in
    let same : c.as_slice.result.now ≡ offsets = c.as_slice.ensures.value ∙ ap (λ (s : Shape). s.offsets) c.self.view_is in
    let w = within_of (contiguous_offsets c.args.count offsets) c.requires.within in
    rw same (omega arith)
