use Rattle.std.proofs.Common.{◌≡◌, length, ap, ◌∙◌, arith}
use Rattle.derived_types.specs.declared.span.Span.{Span}
use Rattle.derived_types.specs.Layouts.{Shape, indexed_offsets}
use Rattle.derived_types.proofs.LayoutLaws.{some-indexed, within_of}
use Rattle.derived_types.proofs.layout.Layout.make_indexed.Goals as goal

pub append_blocks-requires-clause-some : goal.append_blocks-requires-clause-some
append_blocks-requires-clause-some c =
    let offsets = c.args.self.now.offsets in
    let same : c.as_slice.result.now ≡ offsets = c.as_slice.ensures.value ∙ ap (λ (s : Shape). s.offsets) c.self.view_is in
    let count : c.args.span.entries ≡ length (indexed_offsets c.args.blocks.now offsets) = ap (λ (s : Span). s.entries) c.requires.span in
    let t = c.if-span-gt0.true in
    rw same (some-indexed c.args.blocks.now offsets (omega arith))

pub append_blocks-requires-clause-near : goal.append_blocks-requires-clause-near
append_blocks-requires-clause-near c =
    let offsets = c.args.self.now.offsets in
    let same : c.as_slice.result.now ≡ offsets = c.as_slice.ensures.value ∙ ap (λ (s : Shape). s.offsets) c.self.view_is in
    let w = within_of (indexed_offsets c.args.blocks.now offsets) c.requires.within in
    rw same (omega arith)
