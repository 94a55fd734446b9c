use Rattle.std.proofs.Common.{◌≡◌, length, ap, ◌∙◌, arith}
use Rattle.derived_types.specs.declared.span.Span.{Span}
use Rattle.derived_types.specs.Layouts.{Shape, vector_offsets}
use Rattle.derived_types.proofs.LayoutLaws.{some-vector, within_of}
use Rattle.derived_types.proofs.layout.Layout.make_vector.Goals as goal

pub append_vector-requires-clause-some : goal.append_vector-requires-clause-some
append_vector-requires-clause-some c =
    let a = c.args in
    let offsets = c.args.self.now.offsets in
    let same : c.as_slice-old.result.now ≡ offsets = c.as_slice-old.ensures.value ∙ ap (λ (s : Shape). s.offsets) c.self.view_is in
    let count : c.args.span.entries ≡ length (vector_offsets a.count a.blocklength a.stride offsets) = ap (λ (s : Span). s.entries) c.requires.span in
    let t = c.if-span-gt0.true in
    rw same (some-vector a.count a.blocklength a.stride offsets (omega arith)).0

pub append_vector-requires-clause-blocks : goal.append_vector-requires-clause-blocks
append_vector-requires-clause-blocks c =
    let a = c.args in
    let offsets = c.args.self.now.offsets in
    let count : c.args.span.entries ≡ length (vector_offsets a.count a.blocklength a.stride offsets) = ap (λ (s : Span). s.entries) c.requires.span in
    let t = c.if-span-gt0.true in
    (some-vector a.count a.blocklength a.stride offsets (omega arith)).1

pub append_vector-requires-clause-near : goal.append_vector-requires-clause-near
append_vector-requires-clause-near c =
    let a = c.args in
    let offsets = c.args.self.now.offsets in
    let same : c.as_slice-old.result.now ≡ offsets = c.as_slice-old.ensures.value ∙ ap (λ (s : Shape). s.offsets) c.self.view_is in
    let w = within_of (vector_offsets a.count a.blocklength a.stride offsets) c.requires.within in
    rw same (omega arith)
