use Rattle.std.proofs.Common.{sym, ap, ◌∙◌}
use Rattle.vocabulary.specs.BasicTypes.{size_of}
use Rattle.datatypes.specs.Contents.{Contents, bytes_of}
use Rattle.datatypes.specs.ContentLaws.{sizes, bytes_of-values_of, values_of-within}
use Rattle.datatypes.proofs.whole_buffer.WholeBuffer.as_bytes.Goals as goal

pub returns-clause-bytes : goal.returns-clause-bytes
returns-clause-bytes c =
    let b = c.self.inside in
    let kept = c.self.invariant in
    c.as_slice.ensures.value
    ∙ sym (bytes_of-values_of (size_of b.basic) (sizes b.basic) b.bytes.items kept.are_bytes kept.no_rest)
    ∙ ap (λ (v : Contents). bytes_of (size_of v.basic) v.values) c.self.view_is

pub returns-clause-within : goal.returns-clause-within
returns-clause-within c =
    let b = c.self.inside in
    rw (← c.self.view_is) (values_of-within (size_of b.basic) b.bytes.items c.self.invariant.are_bytes)
