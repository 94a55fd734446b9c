use Rattle.std.proofs.Common.{◌*◌, length, ℕ, sym, ap, ◌∙◌}
use Rattle.vocabulary.specs.BasicTypes.{size_of}
use Rattle.datatypes.specs.Contents.{Contents}
use Rattle.datatypes.specs.ContentLaws.{whole, length-values_of}
use Rattle.datatypes.proofs.whole_buffer.WholeBuffer.byte_len.Goals as goal

pub returns : goal.returns
returns c =
    let b = c.self.inside in
    let w = whole (size_of b.basic) b.bytes.items c.self.invariant.no_rest in
    c.len.ensures ∙ b.bytes.ok.0 ∙ w
    ∙ ap (λ (k : ℕ). k * size_of b.basic) (sym (length-values_of (size_of b.basic) b.bytes.items))
    ∙ ap (λ (v : Contents). length v.values * size_of v.basic) c.self.view_is
