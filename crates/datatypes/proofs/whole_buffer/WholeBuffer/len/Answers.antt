use Rattle.std.proofs.Common.{◌/◌, length, ℕ, sym, ap, ◌∙◌, arith}
use Rattle.vocabulary.specs.BasicTypes.{size_of}
use Rattle.datatypes.specs.Contents.{Contents}
use Rattle.datatypes.specs.ContentLaws.{sizes, length-values_of}
use Rattle.datatypes.proofs.whole_buffer.WholeBuffer.len.Goals as goal

pub nonzero_div-result : goal.nonzero_div-result
nonzero_div-result c = let h = (sizes c.self.inside.basic).positive in omega arith

pub returns : goal.returns
returns c =
    let b = c.self.inside in
    ap (λ (n : ℕ). n / c.from.result) (c.len.ensures ∙ b.bytes.ok.0)
    ∙ ap (λ (n : ℕ). length b.bytes.items / n) (c.from.ensures ∙ c.size.ensures)
    ∙ sym (length-values_of (size_of b.basic) b.bytes.items)
    ∙ ap (λ (v : Contents). length v.values) c.self.view_is
