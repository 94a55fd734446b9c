use Rattle.std.proofs.Common.{◌≡◌, ◌*◌, ◌/◌, length, ℕ, sym, ap, ◌∙◌, arith}
use Rattle.vocabulary.specs.declared.basic_type.BasicType.{BasicType}
use Rattle.vocabulary.specs.BasicTypes.{size_of}
use Rattle.datatypes.specs.Rooms.{StoreState}
use Rattle.datatypes.specs.Contents.{Contents, values_of, AreWhole}
use Rattle.datatypes.specs.ContentLaws.{whole, length-values_of}
use Rattle.datatypes.proofs.whole_buffer.WholeBuffer.combine_with.Goals as goal

pub combine_bytes-requires-clause-like : goal.combine_bytes-requires-clause-like
combine_bytes-requires-clause-like g c =
    let b = c.self.inside in
    let f = c.next.inside in
    let size = size_of b.basic in
    let same : f.basic ≡ b.basic = ap (λ (v : StoreState). v.basic) c.next.view_is ∙ c.requires.like.basic_is ∙ sym (ap (λ (v : Contents). v.basic) c.self.view_is) in
    let front : AreWhole size f.bytes.items = rw (← same) c.next.invariant.whole in
    let vf : values_of size f.bytes.items ≡ c.args.next.now.values = ap (λ (t : BasicType). values_of (size_of t) f.bytes.items) (sym same) ∙ ap (λ (v : StoreState). v.values) c.next.view_is in
    let vb : values_of size b.bytes.items ≡ c.args.self.now.values = ap (λ (v : Contents). v.values) c.self.view_is in
    let len : length (values_of size f.bytes.items) ≡ length (values_of size b.bytes.items) = ap length vf ∙ c.requires.like.len ∙ sym (ap length vb) in
    let q : length f.bytes.items / size ≡ length b.bytes.items / size = omega (arith, length-values_of size f.bytes.items, length-values_of size b.bytes.items) in
    ap length c.as_slice.ensures.value ∙ whole size f.bytes.items front.no_rest ∙ ap (λ (n : ℕ). n * size) q ∙
    sym (whole size b.bytes.items c.self.invariant.no_rest)
