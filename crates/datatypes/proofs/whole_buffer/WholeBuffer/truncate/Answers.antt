use Rattle.std.proofs.Common.{◌≡◌, ◌*◌, length, take, ℕ, sym, ap, ◌∙◌, arith}
use Rattle.vocabulary.specs.BasicTypes.{size_of}
use Rattle.datatypes.specs.Contents.{Contents, values_of}
use Rattle.datatypes.specs.ContentLaws.{sizes, values_of-take}
use Rattle.datatypes.proofs.BufferSteps.{contents_of, element_fits}
use Rattle.datatypes.proofs.whole_buffer.WholeBuffer.truncate.Goals as goal

pub overflow_mul-count : goal.overflow_mul-count
overflow_mul-count c =
    let b = c.self.inside in
    let same : length c.args.self.now.values ≡ length (values_of (size_of b.basic) b.bytes.items) = ap (λ (v : Contents). length v.values) (sym c.self.view_is) in
    let fits = element_fits (size_of b.basic) b.bytes.items c.args.count c.self.invariant (omega arith) in
    let ok = b.bytes.ok in
    let small = b.bytes.small in
    rw (c.from-size.ensures, c.size.ensures) (omega arith)

pub returns-then-count-len : goal.returns-then-count-len
returns-then-count-len c =
    let b = c.self.inside in
    let size = size_of b.basic in
    let same : length c.args.self.now.values ≡ length (values_of size b.bytes.items) = ap (λ (v : Contents). length v.values) (sym c.self.view_is) in
    let fits = element_fits size b.bytes.items c.args.count c.self.invariant (omega arith) in
    let values : values_of size c.truncate.new.self.items ≡ take c.args.count (values_of size b.bytes.items) =
    ap (values_of size) (c.truncate.ensures.items ∙
    ap (λ (n : ℕ). take (c.args.count * n) b.bytes.items) (c.from-size.ensures ∙ c.size.ensures))
    ∙ values_of-take size b.bytes.items c.args.count (sizes b.basic).positive (omega arith)
    in
    ap (contents_of b.basic) values
    ∙ ap (λ (v : Contents). contents_of v.basic (take c.args.count v.values)) c.self.view_is
