use Rattle.std.proofs.Common.{◌≡◌, ◌++◌, length, ℕ, ◌≤◌, List, drop, sym, ap, ◌∙◌, arith}
use Rattle.vocabulary.specs.declared.basic_type.BasicType.{BasicType}
use Rattle.vocabulary.specs.BasicTypes.{size_of}
use Rattle.datatypes.specs.Contents.{Contents, values_of, AreWhole}
use Rattle.datatypes.specs.ContentLaws.{sizes}
use Rattle.datatypes.proofs.BufferSteps.{contents_of, fewer_bytes, AreWhole-over, values_of-over}
use Rattle.datatypes.proofs.whole_buffer.WholeBuffer.overwrite.Goals as goal

pub put_over-requires : goal.put_over-requires
put_over-requires c =
    let b = c.self.inside in
    let f = c.front.inside in
    let size = size_of b.basic in
    let same : f.basic ≡ b.basic = ap (λ (v : Contents). v.basic) c.front.view_is ∙ c.requires.basic ∙ sym (ap (λ (v : Contents). v.basic) c.self.view_is) in
    let front : AreWhole size f.bytes.items = rw (← same) c.front.invariant in
    let vf : values_of size f.bytes.items ≡ c.args.front.now.values = ap (λ (t : BasicType). values_of (size_of t) f.bytes.items) (sym same) ∙ ap (λ (v : Contents). v.values) c.front.view_is in
    let vb : values_of size b.bytes.items ≡ c.args.self.now.values = ap (λ (v : Contents). v.values) c.self.view_is in
    let fewer : length f.bytes.items ≤ length b.bytes.items =
    fewer_bytes size f.bytes.items b.bytes.items front c.self.invariant (rw (vf, vb) c.requires.fits)
    in
    let lf = c.as_slice.ensures.len in
    let okf = f.bytes.ok.0 in
    let okb = b.bytes.ok.0 in
    omega arith

pub invariant_of-self : goal.invariant_of-self
invariant_of-self c =
    let b = c.self.inside in
    let f = c.front.inside in
    let size = size_of b.basic in
    let same : f.basic ≡ b.basic = ap (λ (v : Contents). v.basic) c.front.view_is ∙ c.requires.basic ∙ sym (ap (λ (v : Contents). v.basic) c.self.view_is) in
    let front : AreWhole size f.bytes.items = rw (← same) c.front.invariant in
    let vf : values_of size f.bytes.items ≡ c.args.front.now.values = ap (λ (t : BasicType). values_of (size_of t) f.bytes.items) (sym same) ∙ ap (λ (v : Contents). v.values) c.front.view_is in
    let vb : values_of size b.bytes.items ≡ c.args.self.now.values = ap (λ (v : Contents). v.values) c.self.view_is in
    let fewer : length f.bytes.items ≤ length b.bytes.items =
    fewer_bytes size f.bytes.items b.bytes.items front c.self.invariant (rw (vf, vb) c.requires.fits)
    in
    rw (c.put_over.ensures, c.as_slice.ensures.value)
    (AreWhole-over size f.bytes.items b.bytes.items (sizes b.basic).positive front c.self.invariant fewer)

pub returns : goal.returns
returns c =
    let b = c.self.inside in
    let f = c.front.inside in
    let size = size_of b.basic in
    let same : f.basic ≡ b.basic = ap (λ (v : Contents). v.basic) c.front.view_is ∙ c.requires.basic ∙ sym (ap (λ (v : Contents). v.basic) c.self.view_is) in
    let front : AreWhole size f.bytes.items = rw (← same) c.front.invariant in
    let vf : values_of size f.bytes.items ≡ c.args.front.now.values = ap (λ (t : BasicType). values_of (size_of t) f.bytes.items) (sym same) ∙ ap (λ (v : Contents). v.values) c.front.view_is in
    let vb : values_of size b.bytes.items ≡ c.args.self.now.values = ap (λ (v : Contents). v.values) c.self.view_is in
    let fewer : length f.bytes.items ≤ length b.bytes.items =
    fewer_bytes size f.bytes.items b.bytes.items front c.self.invariant (rw (vf, vb) c.requires.fits)
    in
    let bytes : c.put_over.new.bytes.items ≡ f.bytes.items ++ drop (length f.bytes.items) b.bytes.items =
    c.put_over.ensures ∙ ap (λ (t : List ℕ). t ++ drop (length t) b.bytes.items) c.as_slice.ensures.value
    in
    let over : values_of size c.put_over.new.bytes.items ≡ values_of size f.bytes.items ++ drop (length (values_of size f.bytes.items)) (values_of size b.bytes.items) =
    ap (values_of size) bytes ∙
    values_of-over size f.bytes.items b.bytes.items (sizes b.basic).positive front c.self.invariant fewer
    in
    let named : values_of size c.put_over.new.bytes.items ≡ c.args.front.now.values ++ drop (length c.args.front.now.values) c.args.self.now.values =
    over ∙ ap (λ (t : List ℕ). t ++ drop (length t) (values_of size b.bytes.items)) vf ∙
    ap (λ (t : List ℕ). c.args.front.now.values ++ drop (length c.args.front.now.values) t) vb
    in
    ap (contents_of b.basic) named ∙
    ap (λ (t : BasicType). contents_of t (c.args.front.now.values ++
    drop (length c.args.front.now.values) c.args.self.now.values)) (ap (λ (v : Contents). v.basic) c.self.view_is)
