use Rattle.std.proofs.Common.{◌≡◌, ◌++◌, ◌<◌, ◌^◌, ap, subst, ◌∙◌}
use Rattle.std.specs.Prelude.{OnOk, replicate}
use Rattle.vocabulary.specs.BasicTypes.{size_of}
use Rattle.byteorder.specs.Endian.{big_bytes}
use Rattle.datatypes.specs.Contents.{Contents, values_of, copies_of, AreWhole}
use Rattle.datatypes.specs.ContentLaws.{sizes}
use Rattle.datatypes.proofs.BufferSteps.{contents_of, contents_after, after_step, AreWhole-append, AreWhole-copies}
use Rattle.datatypes.proofs.BufferSteps.{values_of-copies}
use Rattle.datatypes.proofs.whole_buffer.WholeBuffer.push_copies.Goals as goal

pub invariant_of-self : goal.invariant_of-self
invariant_of-self c =
    let b = c.self.inside in
    let size = size_of b.basic in
    let s : c.from-size.result ≡ size = c.from-size.ensures ∙ c.size.ensures in
    let more : AreWhole size (b.bytes.items ++ copies_of c.args.count (big_bytes c.from-size.result c.args.number)) =
    rw s (AreWhole-append size b.bytes.items (copies_of c.args.count (big_bytes size c.args.number))
    (sizes b.basic).positive c.self.invariant
    (AreWhole-copies size c.args.number c.args.count (sizes b.basic).positive))
    in
    after_step c.append_copies.result (AreWhole size) c.append_copies.new.bytes.items _ _ c.append_copies.ensures more
    c.self.invariant

pub returns-clause-ok : goal.returns-clause-ok
returns-clause-ok c =
    let b = c.self.inside in
    let size = size_of b.basic in
    let s : c.from-size.result ≡ size = c.from-size.ensures ∙ c.size.ensures in
    let t : b.basic ≡ c.args.self.now.basic = ap (λ (v : Contents). v.basic) c.self.view_is in
    let fits : c.args.number < 256 ^ size = rw t c.requires in
    let more : values_of size (b.bytes.items ++ copies_of c.args.count (big_bytes c.from-size.result c.args.number)) ≡ values_of size b.bytes.items ++ replicate c.args.count c.args.number =
    rw s (values_of-copies size b.bytes.items c.args.number c.args.count (sizes b.basic).positive c.self.invariant fits)
    in
    subst (λ (v : Contents). OnOk c.append_copies.result
    (contents_of b.basic (values_of size c.append_copies.new.bytes.items) ≡
    contents_of v.basic (v.values ++ replicate c.args.count c.args.number))) c.self.view_is
    (contents_after c.append_copies.result b.basic c.append_copies.new.bytes.items _ _ _ c.append_copies.ensures more)
