use Rattle.std.proofs.Common.{◌≡◌, [], ◌∷◌, ◌++◌, ◌<◌, ◌^◌, ap, subst, ◌∙◌}
use Rattle.std.specs.Prelude.{OnOk}
use Rattle.vocabulary.specs.BasicTypes.{size_of}
use Rattle.byteorder.specs.Endian.{big_bytes}
use Rattle.datatypes.specs.Contents.{Contents, values_of, AreWhole}
use Rattle.datatypes.specs.ContentLaws.{sizes}
use Rattle.datatypes.proofs.BufferSteps.{contents_of, contents_after, after_step, AreWhole-append, AreWhole-single}
use Rattle.datatypes.proofs.BufferSteps.{values_of-push}
use Rattle.datatypes.proofs.whole_buffer.WholeBuffer.push_number.Goals as goal

pub invariant_of-self : goal.invariant_of-self
invariant_of-self c =
    let b = c.self.inside in
    let size = size_of b.basic in
    let s : c.from-size.result ≡ size = c.from-size.ensures ∙ c.size.ensures in
    let more : AreWhole size (b.bytes.items ++ big_bytes c.from-size.result c.args.number) =
    rw s (AreWhole-append size b.bytes.items (big_bytes size c.args.number) (sizes b.basic).positive c.self.invariant
    (AreWhole-single size c.args.number (sizes b.basic).positive))
    in
    after_step c.append_number.result (AreWhole size) c.append_number.new.bytes.items _ _ c.append_number.ensures more
    c.self.invariant

pub returns-clause-ok : goal.returns-clause-ok
returns-clause-ok c =
    let b = c.self.inside in
    let size = size_of b.basic in
    let s : c.from-size.result ≡ size = c.from-size.ensures ∙ c.size.ensures in
    let t : b.basic ≡ c.args.self.now.basic = ap (λ (v : Contents). v.basic) c.self.view_is in
    let fits : c.args.number < 256 ^ size = rw t c.requires in
    let more : values_of size (b.bytes.items ++ big_bytes c.from-size.result c.args.number) ≡ values_of size b.bytes.items ++ c.args.number ∷ [] =
    rw s (values_of-push size b.bytes.items c.args.number (sizes b.basic).positive c.self.invariant fits)
    in
    subst (λ (v : Contents). OnOk c.append_number.result
    (contents_of b.basic (values_of size c.append_number.new.bytes.items) ≡
    contents_of v.basic (v.values ++ c.args.number ∷ []))) c.self.view_is
    (contents_after c.append_number.result b.basic c.append_number.new.bytes.items _ _ _ c.append_number.ensures more)
