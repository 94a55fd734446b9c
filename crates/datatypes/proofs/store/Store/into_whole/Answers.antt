use Rattle.std.proofs.Common.{◌≡◌, ◌*◌, ◌++◌, ℕ, ap, ◌∙◌}
use Rattle.std.specs.Prelude.{replicate}
use Rattle.vocabulary.specs.BasicTypes.{size_of}
use Rattle.datatypes.specs.Rooms.{StoreState, all_of, with_zeros}
use Rattle.datatypes.specs.Contents.{values_of}
use Rattle.datatypes.proofs.BufferSteps.{contents_of}
use Rattle.datatypes.proofs.RoomLaws.{written_bytes, written_values}
use Rattle.datatypes.proofs.store.Store.into_whole.Goals as goal

pub returns : goal.returns
returns c =
    let b = c.self.inside in
    let size = size_of b.basic in
    let values : values_of size c.append_zeros.new.bytes.items ≡ with_zeros (values_of size b.bytes.items) b.unwritten =
    ap (values_of size) (c.append_zeros.ensures ∙
    ap (λ (n : ℕ). b.bytes.items ++ replicate (b.unwritten * n) 0) (c.from.ensures ∙ c.size.ensures))
    ∙ written_values b.basic b.bytes.items b.unwritten c.self.invariant.whole
    in
    ap (contents_of b.basic) values ∙ ap (λ (v : StoreState). all_of v) c.self.view_is

pub invariant_of-result : goal.invariant_of-result
invariant_of-result c =
    let b = c.self.inside in
    let items : c.append_zeros.new.bytes.items ≡ b.bytes.items ++ replicate (b.unwritten * size_of b.basic) 0 =
    c.append_zeros.ensures ∙
    ap (λ (n : ℕ). b.bytes.items ++ replicate (b.unwritten * n) 0) (c.from.ensures ∙ c.size.ensures)
    in
    rw items (written_bytes b.basic b.bytes.items b.unwritten c.self.invariant.whole)
