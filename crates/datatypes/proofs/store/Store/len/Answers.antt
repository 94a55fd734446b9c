use Rattle.std.proofs.Common.{◌≡◌, length, sym, ap, ◌∙◌, arith}
use Rattle.vocabulary.specs.BasicTypes.{size_of}
use Rattle.datatypes.specs.Contents.{values_of}
use Rattle.datatypes.specs.Rooms.{StoreState}
use Rattle.datatypes.proofs.RoomLaws.{fewer, fewer_values}
use Rattle.datatypes.proofs.store.Store.len.Goals as goal

pub overflow_add-result : goal.overflow_add-result
overflow_add-result c =
    let b = c.self.inside in
    let f = fewer_values b.basic b.bytes.items c.self.invariant.whole in
    let g = fewer b.basic b.unwritten in
    let r = c.self.invariant.room in
    let s = b.bytes.small in
    let e : c.written.result ≡ length (values_of (size_of b.basic) b.bytes.items) =
    c.written.ensures ∙ ap (λ (v : StoreState). length v.values) (sym c.self.view_is)
    in
    omega arith
