use Rattle.std.proofs.Common.{◌≡◌, ◌+◌, ◌*◌, length, sym, ap, ◌∙◌, arith}
use Rattle.vocabulary.specs.BasicTypes.{size_of}
use Rattle.datatypes.specs.Rooms.{StoreState}
use Rattle.datatypes.proofs.RoomLaws.{all_bytes_are}
use Rattle.datatypes.proofs.store.Store.try_clone.Goals as goal

pub invariant_of-result : goal.invariant_of-result
invariant_of-result c =
    let b = c.self.inside in
    let items : c.in_ok-bytes.bytes.items ≡ b.bytes.items = c.in_ok-bytes.ensures.items ∙ c.as_slice.ensures.value in
    let len : c.byte_len.result ≡ length b.bytes.items + b.unwritten * size_of b.basic =
    c.byte_len.ensures ∙ sym (all_bytes_are b.basic b.bytes.items b.unwritten c.self.invariant.whole ∙
    ap (λ (v : StoreState). (length v.values + v.unwritten) * size_of v.basic) c.self.view_is)
    in
    let room = c.in_ok-bytes.ensures.room in
    rw items (record { whole = c.self.invariant.whole; room = omega arith; many = c.self.invariant.many })
