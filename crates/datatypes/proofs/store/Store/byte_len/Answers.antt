use Rattle.std.proofs.Common.{ℕ, ◌+◌, ◌*◌, length, ap, ◌∙◌}
use Rattle.vocabulary.specs.BasicTypes.{size_of}
use Rattle.datatypes.specs.Rooms.{StoreState}
use Rattle.datatypes.proofs.RoomLaws.{all_bytes_are}
use Rattle.datatypes.proofs.store.Store.byte_len.Goals as goal

pub returns : goal.returns
returns c =
    let b = c.self.inside in
    ap (λ (n : ℕ). n + b.unwritten * c.from.result) (c.len.ensures ∙ b.bytes.ok.0)
    ∙ ap (λ (n : ℕ). length b.bytes.items + b.unwritten * n) (c.from.ensures ∙ c.size.ensures)
    ∙ all_bytes_are b.basic b.bytes.items b.unwritten c.self.invariant.whole
    ∙ ap (λ (v : StoreState). (length v.values + v.unwritten) * size_of v.basic) c.self.view_is
