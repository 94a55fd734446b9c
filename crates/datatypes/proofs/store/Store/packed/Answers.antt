use Rattle.std.proofs.Common.{◌≡◌, ◌≤◌, length, ℕ, List, sym, ap, subst, ◌∙◌}
use Rattle.vocabulary.specs.BasicTypes.{size_of}
use Rattle.datatypes.specs.Rooms.{StoreState, written_of}
use Rattle.datatypes.specs.Contents.{values_of, AreWhole}
use Rattle.derived_types.specs.Layouts.{places}
use Rattle.datatypes.specs.Transfers.{room_for, elements_at}
use Rattle.datatypes.proofs.BufferSteps.{contents_of}
use Rattle.datatypes.proofs.PlaceLaws.{send_room}
use Rattle.datatypes.proofs.store.Store.packed.Goals as goal

pub pack_bytes-requires-clause-near : goal.pack_bytes-requires-clause-near
pack_bytes-requires-clause-near c =
    let b = c.self.inside in
    let size = size_of b.basic in
    let s : c.from-size.result ≡ size = c.from-size.ensures ∙ c.size.ensures in
    let vb : values_of size b.bytes.items ≡ c.args.self.now.values = ap (λ (v : StoreState). v.values) c.self.view_is in
    let room : room_for (places c.args.copies c.args.layout.now.offsets) ≤ length (values_of size b.bytes.items) =
    rw vb (send_room (written_of c.args.self.now) c.args.layout.now c.args.copies c.requires)
    in
    rw (c.offsets.ensures, s, c.as_slice.ensures.value) room

pub invariant_of-result : goal.invariant_of-result
invariant_of-result c =
    let b = c.self.inside in
    let size = size_of b.basic in
    let s : c.from-size.result ≡ size = c.from-size.ensures ∙ c.size.ensures in
    subst (λ (n : ℕ). AreWhole n c.in_ok-bytes.bytes.items) s c.in_ok-bytes.ensures.whole

pub returns : goal.returns
returns c =
    let b = c.self.inside in
    let size = size_of b.basic in
    let s : c.from-size.result ≡ size = c.from-size.ensures ∙ c.size.ensures in
    let at = places c.args.copies c.args.layout.now.offsets in
    let values : values_of size c.in_ok-bytes.bytes.items ≡ elements_at (values_of size b.bytes.items) at =
    ap (λ (n : ℕ). values_of n c.in_ok-bytes.bytes.items) (sym s)
    ∙ c.in_ok-bytes.ensures.values
    ∙ ap (λ (n : ℕ). elements_at (values_of n c.as_slice.result.now) (places c.args.copies c.offsets.result.now)) s
    ∙ ap (λ (t : List ℕ). elements_at (values_of size t) (places c.args.copies c.offsets.result.now))
    c.as_slice.ensures.value
    ∙ ap (λ (t : List ℕ). elements_at (values_of size b.bytes.items) (places c.args.copies t)) c.offsets.ensures
    in
    ap (contents_of b.basic) values
    ∙ ap (λ (v : StoreState). contents_of v.basic (elements_at v.values at)) c.self.view_is
