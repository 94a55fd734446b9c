use Rattle.std.proofs.Common.{◌≡◌, ◌≤◌, ◌-◌, ◌++◌, ℕ, List, length, sym, ap, ◌∙◌}
use Rattle.std.specs.Prelude.{vec_capacity}
use Rattle.vocabulary.specs.declared.basic_type.BasicType.{BasicType}
use Rattle.vocabulary.specs.BasicTypes.{size_of}
use Rattle.datatypes.specs.Contents.{Contents, values_of, AreWhole}
use Rattle.datatypes.specs.ContentLaws.{sizes, values_of-append}
use Rattle.datatypes.specs.Rooms.{StoreState}
use Rattle.datatypes.proofs.RoomLaws.{room_for_more, state_of, stored_more}
use Rattle.datatypes.proofs.store.Store.write.Goals as goal

pub append_reserved-requires : goal.append_reserved-requires
append_reserved-requires c =
    let b = c.self.inside in
    let f = c.next.inside in
    let size = size_of b.basic in
    let same : f.basic ≡ b.basic = ap (λ (v : Contents). v.basic) c.next.view_is ∙ c.requires.basic ∙ sym (ap (λ (v : StoreState). v.basic) c.self.view_is) in
    let next : AreWhole size f.bytes.items = rw (← same) c.next.invariant in
    let vf : values_of size f.bytes.items ≡ c.args.next.now.values = ap (λ (t : BasicType). values_of (size_of t) f.bytes.items) (sym same) ∙ ap (λ (v : Contents). v.values) c.next.view_is in
    let left : b.unwritten ≡ c.args.self.now.unwritten = ap (λ (v : StoreState). v.unwritten) c.self.view_is in
    let fits : length (values_of size f.bytes.items) ≤ b.unwritten = rw (vf, left) c.requires.fits in
    rw c.as_slice.ensures.value
    (room_for_more b.basic b.bytes.items f.bytes.items b.unwritten (vec_capacity b.bytes) c.self.invariant next fits)

pub invariant_of-self : goal.invariant_of-self
invariant_of-self c =
    let b = c.self.inside in
    let f = c.next.inside in
    let size = size_of b.basic in
    let same : f.basic ≡ b.basic = ap (λ (v : Contents). v.basic) c.next.view_is ∙ c.requires.basic ∙ sym (ap (λ (v : StoreState). v.basic) c.self.view_is) in
    let next : AreWhole size f.bytes.items = rw (← same) c.next.invariant in
    let vf : values_of size f.bytes.items ≡ c.args.next.now.values = ap (λ (t : BasicType). values_of (size_of t) f.bytes.items) (sym same) ∙ ap (λ (v : Contents). v.values) c.next.view_is in
    let left : b.unwritten ≡ c.args.self.now.unwritten = ap (λ (v : StoreState). v.unwritten) c.self.view_is in
    let fits : length (values_of size f.bytes.items) ≤ b.unwritten = rw (vf, left) c.requires.fits in
    let items : c.append_reserved.new.bytes.items ≡ b.bytes.items ++ f.bytes.items =
    c.append_reserved.ensures.items ∙ ap (λ (t : List ℕ). b.bytes.items ++ t) c.as_slice.ensures.value
    in
    let count : c.len.result ≡ length (values_of size f.bytes.items) = c.len.ensures ∙ ap length (sym vf) in
    rw (items, count)
    (stored_more b.basic b.bytes.items f.bytes.items b.unwritten (vec_capacity b.bytes) _ c.self.invariant next fits
    c.append_reserved.ensures.capacity)

pub returns : goal.returns
returns c =
    let b = c.self.inside in
    let f = c.next.inside in
    let size = size_of b.basic in
    let same : f.basic ≡ b.basic = ap (λ (v : Contents). v.basic) c.next.view_is ∙ c.requires.basic ∙ sym (ap (λ (v : StoreState). v.basic) c.self.view_is) in
    let next : AreWhole size f.bytes.items = rw (← same) c.next.invariant in
    let vf : values_of size f.bytes.items ≡ c.args.next.now.values = ap (λ (t : BasicType). values_of (size_of t) f.bytes.items) (sym same) ∙ ap (λ (v : Contents). v.values) c.next.view_is in
    let left : b.unwritten ≡ c.args.self.now.unwritten = ap (λ (v : StoreState). v.unwritten) c.self.view_is in
    let fits : length (values_of size f.bytes.items) ≤ b.unwritten = rw (vf, left) c.requires.fits in
    let items : c.append_reserved.new.bytes.items ≡ b.bytes.items ++ f.bytes.items =
    c.append_reserved.ensures.items ∙ ap (λ (t : List ℕ). b.bytes.items ++ t) c.as_slice.ensures.value
    in
    let values : values_of size c.append_reserved.new.bytes.items ≡ values_of size b.bytes.items ++ c.args.next.now.values =
    ap (values_of size) items
    ∙ values_of-append size b.bytes.items f.bytes.items (sizes b.basic).positive c.self.invariant.whole.no_rest
    ∙ ap (λ (t : List ℕ). values_of size b.bytes.items ++ t) vf
    in
    ap (λ (t : List ℕ). state_of b.basic t (b.unwritten - c.len.result)) values
    ∙ ap (λ (n : ℕ). state_of b.basic (values_of size b.bytes.items ++ c.args.next.now.values) (b.unwritten - n))
    c.len.ensures
    ∙ ap (λ (v : StoreState). state_of v.basic (v.values ++ c.args.next.now.values)
    (v.unwritten - length c.args.next.now.values)) c.self.view_is
