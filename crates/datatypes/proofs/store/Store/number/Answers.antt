use Rattle.std.proofs.Common.{◌≡◌, ◌/◌, length, ℕ, ◌<◌, ◌^◌, List, get_or, sym, ap, subst, ◌∙◌, arith}
use Rattle.vocabulary.specs.BasicTypes.{size_of}
use Rattle.datatypes.specs.Rooms.{StoreState}
use Rattle.datatypes.specs.Contents.{element_at, values_of}
use Rattle.datatypes.specs.ContentLaws.{length-values_of, get_or-values_of, values_of-within}
use Rattle.datatypes.proofs.BufferSteps.{element_fits}
use Rattle.datatypes.proofs.store.Store.number.Goals as goal

pub number_at-requires-clause-room : goal.number_at-requires-clause-room
number_at-requires-clause-room c =
    let b = c.self.inside in
    let same : length c.args.self.now.values ≡ length (values_of (size_of b.basic) b.bytes.items) = ap (λ (v : StoreState). length v.values) (sym c.self.view_is) in
    let fits = element_fits (size_of b.basic) b.bytes.items c.args.place c.self.invariant.whole (omega (arith, c.requires)) in
    rw (c.as_slice.ensures.value, c.from-size.ensures, c.size.ensures) fits

pub returns : goal.returns
returns c =
    let b = c.self.inside in
    let size = size_of b.basic in
    let same : length c.args.self.now.values ≡ length (values_of size b.bytes.items) = ap (λ (v : StoreState). length v.values) (sym c.self.view_is) in
    let lt : c.args.place < length b.bytes.items / size = omega (arith, c.requires, length-values_of size b.bytes.items) in
    let s : c.from-size.result ≡ size = c.from-size.ensures ∙ c.size.ensures in
    let number : c.number_at.result ≡ get_or c.args.self.now.values c.args.place 0 =
    c.number_at.ensures ∙ ap (λ (n : ℕ). element_at n c.as_slice.result.now c.args.place) s ∙
    ap (λ (t : List ℕ). element_at size t c.args.place) c.as_slice.ensures.value
    ∙ sym (get_or-values_of size b.bytes.items c.args.place lt) ∙
    ap (λ (v : StoreState). get_or v.values c.args.place 0) c.self.view_is
    in
    let within : get_or c.args.self.now.values c.args.place 0 < 256 ^ size_of c.args.self.now.basic =
    subst (λ (v : StoreState). get_or v.values c.args.place 0 < 256 ^ size_of v.basic) c.self.view_is
    (values_of-within size b.bytes.items c.self.invariant.whole.are_bytes c.args.place)
    in
    record { number = number; within = rw number within }
