use Rattle.std.proofs.Common.{◌≡◌, ◌*◌, length, take, drop, ℕ, List, sym, ap, ◌∙◌, arith}
use Rattle.vocabulary.specs.BasicTypes.{size_of}
use Rattle.datatypes.specs.Contents.{values_of}
use Rattle.datatypes.specs.ContentLaws.{sizes}
use Rattle.datatypes.specs.Rooms.{StoreState}
use Rattle.datatypes.proofs.BufferSteps.{contents_of}
use Rattle.datatypes.proofs.RoomLaws.{part_fits, part_is}
use Rattle.datatypes.proofs.store.Store.part.Goals as goal

pub overflow_mul-from : goal.overflow_mul-from
overflow_mul-from c =
    let b = c.self.inside in
    let same : length c.args.self.now.values ≡ length (values_of (size_of b.basic) b.bytes.items) = ap (λ (v : StoreState). length v.values) (sym c.self.view_is) in
    let fits = part_fits (size_of b.basic) b.bytes.items c.args.from c.args.count c.self.invariant.whole (omega (arith, c.requires)) in
    let ok = b.bytes.ok in
    let small = b.bytes.small in
    rw (c.from-size.ensures, c.size.ensures) (omega arith)

pub overflow_mul-count : goal.overflow_mul-count
overflow_mul-count c =
    let b = c.self.inside in
    let same : length c.args.self.now.values ≡ length (values_of (size_of b.basic) b.bytes.items) = ap (λ (v : StoreState). length v.values) (sym c.self.view_is) in
    let fits = part_fits (size_of b.basic) b.bytes.items c.args.from c.args.count c.self.invariant.whole (omega (arith, c.requires)) in
    let ok = b.bytes.ok in
    let small = b.bytes.small in
    rw (c.from-size.ensures, c.size.ensures) (omega arith)

pub run-there-requires : goal.run-there-requires
run-there-requires c =
    let b = c.self.inside in
    let same : length c.args.self.now.values ≡ length (values_of (size_of b.basic) b.bytes.items) = ap (λ (v : StoreState). length v.values) (sym c.self.view_is) in
    let fits = part_fits (size_of b.basic) b.bytes.items c.args.from c.args.count c.self.invariant.whole (omega (arith, c.requires)) in
    rw (c.from-size.ensures, c.size.ensures, c.as_slice.ensures.value) fits

pub returns : goal.returns
returns c =
    let b = c.self.inside in
    let size = size_of b.basic in
    let s : c.from-size.result ≡ size = c.from-size.ensures ∙ c.size.ensures in
    let same : length c.args.self.now.values ≡ length (values_of size b.bytes.items) = ap (λ (v : StoreState). length v.values) (sym c.self.view_is) in
    let there : c.run-there.result.now ≡ take (c.args.count * size) (drop (c.args.from * size) b.bytes.items) =
    c.run-there.ensures
    ∙ ap (λ (n : ℕ). take (c.args.count * n) (drop (c.args.from * n) c.as_slice.result.now)) s
    ∙ ap (λ (t : List ℕ). take (c.args.count * size) (drop (c.args.from * size) t)) c.as_slice.ensures.value
    in
    let values : values_of size c.in_ok-bytes.bytes.items ≡ take c.args.count (drop c.args.from (values_of size b.bytes.items)) =
    ap (values_of size) (c.in_ok-bytes.ensures.items ∙ there)
    ∙ part_is size b.bytes.items c.args.from c.args.count (sizes b.basic).positive c.self.invariant.whole (omega (arith, c.requires))
    in
    ap (contents_of b.basic) values
    ∙ ap (λ (v : StoreState). contents_of v.basic (take c.args.count (drop c.args.from v.values))) c.self.view_is
