use Rattle.std.proofs.Common.{◌≡◌, ◌*◌, ℕ, length, sym, ap, subst, ◌∙◌}
use Rattle.std.specs.Prelude.{replicate}
use Rattle.std.proofs.lemmas.List.{take_at}
use Rattle.datatypes.specs.Contents.{values_of, AreWhole}
use Rattle.datatypes.proofs.FillLaws.{zeros_whole}
use Rattle.datatypes.proofs.packing.pack_apart.Goals as goal

pub fill_slices-requires-clause-out : goal.fill_slices-requires-clause-out
fill_slices-requires-clause-out c =
    let a = c.args in
    let size = a.strided.now.size in
    let count = a.copies * length a.strided.now.offsets.now in
    let zeros : c.in_ok-out.out.items ≡ replicate (count * size) 0 =
    c.in_ok-out.ensures.items_if_clones_equal (λ y h. h) ∙ ap (λ (n : ℕ). replicate n 0) c.in_ok-count.ensures in
    subst (AreWhole size) (sym (c.deref_mut.ensures.value ∙ zeros)) (zeros_whole size count a.strided.now.low).0

pub fill_slices-requires-clause-room : goal.fill_slices-requires-clause-room
fill_slices-requires-clause-room c =
    let a = c.args in
    let size = a.strided.now.size in
    let count = a.copies * length a.strided.now.offsets.now in
    let zeros : c.in_ok-out.out.items ≡ replicate (count * size) 0 =
    c.in_ok-out.ensures.items_if_clones_equal (λ y h. h) ∙ ap (λ (n : ℕ). replicate n 0) c.in_ok-count.ensures in
    ap (λ t. length (values_of size t)) (c.deref_mut.ensures.value ∙ zeros)
    ∙ (zeros_whole size count a.strided.now.low).1

pub returns-clause-whole : goal.returns-clause-whole
returns-clause-whole c =
    let new = c.fill_slices.new.out in
    let len : length new ≡ c.in_ok-out.out.len = c.fill_slices.ensures.len ∙ ap length c.deref_mut.ensures.value ∙
    sym c.in_ok-out.out.ok.0 in
    rw (take_at new _ c.in_ok-out.out.len len) c.fill_slices.ensures.whole

pub returns-clause-values : goal.returns-clause-values
returns-clause-values c =
    let new = c.fill_slices.new.out in
    let len : length new ≡ c.in_ok-out.out.len = c.fill_slices.ensures.len ∙ ap length c.deref_mut.ensures.value ∙
    sym c.in_ok-out.out.ok.0 in
    rw (take_at new _ c.in_ok-out.out.len len) c.fill_slices.ensures.values
