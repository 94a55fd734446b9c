use Rattle.std.proofs.Common.{◌≤◌, ◌+◌, ◌*◌, ◌++◌, ℕ, List, ap, sym, refl, ◌∙◌, arith}
use Rattle.std.proofs.Math.Nat.{mul-le-mul_left}
use Rattle.std.proofs.lemmas.List.{append-nil, append_assoc}
use Rattle.derived_types.specs.Layouts.{extent_of, moved, copies_at}
use Rattle.derived_types.proofs.LayoutLaws.{place-le, extent-positive, copies_at-none, copies_at-more}
use Rattle.derived_types.proofs.construction.append_copies.Goals as goal

pub loop-i-init : goal.loop-i-init
loop-i-init c = rw (copies_at-none c.args.first c.args.old.now, append-nil c.args.offsets.now.items) refl

pub overflow_add-by : goal.overflow_add-by
overflow_add-by c =
    let old = c.args.old.now in
    let p = place-le c.args.first c.args.count c.loop-i.i old c.requires.some (omega arith) in
    let e = extent-positive old c.requires.some in
    let m : (c.args.first + c.loop-i.i) * 1 ≤ (c.args.first + c.loop-i.i) * extent_of old = mul-le-mul_left (c.args.first + c.loop-i.i) e in
    let near = c.requires.near in
    omega arith

pub overflow_mul-by : goal.overflow_mul-by
overflow_mul-by c =
    let old = c.args.old.now in
    let p = place-le c.args.first c.args.count c.loop-i.i old c.requires.some (omega arith) in
    let near = c.requires.near in
    rw c.requires.extent (omega arith)

pub overflow_cast-by : goal.overflow_cast-by
overflow_cast-by c =
    let old = c.args.old.now in
    let p = place-le c.args.first c.args.count c.loop-i.i old c.requires.some (omega arith) in
    let near = c.requires.near in
    rw c.requires.extent (omega arith)

pub append_moved-requires : goal.append_moved-requires
append_moved-requires c =
    let old = c.args.old.now in
    let p = place-le c.args.first c.args.count c.loop-i.i old c.requires.some (omega arith) in
    let near = c.requires.near in
    rw c.requires.extent (omega arith)

pub loop-i-preserved : goal.loop-i-preserved
loop-i-preserved c =
    let old = c.args.old.now in
    let by = (c.args.first + c.loop-i.i) * c.args.extent in
    c.in_ok-append_moved.ensures
    ∙ ap (λ (t : List ℕ). t ++ moved by old) c.loop-i.invariant
    ∙ append_assoc c.args.offsets.now.items (copies_at c.args.first c.loop-i.i old) (moved by old)
    ∙ ap (λ (e : ℕ). c.args.offsets.now.items ++
    (copies_at c.args.first c.loop-i.i old ++ moved ((c.args.first + c.loop-i.i) * e) old)) c.requires.extent
    ∙ ap (λ (t : List ℕ). c.args.offsets.now.items ++ t) (sym (copies_at-more c.args.first c.loop-i.i old))
