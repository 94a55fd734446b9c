use Rattle.std.proofs.Common.{◌≤◌, ◌+◌, ◌*◌, ◌++◌, ℕ, List, ap, sym, refl, ◌∙◌, arith}
use Rattle.std.proofs.Math.Nat.{mul-le-mul_left}
use Rattle.std.proofs.lemmas.List.{append-nil, append_assoc}
use Rattle.derived_types.specs.Layouts.{extent_of, copies_at, vector_offsets}
use Rattle.derived_types.proofs.LayoutLaws.{place-le, extent-positive, vector_offsets-none, vector_offsets-more}
use Rattle.derived_types.proofs.LayoutLaws.{block-le-vector}
use Rattle.derived_types.proofs.construction.append_vector.Goals as goal

pub loop-i-init : goal.loop-i-init
loop-i-init c =
    rw (vector_offsets-none c.args.blocklength c.args.stride c.args.old.now, append-nil c.args.offsets.now.items) refl

pub overflow_mul-i : goal.overflow_mul-i
overflow_mul-i c =
    let old = c.args.old.now in
    let first = c.loop-i.i * c.args.stride in
    let le = block-le-vector c.args.count c.args.blocklength c.args.stride c.loop-i.i old (omega arith) in
    let p = place-le first c.args.blocklength 0 old c.requires.some c.requires.blocks in
    let e = extent-positive old c.requires.some in
    let m : (first + 0) * 1 ≤ (first + 0) * extent_of old = mul-le-mul_left (first + 0) e in
    let near = c.requires.near in
    omega arith

pub append_copies-requires-clause-near : goal.append_copies-requires-clause-near
append_copies-requires-clause-near c =
    let le = block-le-vector c.args.count c.args.blocklength c.args.stride c.loop-i.i c.args.old.now (omega arith) in
    let near = c.requires.near in
    omega arith

pub loop-i-preserved : goal.loop-i-preserved
loop-i-preserved c =
    let old = c.args.old.now in
    let block = copies_at (c.loop-i.i * c.args.stride) c.args.blocklength old in
    c.in_ok-append_copies.ensures
    ∙ ap (λ (t : List ℕ). t ++ block) c.loop-i.invariant
    ∙ append_assoc c.args.offsets.now.items (vector_offsets c.loop-i.i c.args.blocklength c.args.stride old) block
    ∙ ap (λ (t : List ℕ). c.args.offsets.now.items ++ t)
    (sym (vector_offsets-more c.loop-i.i c.args.blocklength c.args.stride old))
