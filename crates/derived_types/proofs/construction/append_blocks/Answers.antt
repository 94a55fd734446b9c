use Rattle.std.proofs.Common.{◌<◌, ◌++◌, ℕ, List, length, get_or, take, ap, sym, refl, ◌∙◌, arith}
use Rattle.std.proofs.lemmas.List.{append-nil, append_assoc, take_more}
use Rattle.derived_types.specs.declared.block.IndexedBlock.{IndexedBlock}
use Rattle.derived_types.specs.Layouts.{copies_at, indexed_offsets}
use Rattle.derived_types.proofs.LayoutLaws.{indexed_offsets-none, indexed_offsets-more, block-le-indexed}
use Rattle.derived_types.proofs.construction.append_blocks.Goals as goal

abbrev no_block : IndexedBlock
no_block = record { length = 0; displacement = 0 }

pub loop-block-init : goal.loop-block-init
loop-block-init c = rw (indexed_offsets-none c.args.old.now, append-nil c.args.offsets.now.items) refl

pub append_copies-requires-clause-near : goal.append_copies-requires-clause-near
append_copies-requires-clause-near c =
    let le = block-le-indexed c.args.blocks.now c.loop-block.block-index no_block c.args.old.now (omega arith) in
    let near = c.requires.near in
    omega arith

pub loop-block-preserved : goal.loop-block-preserved
loop-block-preserved c =
    let old = c.args.old.now in
    let blocks = c.args.blocks.now in
    let i = c.loop-block.block-index in
    let b : IndexedBlock = get_or blocks i no_block in
    let lt : i < length blocks = omega arith in
    let block = copies_at b.displacement b.length old in
    c.in_ok-append_copies.ensures
    ∙ ap (λ (t : List ℕ). t ++ block) c.loop-block.invariant
    ∙ append_assoc c.args.offsets.now.items (indexed_offsets (take i blocks) old) block
    ∙ ap (λ (t : List ℕ). c.args.offsets.now.items ++ t)
    (sym (ap (λ (bs : List IndexedBlock). indexed_offsets bs old) (take_more blocks i no_block lt) ∙
    indexed_offsets-more (take i blocks) b old))
