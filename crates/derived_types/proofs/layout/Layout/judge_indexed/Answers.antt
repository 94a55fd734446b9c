use Rattle.std.proofs.Common.{◌≡◌, ◌<◌, ℕ, List, length, get_or, take, Option, ap, sym, ◌∙◌, arith}
use Rattle.std.proofs.lemmas.List.{take_more, take_all}
use Rattle.derived_types.specs.declared.block.IndexedBlock.{IndexedBlock}
use Rattle.derived_types.specs.declared.span.Span.{Span}
use Rattle.derived_types.specs.Layouts.{copies_at, indexed_offsets}
use Rattle.derived_types.specs.Spans.{span_of, copied_span, joined_near, unless_far}
use Rattle.derived_types.proofs.LayoutLaws.{indexed_offsets-none, indexed_offsets-more, span_of-copies}
use Rattle.derived_types.proofs.LayoutLaws.{joined_near-span_of, judges}
use Rattle.derived_types.proofs.layout.Layout.judge_indexed.Goals as goal

abbrev no_block : IndexedBlock
no_block = record { length = 0; displacement = 0 }

pub loop-block-init : goal.loop-block-init
loop-block-init c = ap (λ (t : List ℕ). unless_far (span_of t)) (sym (indexed_offsets-none c.args.self.now.offsets))

pub loop-block-preserved : goal.loop-block-preserved
loop-block-preserved c =
    let old = c.args.self.now.offsets in
    let blocks = c.args.blocks.now in
    let i = c.loop-block.block-index in
    let b : IndexedBlock = get_or blocks i no_block in
    let lt : i < length blocks = omega arith in
    let front = indexed_offsets (take i blocks) old in
    let block = copies_at b.displacement b.length old in
    let next : c.copies.result ≡ unless_far (span_of block) =
    c.copies.ensures ∙ ap (λ (s : Span). unless_far (copied_span s b.displacement b.length)) c.span-old.ensures.span
    ∙ ap unless_far (sym (span_of-copies b.displacement b.length old))
    in
    c.join-all.ensures
    ∙ ap (λ (o : Option Span). joined_near o c.copies.result) c.loop-block.invariant
    ∙ ap (joined_near (unless_far (span_of front))) next
    ∙ joined_near-span_of front block
    ∙ ap (λ (t : List ℕ). unless_far (span_of t))
    (sym (ap (λ (bs : List IndexedBlock). indexed_offsets bs old) (take_more blocks i no_block lt) ∙
    indexed_offsets-more (take i blocks) b old))

pub returns : goal.returns
returns c =
    let old = c.args.self.now.offsets in
    let blocks = c.args.blocks.now in
    let i = c.loop-block.block-index in
    let all : take i blocks ≡ blocks = take_all i blocks (omega arith) in
    judges (indexed_offsets blocks old) c.loop-block.all c.span_or_refusal.result
    (c.loop-block.invariant ∙ ap (λ (bs : List IndexedBlock). unless_far (span_of (indexed_offsets bs old))) all)
    c.span_or_refusal.ensures
