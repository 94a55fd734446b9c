-- The fold begins with the first member's block.
use Rattle.std.proofs.Common.{◌≡◌, ℕ, List, [], length, map, sym, ap, ◌∙◌, arith, Option, Some, None}
use Rattle.std.proofs.lemmas.Grind.{common_steps}
use Rattle.std.specs.Prelude.{fold}
use Rattle.collective_progress.specs.Blocks.{block_known, one_more}
use Rattle.collective_messages.specs.Notes.{member_at}
use Rattle.datatypes.specs.Contents.{Contents}
use Rattle.vocabulary.specs.declared.basic_type.BasicType.{BasicType}
use Rattle.collective_progress.proofs.Blocks.{folded_from, folded_none, known_like}
use Rattle.collective_progress.proofs.fold.fold_blocks.Goals as goal

-- a buffer of these
abbrev contents : BasicType → List ℕ → Contents
contents basic values = record { basic = basic; values = values }

pub fold_rest-requires-clause-basic : goal.fold_rest-requires-clause-basic
fold_rest-requires-clause-basic g c =
    let mine = c.args.mine.now in
    let b : Contents = c.in-Some-block_known.block.now in
    let is : block_known c.args.seat.now.own mine c.args.seat.now.inside.now.context c.args.seat.now.inside.now.number c.args.seat.now.notes.now (member_at c.args.seat.now.inside.now.incarnation c.in-Some.first.now) ≡ Some b = grind (arith, common_steps) in
    let like = known_like c.args.seat.now.own mine c.args.seat.now.inside.now.context c.args.seat.now.inside.now.number c.args.seat.now.notes.now (member_at c.args.seat.now.inside.now.incarnation c.in-Some.first.now) b is in
    ap (λ (v : Contents). v.basic) c.in_ok-all-in-Some-block_known.ensures ∙ like.basic_is ∙ c.requires

pub fold_rest-requires-clause-like : goal.fold_rest-requires-clause-like
fold_rest-requires-clause-like g c =
    let mine = c.args.mine.now in
    let b : Contents = c.in-Some-block_known.block.now in
    let is : block_known c.args.seat.now.own mine c.args.seat.now.inside.now.context c.args.seat.now.inside.now.number c.args.seat.now.notes.now (member_at c.args.seat.now.inside.now.incarnation c.in-Some.first.now) ≡ Some b = grind (arith, common_steps) in
    let like = known_like c.args.seat.now.own mine c.args.seat.now.inside.now.context c.args.seat.now.inside.now.number c.args.seat.now.notes.now (member_at c.args.seat.now.inside.now.incarnation c.in-Some.first.now) b is in
    sym (ap (λ (v : Contents). v.basic) c.in_ok-all-in-Some-block_known.ensures ∙ like.basic_is)

pub fold_rest-requires-clause-len : goal.fold_rest-requires-clause-len
fold_rest-requires-clause-len g c =
    let mine = c.args.mine.now in
    let b : Contents = c.in-Some-block_known.block.now in
    let is : block_known c.args.seat.now.own mine c.args.seat.now.inside.now.context c.args.seat.now.inside.now.number c.args.seat.now.notes.now (member_at c.args.seat.now.inside.now.incarnation c.in-Some.first.now) ≡ Some b = grind (arith, common_steps) in
    let like = known_like c.args.seat.now.own mine c.args.seat.now.inside.now.context c.args.seat.now.inside.now.number c.args.seat.now.notes.now (member_at c.args.seat.now.inside.now.incarnation c.in-Some.first.now) b is in
    sym (ap (λ (v : Contents). length v.values) c.in_ok-all-in-Some-block_known.ensures ∙ like.len)

pub returns-in_ok-all-in-Some-block_known : goal.returns-in_ok-all-in-Some-block_known
returns-in_ok-all-in-Some-block_known g c =
    let f : ℕ → ℕ → ℕ = g.R.ReduceOp.combines c.args.op.now in
    let mine = c.args.mine.now in
    let of : ℕ → Option Contents = λ r. block_known c.args.seat.now.own mine c.args.seat.now.inside.now.context c.args.seat.now.inside.now.number c.args.seat.now.notes.now (member_at c.args.seat.now.inside.now.incarnation r) in
    let b : Contents = c.in-Some-block_known.block.now in
    let rest = c.in-Some.rest.now in
    let is : of c.in-Some.first.now ≡ Some b = grind (arith, common_steps) in
    let like = known_like c.args.seat.now.own mine c.args.seat.now.inside.now.context c.args.seat.now.inside.now.number c.args.seat.now.notes.now (member_at c.args.seat.now.inside.now.incarnation c.in-Some.first.now) b is in
    c.fold_rest.ensures
    ∙ ap (λ (v : Contents). contents v.basic
    (fold (λ (all : List ℕ) (next : Option Contents). one_more f all next) v.values (map of rest)))
    c.in_ok-all-in-Some-block_known.ensures
    ∙ ap (λ (t : BasicType). contents t
    (fold (λ (all : List ℕ) (next : Option Contents). one_more f all next) b.values (map of rest))) like.basic_is
    ∙ ap (contents mine.basic)
    (sym (folded_from f of c.args.ranks.now rest c.in-Some.first.now b c.in-Some.ensures.cases.0 is))

pub returns-in-None : goal.returns-in-None
returns-in-None g c =
    let f : ℕ → ℕ → ℕ = g.R.ReduceOp.combines c.args.op.now in
    let mine = c.args.mine.now in
    let of : ℕ → Option Contents = λ r. block_known c.args.seat.now.own mine c.args.seat.now.inside.now.context c.args.seat.now.inside.now.number c.args.seat.now.notes.now (member_at c.args.seat.now.inside.now.incarnation r) in
    let is : of c.in-Some.first.now ≡ None = grind (arith, common_steps) in
    let made : c.new-in-None.result ≡ contents mine.basic [] = grind (arith, common_steps) in
    made ∙ ap (contents mine.basic)
    (sym (folded_none f of c.args.ranks.now c.in-Some.rest.now c.in-Some.first.now c.in-Some.ensures.cases.0 is))
