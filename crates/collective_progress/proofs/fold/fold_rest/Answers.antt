-- One more block is combined with those before it.
use Rattle.std.proofs.Common.{◌≡◌, ◌<◌, ℕ, List, length, map, take, get_or, sym, ap, ◌∙◌, arith, Option, Some, None}
use Rattle.std.proofs.lemmas.Grind.{common_steps}
use Rattle.std.specs.Prelude.{fold}
use Rattle.collective_progress.specs.Blocks.{block_known, one_more}
use Rattle.collective_messages.specs.Notes.{member_at}
use Rattle.datatypes.proofs.CombinationLaws.{length-combined_values}
use Rattle.datatypes.specs.Combinations.{combined_values}
use Rattle.datatypes.specs.Contents.{Contents}
use Rattle.collective_progress.proofs.Blocks.{fold_more_blocks, known_like}
use Rattle.collective_progress.proofs.fold.fold_rest.Goals as goal
use Rattle.collective_progress.proofs.fold.fold_rest.Goals.{in-Some, in_default}

pub accumulate-requires-clause-like : goal.accumulate-requires-clause-like
accumulate-requires-clause-like g c =
    let mine = c.args.mine.now in
    let b = c.in-Some.block.now in
    let is : block_known c.args.seat.now.own mine c.args.seat.now.inside.now.context c.args.seat.now.inside.now.number c.args.seat.now.notes.now (member_at c.args.seat.now.inside.now.incarnation (get_or c.args.ranks.now c.loop-rank.rank-index 0)) ≡ Some b = grind (arith, common_steps) in
    let like = known_like c.args.seat.now.own mine c.args.seat.now.inside.now.context c.args.seat.now.inside.now.number c.args.seat.now.notes.now (member_at c.args.seat.now.inside.now.incarnation (get_or c.args.ranks.now c.loop-rank.rank-index 0)) b is in
    record {
      basic_is = like.basic_is ∙ c.requires.like ∙ sym c.loop-rank.invariant.basic;
      len = like.len ∙ sym c.loop-rank.invariant.len;
    }

pub loop-rank-preserved : goal.loop-rank-preserved
loop-rank-preserved g c =
    let f : ℕ → ℕ → ℕ = g.R.ReduceOp.combines c.args.op.now in
    let mine = c.args.mine.now in
    let of : ℕ → Option Contents = λ r. block_known c.args.seat.now.own mine c.args.seat.now.inside.now.context c.args.seat.now.inside.now.number c.args.seat.now.notes.now (member_at c.args.seat.now.inside.now.incarnation r) in
    let ranks = c.args.ranks.now in
    let k = c.loop-rank.rank-index in
    let lt : k < length ranks = omega arith in
    let here = get_or ranks k 0 in
    let before : Contents = c.loop-rank.all in
    let so_far : List ℕ = fold (λ (all : List ℕ) (next : Option Contents). one_more f all next) c.args.all.now.values (map of (take k ranks)) in
    let more = fold_more_blocks f of c.args.all.now.values ranks k 0 lt in
    elim c.match-block_known.branch [
      | in-Some w ↦
          let b : Contents = w.in-Some.block.now in
          let is : of here ≡ Some b = grind (arith, common_steps) in
          let like = known_like c.args.seat.now.own mine c.args.seat.now.inside.now.context c.args.seat.now.inside.now.number c.args.seat.now.notes.now (member_at c.args.seat.now.inside.now.incarnation here) b is in
          let now_is : c.match-block_known.all ≡ record { basic = before.basic; values = combined_values f before.values b.values } = w.all-is ∙ w.accumulate.ensures in
          record {
            basic = ap (λ (v : Contents). v.basic) now_is ∙ c.loop-rank.invariant.basic;
            values_are = ap (λ (v : Contents). v.values) now_is
                ∙ ap (λ (xs : List ℕ). combined_values f xs b.values) c.loop-rank.invariant.values_are
                ∙ sym (more ∙ ap (λ (o : Option Contents). one_more f so_far o) is);
            len = ap (λ (v : Contents). length v.values) now_is
                ∙ length-combined_values f before.values b.values (like.len ∙ sym c.loop-rank.invariant.len)
                ∙ c.loop-rank.invariant.len;
          }
      | in_default w ↦
          let is : of here ≡ None = grind (arith, common_steps) in
          record {
            basic = ap (λ (v : Contents). v.basic) w.all-is ∙ c.loop-rank.invariant.basic;
            values_are = ap (λ (v : Contents). v.values) w.all-is ∙ c.loop-rank.invariant.values_are
                ∙ sym (more ∙ ap (λ (o : Option Contents). one_more f so_far o) is);
            len = ap (λ (v : Contents). length v.values) w.all-is ∙ c.loop-rank.invariant.len;
          }
    ]
