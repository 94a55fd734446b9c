use Rattle.std.proofs.Common.{◌≡◌, ◌<◌, ◌+◌, ℕ, List, length, get_or, take, sym, ap, subst, ◌∙◌, arith}
use Rattle.std.proofs.lemmas.List.Sums.{fold_more}
use Rattle.std.proofs.lemmas.List.Elements.{All-get_or}
use Rattle.datatypes.specs.Contents.{Contents}
use Rattle.datatypes.specs.Combinations.{combined_values, IsLike}
use Rattle.reductions.specs.Folds.{folded_values}
use Rattle.datatypes.proofs.BufferSteps.{contents_of}
use Rattle.datatypes.proofs.CombinationLaws.{length-combined_values}
use Rattle.reductions.proofs.folding.fold.Goals as goal

pub loop-next-preserved : goal.loop-next-preserved
loop-next-preserved g c =
    let f : ℕ → ℕ → ℕ = g.R.ReduceOp.combines c.args.op.now in
    let first : Contents = c.args.first.now in
    let rest : List Contents = c.args.rest.now in
    let i : ℕ = c.loop-next.next-index in
    let item : Contents = c.next-item.result in
    let before : Contents = c.loop-next.all in
    let lt : i < length rest = omega arith in
    let is : item ≡ get_or rest i item = c.next-item.is in
    let like : IsLike first.basic first.values item =
    subst (IsLike first.basic first.values) (sym is)
    (All-get_or (IsLike first.basic first.values) rest i item lt c.requires.like)
    in
    let so_far : List ℕ = folded_values f first.values (take i rest) in
    let step : combined_values f so_far item.values ≡ folded_values f first.values (take (i + 1) rest) =
    ap (λ (m : Contents). combined_values f so_far m.values) is
    ∙ sym (fold_more (λ (all : List ℕ) (m : Contents). combined_values f all m.values) first.values rest i item lt)
    in
    let same : length item.values ≡ length before.values = like.len ∙ sym c.loop-next.invariant.len in
    record {
      folded = c.accumulate.ensures
          ∙ ap (λ (v : Contents). contents_of v.basic (combined_values f v.values item.values))
          c.loop-next.invariant.folded
          ∙ ap (contents_of first.basic) step;
      len = ap (λ (v : Contents). length v.values) c.accumulate.ensures ∙
          length-combined_values f before.values item.values same ∙ c.loop-next.invariant.len;
    }
