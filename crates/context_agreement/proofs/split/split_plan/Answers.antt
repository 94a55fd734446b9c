-- What is sorted and cut is the plan.
use Rattle.std.proofs.Common.{subst, List, IsPermutation}
use Rattle.context_agreement.specs.declared.split.SplitRow.{SplitRow}
use Rattle.context_agreement.specs.Splits.{IsCut}
use Rattle.context_agreement.proofs.RowOrder.{non_decreasing, IsSplitPlan-sorted}
use Rattle.context_agreement.proofs.split.split_plan.Goals as goal

pub split_at_colours-requires : goal.split_at_colours-requires
split_at_colours-requires c =
    rw c.deref.ensures.value (non_decreasing c.sort_rows.new.rows.items c.sort_rows.ensures.sorted)

pub returns-in-Ok-split_at_colours-clause-ok : goal.returns-in-Ok-split_at_colours-clause-ok
returns-in-Ok-split_at_colours-clause-ok c =
    IsSplitPlan-sorted c.args.rows.now c.sort_rows.new.rows.items c.in-Ok-split_at_colours.plan.items
    (subst (λ (rows : List SplitRow). IsPermutation rows c.sort_rows.new.rows.items) c.in-Ok.ensures.items
    c.sort_rows.ensures.permutation)
    c.sort_rows.ensures.sorted
    (subst (λ (rows : List SplitRow). IsCut rows c.in-Ok-split_at_colours.plan.items) c.deref.ensures.value
    c.in-Ok-split_at_colours.ensures)
