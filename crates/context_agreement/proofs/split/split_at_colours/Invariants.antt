-- The rows so far are cut, and come before the next one by their colours.
use Rattle.std.proofs.Common.{ℕ, ◌-◌, ◌<◌, ◌≤◌, length, get_or, take}
use Rattle.context_agreement.specs.declared.split.SplitRow.{SplitRow}
use Rattle.context_agreement.specs.Splits.{IsCut, colour_number}
use Rattle.context_agreement.proofs.split.split_at_colours.Given as goal

abbrev pub invariant-loop-start : goal.invariant-loop-start
invariant-loop-start l = record {
  done : IsCut (take l.start l.sorted) l.plan.items;
  within : l.start ≤ length l.sorted;
  before : (k : ℕ) (d : SplitRow) → k < l.start → l.start < length l.sorted
      → colour_number (get_or l.sorted k d).colour < colour_number (get_or l.sorted l.start d).colour;
}

abbrev pub decreases-loop-start : goal.decreases-loop-start
decreases-loop-start l = length l.sorted - l.start
