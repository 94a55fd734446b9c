-- All rows so far have the colour of the first.
use Rattle.std.proofs.Common.{◌≡◌, ℕ, ◌-◌, ◌<◌, ◌≤◌, length, get_or}
use Rattle.context_agreement.specs.declared.split.SplitRow.{SplitRow}
use Rattle.context_agreement.proofs.split.end_of_colour.Given as goal

abbrev pub invariant-loop-end : goal.invariant-loop-end
invariant-loop-end l = record {
  later : l.start < l.end;
  within : l.end ≤ length l.sorted;
  same : (k : ℕ) (d : SplitRow) → l.start ≤ k → k < l.end → (get_or l.sorted k d).colour ≡
      (get_or l.sorted l.start d).colour;
}

abbrev pub decreases-loop-end : goal.decreases-loop-end
decreases-loop-end l = length l.sorted - l.end
