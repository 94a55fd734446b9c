-- The words so far, and those that are left, are all words.
use Rattle.std.proofs.Common.{◌≡◌, ◌++◌, drop, true}
use Rattle.run_plan.specs.Sets.{plain_sets}
use Rattle.run_plan.proofs.sets.push_sets.Given as goal

abbrev pub invariant-loop-word : goal.invariant-loop-word
invariant-loop-word l = l.all ++ plain_sets l.begins (drop l.word-index l.sets) ≡ l.fn.all ++ plain_sets true l.sets
