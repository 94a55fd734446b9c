use Rattle.std.proofs.Common.{◌≡◌, length}
use Rattle.launch_plan.specs.Options.{nothing_given, opening_of}
use Rattle.launch_plan.proofs.opening.opening_of.Given as goal

abbrev pub invariant-loop-word : goal.invariant-loop-word
invariant-loop-word l = opening_of l.given l.rest ≡ opening_of nothing_given l.fn.words

abbrev pub decreases-loop-word : goal.decreases-loop-word
decreases-loop-word l = length l.rest
