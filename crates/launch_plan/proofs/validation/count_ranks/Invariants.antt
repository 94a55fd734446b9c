use Rattle.std.proofs.Common.{◌≡◌, drop}
use Rattle.launch_plan.specs.declared.stage.Stage.TheVariants.{Empty}
use Rattle.launch_plan.specs.SetFaults.{count_ranks}
use Rattle.launch_plan.proofs.validation.count_ranks.Given as goal

abbrev pub invariant-loop-word : goal.invariant-loop-word
invariant-loop-word l = count_ranks l.ranks l.stage (drop l.word-index l.words) ≡ count_ranks 0 Empty l.words
