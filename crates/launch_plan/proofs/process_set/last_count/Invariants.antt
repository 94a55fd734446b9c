use Rattle.std.proofs.Common.{◌≡◌, drop}
use Rattle.launch_plan.specs.declared.stage.Stage.TheVariants.{Empty}
use Rattle.launch_plan.specs.SetFaults.{stage_behind}
use Rattle.launch_plan.proofs.process_set.last_count.Given as goal

abbrev pub invariant-loop-word : goal.invariant-loop-word
invariant-loop-word l = stage_behind l.stage (drop l.word-index l.words) ≡ stage_behind Empty l.words
