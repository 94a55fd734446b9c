use Rattle.std.proofs.Common.{◌≡◌}
use Rattle.std.specs.Prelude.{filter}
use Rattle.std.specs.Option.{option_copied}
use Rattle.launch_plan.specs.Configuration.{is_blank, is_nonempty, words_of}
use Rattle.launch_plan.specs.Cuts.{parts_left}
use Rattle.launch_plan.specs.SetFaults.{stage_behind}
use Rattle.launch_plan.proofs.CutLaws.{left_len}
use Rattle.launch_plan.proofs.validation.stage_behind.Given as goal

abbrev pub invariant-loop-left : goal.invariant-loop-left
invariant-loop-left l = stage_behind l.reached (filter is_nonempty (parts_left is_blank (option_copied l.left))) ≡
    stage_behind l.fn.stage (words_of l.line)

abbrev pub decreases-loop-left : goal.decreases-loop-left
decreases-loop-left l = left_len (option_copied l.left)
