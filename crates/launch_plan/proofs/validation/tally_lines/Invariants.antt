use Rattle.std.proofs.Common.{◌≡◌}
use Rattle.std.specs.List.{slice_split}
use Rattle.std.specs.Option.{option_copied}
use Rattle.launch_plan.specs.Configuration.{is_line_end}
use Rattle.launch_plan.specs.Cuts.{parts_left}
use Rattle.launch_plan.specs.SetFaults.{tally_lines, nothing_tallied}
use Rattle.launch_plan.proofs.CutLaws.{left_len}
use Rattle.launch_plan.proofs.validation.tally_lines.Given as goal

abbrev pub invariant-loop-left : goal.invariant-loop-left
invariant-loop-left l = tally_lines l.tally (parts_left is_line_end (option_copied l.left)) ≡
    tally_lines nothing_tallied (slice_split is_line_end l.bytes)

abbrev pub decreases-loop-left : goal.decreases-loop-left
decreases-loop-left l = left_len (option_copied l.left)
