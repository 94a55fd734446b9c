use Rattle.std.proofs.Common.{◌≡◌, take}
use Rattle.launch_plan.proofs.Lists.{shown}
use Rattle.launch_plan.proofs.configuration.slices.Given as goal

abbrev pub invariant-loop-line : goal.invariant-loop-line
invariant-loop-line l = shown l.slices.items ≡ take l.line-index l.lines
