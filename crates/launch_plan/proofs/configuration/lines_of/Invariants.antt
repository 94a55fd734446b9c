use Rattle.std.proofs.Common.{◌≡◌, ◌++◌, drop}
use Rattle.launch_plan.specs.Configuration.{lines_of, pending}
use Rattle.launch_plan.proofs.Lists.{shown}
use Rattle.launch_plan.proofs.configuration.lines_of.Given as goal

abbrev pub invariant-loop-line : goal.invariant-loop-line
invariant-loop-line l =
    l.lines.items ++ pending l.begun l.words (shown (drop l.line-index l.line-items)) ≡ lines_of l.bytes
