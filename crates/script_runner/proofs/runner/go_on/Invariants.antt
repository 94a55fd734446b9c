use Rattle.std.proofs.Common.{◌≡◌, [], length}
use Rattle.script_runner.specs.ScriptSteps.{along}
use Rattle.script_runner.proofs.runner.go_on.Given as goal

abbrev pub decreases-loop-line : goal.decreases-loop-line
decreases-loop-line l = length l.lines

abbrev pub invariant-loop-line : goal.invariant-loop-line
invariant-loop-line l = (along l.lines l.rank ≡ along l.fn.lines l.fn.rank) × (l.fn.lines ≡ [] → l.lines ≡ [])
