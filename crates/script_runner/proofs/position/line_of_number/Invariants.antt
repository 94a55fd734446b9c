use Rattle.std.proofs.Common.{◌≡◌, length}
use Rattle.script_runner.specs.Positions.{numbered}
use Rattle.script_runner.proofs.position.line_of_number.Given as goal

abbrev pub decreases-loop-line : goal.decreases-loop-line
decreases-loop-line l = length l.lines

abbrev pub invariant-loop-line : goal.invariant-loop-line
invariant-loop-line l = numbered l.number l.lines ≡ numbered l.number l.fn.lines
