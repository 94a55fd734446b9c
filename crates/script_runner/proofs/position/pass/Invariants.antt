use Rattle.std.proofs.Common.{◌≡◌, drop}
use Rattle.script_runner.proofs.position.pass.Given as goal

abbrev pub invariant-loop-place : goal.invariant-loop-place
invariant-loop-place l = l.lines ≡ drop l.place l.fn.lines
