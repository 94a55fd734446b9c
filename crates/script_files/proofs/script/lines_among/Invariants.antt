use Rattle.script_files.proofs.ScriptSteps.{AreTaken}
use Rattle.script_files.proofs.script.lines_among.Given as goal

abbrev pub invariant-loop-line : goal.invariant-loop-line
invariant-loop-line l = AreTaken l.rank l.incarnation l.yielded l.here l.found
