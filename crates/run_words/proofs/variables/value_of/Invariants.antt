-- The value among the variables that are left is that among all.
use Rattle.std.proofs.Common.{◌≡◌, drop}
use Rattle.run_words.specs.Pieces.{value_of}
use Rattle.run_words.proofs.variables.value_of.Given as goal

abbrev pub invariant-loop-variable : goal.invariant-loop-variable
invariant-loop-variable l = value_of l.name (drop l.variable-index l.variables) ≡ value_of l.name l.variables
