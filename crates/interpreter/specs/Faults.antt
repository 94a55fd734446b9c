-- Where a statement is faulty.
use Rattle.std.specs.Prelude.{◌≡◌, Bool, true, false, Option, Some, None}
use Rattle.line_diagnostics.specs.declared.fault.LineFault.{LineFault}
use Rattle.interpreter.specs.declared.steps.NextStep.{NextStep}
use Rattle.interpreter.specs.StatementCalls.{Acts, faulty}
use Rattle.interpreter.specs.NamesState.{NamesState}

-- whether a statement can't be followed
abbrev pub is_faulty : Option NextStep → Bool
is_faulty None = true
is_faulty (Some next) = false

-- a statement is faulty exactly where there is a fault, and then changes nothing
abbrev pub FaultyWhere : Option LineFault → Acts → NamesState → Type 0
FaultyWhere None acted s = is_faulty acted.0 ≡ false
FaultyWhere (Some fault) acted s = acted ≡ faulty s
