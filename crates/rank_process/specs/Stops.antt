-- A rank that is told to stop.
use Rattle.std.specs.Prelude.{Bool, true, false, Result, Ok, Err}
use Rattle.port_transport.specs.declared.wire.WireFault.{WireFault}

-- its wire fails exactly where it is told so
abbrev pub GoesOnUnless : (is_stopped : Bool) → Result (Unit {0}) WireFault → Type 0
GoesOnUnless true (Ok x) = ⊥
GoesOnUnless true (Err f) = Unit {0}
GoesOnUnless false (Ok x) = Unit {0}
GoesOnUnless false (Err f) = ⊥
