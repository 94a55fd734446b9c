-- Where an engine may stand.
use Rattle.std.specs.Prelude.{Option}
use Rattle.incarnation.specs.declared.place.Place.{Place}
use Rattle.point_to_point_calls.specs.declared.refusal.Refusal.{Refusal}
use Rattle.sessions.specs.Places as lower
use Rattle.engine_calls.specs.Refusals.{fault_of_sessions}

-- a rank below the size, among at most 1,024
abbrev pub place_fault : Place → Option Refusal
place_fault p = fault_of_sessions (lower.place_fault p)
