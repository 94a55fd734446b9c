-- What looks tell of messages, which change nothing.
use Rattle.std.specs.Prelude.{Option, option_and_then}
use Rattle.vocabulary.specs.declared.basic_type.BasicType.{BasicType}
use Rattle.engine_calls.specs.EngineState.{EngineState}
use Rattle.engine_calls.specs.Routes.{route_at}
use Rattle.point_to_point.specs.Looks.{type_found}
use Rattle.point_to_point_calls.specs.declared.call.Probe.{Probe}

-- the basic type of the message that a probe would find now, if there is one
abbrev pub type_probed : EngineState → Probe → Option BasicType
type_probed e p = option_and_then (λ r. type_found e.core r.named p.tag r.context) (route_at e.groups p.comm p.source)
