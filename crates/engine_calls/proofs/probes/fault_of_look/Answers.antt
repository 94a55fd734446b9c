-- Which rule a probe breaks that looks.
use Rattle.std.proofs.Common.{sym}
use Rattle.communicators.specs.Routes.{route_text}
use Rattle.engine_calls.proofs.Looks.{look_allowed}
use Rattle.engine_calls.specs.Asks.{groups_of}
use Rattle.engine_calls.proofs.probes.fault_of_look.Goals as goal

pub returns-in-Ok : goal.returns-in-Ok
returns-in-Ok c =
    look_allowed c.args.core.now.state (groups_of c.args.communicators.now) c.args.sessions.now c.args.probe (route_text c.in-Ok.field-0)
    c.in-Ok.ensures

pub returns-in-Err : goal.returns-in-Err
returns-in-Err c = λ rest. sym (c.in-Err.ensures rest).0
