-- What a probe finds on its route.
use Rattle.communicators.specs.Routes.{route_text}
use Rattle.engine_calls.proofs.Looks.{look_shares, look_told}
use Rattle.engine_calls.specs.Asks.{groups_of}
use Rattle.engine_calls.proofs.probes.look.Goals as goal

pub found_on-requires : goal.found_on-requires
found_on-requires c =
    look_shares c.args.core.now.state (groups_of c.args.communicators.now) c.args.sessions.now c.args.probe
    (route_text c.in-Ok.route) c.in-Ok.ensures

pub returns-in-Ok : goal.returns-in-Ok
returns-in-Ok c = λ rest.
    look_told c.args.core.now.state (groups_of c.args.communicators.now) c.args.sessions.now c.args.probe
    (route_text c.in-Ok.route) c.found_on.result c.in-Ok.ensures c.found_on.ensures rest
