-- What a matching probe meets, and what it asks.
use Rattle.std.proofs.Common.{sym, ◌∙◌}
use Rattle.communicators.specs.Routes.{route_text}
use Rattle.engine_calls.proofs.Asks.{probe_asked, probe_grouped, probe_made}
use Rattle.engine_calls.specs.Asks.{groups_of}
use Rattle.engine_calls.proofs.probes.judge_search.Goals as goal

pub returns-in-None-clause-judged : goal.returns-in-None-clause-judged
returns-in-None-clause-judged c =
    let r = route_text c.in-Ok.route in
    let made = probe_made c.call_route.result c.args.probe r _ c.call_route.ensures
    c.seek_for_probe-sought.ensures.routed in
    λ rest. (
      probe_asked c.args.core.now.state (groups_of c.args.communicators.now) c.args.sessions.now c.args.probe r
          c.seek_for_probe-sought.result.routed c.in-Ok.ensures made
          (sym c.in-None.is ∙ c.limit_of_search.ensures) rest,
      probe_grouped (groups_of c.args.communicators.now) c.args.probe r c.seek_for_probe-sought.result.routed
          c.in-Ok.ensures.route_is made,
    )
