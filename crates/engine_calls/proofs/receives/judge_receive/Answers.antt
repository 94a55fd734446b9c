-- What a receive breaks, and what it asks.
use Rattle.std.proofs.Common.{Option, option_map, refl, sym, ap, ◌∙◌}
use Rattle.communicators.specs.Routes.{route_text}
use Rattle.communicators.specs.declared.route.Route.{Route}
use Rattle.engine_calls.proofs.Asks.{known_same, receive_asked, receive_grouped, receive_made, receive_refused, source_ruled}
use Rattle.engine_calls.specs.Asks.{groups_of}
use Rattle.engine_calls.proofs.receives.judge_receive.Goals as goal

pub returns-in-None-clause-judged : goal.returns-in-None-clause-judged
returns-in-None-clause-judged c = λ rest. (
  receive_asked c.args.core.now.state (groups_of c.args.communicators.now) c.args.sessions.now c.args.receive
      (route_text c.in-Some.route) c.rule_of_source.result c.seek-sought.result.routed
      (sym c.is_busy.ensures ∙ c.if-is_busy.false)
      (sym c.route.ensures.exact ∙ ap (λ (o : Option Route). option_map route_text o) c.in-Some.is)
      (source_ruled (groups_of c.args.communicators.now) c.args.sessions.now.known c.args.receive.comm c.args.receive.source
      c.route.result c.in-Some.route _ c.in-Some.is c.route.ensures.beyond (known_same (groups_of c.args.communicators.now) c.args.receive.comm c.args.receive.source c.route.result _ _
      c.incarnations.ensures c.route.ensures.replaced)
      c.rule_of_source.ensures)
      (receive_made c.call_route.result c.args.receive (route_text c.in-Some.route) _ c.call_route.ensures
      c.seek-sought.ensures.routed)
      (sym c.in-None.is ∙ c.fault_of_receive.ensures) rest,
  receive_grouped (groups_of c.args.communicators.now) c.args.receive (route_text c.in-Some.route)
      c.seek-sought.result.routed
      (sym c.route.ensures.exact ∙ ap (λ (o : Option Route). option_map route_text o) c.in-Some.is)
      (receive_made c.call_route.result c.args.receive (route_text c.in-Some.route) _ c.call_route.ensures
      c.seek-sought.ensures.routed),
)

pub returns-clause-judged : goal.returns-clause-judged
returns-clause-judged c = λ rest.
    receive_refused c.args.core.now.state (groups_of c.args.communicators.now) c.args.sessions.now c.args.receive
    (route_text c.in-Some.route) c.rule_of_source.result c.seek-sought.result.routed
    c.in-Some-fault_of_receive.refused c.seek-sought.result.routed.receive
    (sym c.is_busy.ensures ∙ c.if-is_busy.false)
    (sym c.route.ensures.exact ∙ ap (λ (o : Option Route). option_map route_text o) c.in-Some.is)
    (source_ruled (groups_of c.args.communicators.now) c.args.sessions.now.known c.args.receive.comm c.args.receive.source
    c.route.result c.in-Some.route _ c.in-Some.is c.route.ensures.beyond (known_same (groups_of c.args.communicators.now) c.args.receive.comm c.args.receive.source c.route.result _ _
    c.incarnations.ensures c.route.ensures.replaced)
    c.rule_of_source.ensures)
    (receive_made c.call_route.result c.args.receive (route_text c.in-Some.route) _ c.call_route.ensures
    c.seek-sought.ensures.routed)
    (sym c.in-Some-fault_of_receive.is ∙ c.fault_of_receive.ensures) refl rest
