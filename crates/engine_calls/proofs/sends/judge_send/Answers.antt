-- What a send breaks, and what it asks.
use Rattle.std.proofs.Common.{Option, option_map, refl, sym, ap, subst, ◌∙◌}
use Rattle.communicators.specs.Routes.{route_text}
use Rattle.communicators.specs.declared.route.Route.{Route}
use Rattle.engine_calls.proofs.Asks.{known_same, send_asked, send_made, send_refused, send_ruled}
use Rattle.engine_calls.specs.Asks.{groups_of}
use Rattle.incarnation.specs.declared.place.Place.{Place}
use Rattle.point_to_point_calls.specs.SendRules.{IsAddressed}
use Rattle.engine_calls.proofs.sends.judge_send.Goals as goal

pub returns-in-None : goal.returns-in-None
returns-in-None c = λ rest. (
  send_asked c.args.core.now.state (groups_of c.args.communicators.now) c.args.sessions.now c.args.send
      (route_text c.in-Some.route) c.rule_of_target-rule.result c.address-addressed.result.routed
      (sym c.is_busy.ensures ∙ c.if-is_busy.false)
      (sym c.route.ensures.exact ∙ ap (λ (o : Option Route). option_map route_text o) c.in-Some.is)
      (send_ruled (groups_of c.args.communicators.now) c.args.sessions.now.known c.args.send.comm c.args.send.target
      c.route.result c.in-Some.route _ c.in-Some.is c.route.ensures.beyond (known_same (groups_of c.args.communicators.now) c.args.send.comm c.args.send.target c.route.result _ _
      c.incarnations.ensures c.route.ensures.replaced)
      c.rule_of_target-rule.ensures)
      (send_made c.call_route-route.result c.args.send (route_text c.in-Some.route) _ c.call_route-route.ensures
      c.address-addressed.ensures.routed)
      (sym c.in-None.is ∙ c.fault_of_send.ensures.exact) c.fault_of_send.ensures.within rest,
  subst (λ (p : Place). IsAddressed p c.address-addressed.result) c.place.ensures c.address-addressed.ensures.addressed,
)

pub returns-in-Some-fault_of_send : goal.returns-in-Some-fault_of_send
returns-in-Some-fault_of_send c = λ rest.
    send_refused c.args.core.now.state (groups_of c.args.communicators.now) c.args.sessions.now c.args.send
    (route_text c.in-Some.route) c.rule_of_target-rule.result c.address-addressed.result.routed
    c.in-Some-fault_of_send.refused c.address-addressed.result.routed.send
    (sym c.is_busy.ensures ∙ c.if-is_busy.false)
    (sym c.route.ensures.exact ∙ ap (λ (o : Option Route). option_map route_text o) c.in-Some.is)
    (send_ruled (groups_of c.args.communicators.now) c.args.sessions.now.known c.args.send.comm c.args.send.target
    c.route.result c.in-Some.route _ c.in-Some.is c.route.ensures.beyond (known_same (groups_of c.args.communicators.now) c.args.send.comm c.args.send.target c.route.result _ _
    c.incarnations.ensures c.route.ensures.replaced)
    c.rule_of_target-rule.ensures)
    (send_made c.call_route-route.result c.args.send (route_text c.in-Some.route) _ c.call_route-route.ensures
    c.address-addressed.ensures.routed)
    (sym c.in-Some-fault_of_send.is ∙ c.fault_of_send.ensures.exact) refl rest
