-- Which rule a probe breaks, and on which route it goes.
use Rattle.std.proofs.Common.{Option, Some, option_map, sym, ap, ◌∙◌}
use Rattle.communicators.specs.Routes.{route_text}
use Rattle.communicators.specs.declared.route.Route.{Route}
use Rattle.engine_calls.proofs.Asks.{known_same, probe_refused, probe_ruled}
use Rattle.engine_calls.proofs.Looks.{routed_look}
use Rattle.engine_calls.specs.Asks.{groups_of}
use Rattle.engine_calls.proofs.probes.judge_probe.Goals as goal

pub returns-in-None : goal.returns-in-None
returns-in-None c =
    record {
      free = (sym c.is_busy.ensures ∙ c.if-is_busy.false);
      route_is = (sym c.route.ensures.exact ∙ ap (λ (o : Option Route). option_map route_text o) c.in-Some.is);
      rules = sym (probe_ruled c.args.core.now.state (groups_of c.args.communicators.now) c.args.sessions.now c.args.probe c.route.result
          c.in-Some.route _ c.in-Some.is c.route.ensures.beyond (known_same (groups_of c.args.communicators.now) c.args.probe.comm c.args.probe.source c.route.result _ _
          c.incarnations.ensures c.route.ensures.replaced) c.rule_on_route.ensures) ∙ c.in-None.is;
    }

pub returns-in-Some-rule_on_route : goal.returns-in-Some-rule_on_route
returns-in-Some-rule_on_route c = λ rest.
    let ruled = sym c.in-Some-rule_on_route.is ∙ (probe_ruled c.args.core.now.state (groups_of c.args.communicators.now) c.args.sessions.now c.args.probe c.route.result
    c.in-Some.route _ c.in-Some.is c.route.ensures.beyond (known_same (groups_of c.args.communicators.now) c.args.probe.comm c.args.probe.source c.route.result _ _
    c.incarnations.ensures c.route.ensures.replaced) c.rule_on_route.ensures) in (
      sym (routed_look c.args.core.now.state (groups_of c.args.communicators.now) c.args.sessions.now c.args.probe (route_text c.in-Some.route)
          (Some c.in-Some-rule_on_route.fault) (sym c.is_busy.ensures ∙ c.if-is_busy.false)
          (sym c.route.ensures.exact ∙ ap (λ (o : Option Route). option_map route_text o) c.in-Some.is) ruled rest),
      probe_refused c.args.core.now.state (groups_of c.args.communicators.now) c.args.sessions.now c.args.probe (route_text c.in-Some.route)
          c.in-Some-rule_on_route.fault (sym c.is_busy.ensures ∙ c.if-is_busy.false)
          (sym c.route.ensures.exact ∙ ap (λ (o : Option Route). option_map route_text o) c.in-Some.is) ruled rest,
    )
