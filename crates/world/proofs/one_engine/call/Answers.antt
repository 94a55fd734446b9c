use Rattle.std.proofs.Common.{Option, sym, ap, subst, ◌∙◌}
use Rattle.engine_calls.specs.declared.reply.Reply.{Reply}
use Rattle.incarnation.specs.declared.place.Place.{Place}
use Rattle.world.proofs.CallLaws.{is_taken, refused_call}
use Rattle.world.specs.Steps.{TakesCall}
use Rattle.world.proofs.one_engine.call.Goals as goal

pub returns-in-Some-clause-exact : goal.returns-in-Some-clause-exact
returns-in-Some-clause-exact c =
    let refused = refused_call c.args.engine.now c.call-reply.new.self c.args.call c.call-reply.result c.in-Some.refused c.plain.result.refused
    (sym c.refusal_of.ensures ∙ c.in-Some.is) c.plain.ensures.refused c.call-reply.ensures.exact
    c.call-reply.ensures.unchanged in
    (refused.0, c.plain.ensures.out, refused.1)

pub returns-in-None-clause-exact : goal.returns-in-None-clause-exact
returns-in-None-clause-exact c = record {
  mid = c.call-reply.new.self;
  event = subst (λ (o : Option Reply). TakesCall c.args.engine.now c.args.call o c.call-reply.new.self)
      (sym c.take_given.ensures.reply)
      (is_taken c.call-reply.result (sym c.refusal_of.ensures ∙ c.in-None.is), c.call-reply.ensures.exact);
  state = c.take_given.ensures.state;
  endpoint = c.take_given.ensures.endpoint ∙ ap (λ (p : Place). p.endpoint) c.call-reply.ensures.placed;
  out = c.take_given.ensures.out;
  completion = c.take_given.ensures.completion;
}
