use Rattle.std.proofs.Common.{inl, inr, rules, ℕ, ap, ◌∙◌, if◌then◌else◌}
use Rattle.event_loop.proofs.round.make_round.Goals as goal

pub returns-in_default-clause-exact : goal.returns-in_default-clause-exact
returns-in_default-clause-exact g c = inl (
  c.in_default.ensures.exact,
  c.in_default.ensures.times.0,
  c.in_default.ensures.times.1,
)

pub returns-in_default-rest-clause-exact : goal.returns-in_default-rest-clause-exact
returns-in_default-rest-clause-exact g c = inr (
  c.turn.new.transport,
  record {
    turned = c.in-Ok.turned;
    turn = c.in-Ok.ensures.exact;
    heard = c.time_of-rank.ensures ∙
        ap (λ (t : ℕ). if c.in-Ok.turned.came then c.args.time.now else t) c.in-Ok.ensures.times.0;
    moved = c.time_of-rank-2.ensures ∙
        ap (λ (t : ℕ). if c.in-Ok.turned.moved then c.args.time.now else t) c.in-Ok.ensures.times.1;
  },
  record {
    idle = c.is_idle-idle.result;
    is_idle = c.is_idle-idle.ensures;
    lasts = cc;
    passes = search rules;
    at_once = search rules;
  },
)
