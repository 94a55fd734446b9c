use Rattle.std.proofs.Common.{[], ◌∷◌, refl}
use Rattle.event_loop.proofs.turn.go_on_behind.Goals as goal

pub returns-in_default-clause-exact : goal.returns-in_default-clause-exact
returns-in_default-clause-exact g c =
    λ before reply told. ([], (c.args.line.now, told), refl, c.requires.ready, c.in_default.ensures.passed)

pub returns-in_default-speak-clause-exact : goal.returns-in_default-speak-clause-exact
returns-in_default-speak-clause-exact g c = λ before reply told.
    let spoken = c.in_default-speak.ensures.exact in (
      c.args.line.now ∷ spoken.0,
      (spoken.1.0, (c.args.rank.now.runner, told, spoken.1.1)),
      refl,
      c.requires.ready,
      g.met.T.Transport.joined _ _ _ _ _ c.in-Ok.ensures.passed spoken.2,
    )

pub returns-clause-exact : goal.returns-clause-exact
returns-clause-exact g c = λ before reply told.
    let spoken = c.in-Ok-speak.ensures.exact in (
      c.args.line.now ∷ spoken.0,
      (c.in-Ok-speak.step, (c.args.rank.now.runner, told, spoken.1), rw c.replace.ensures c.take_step.ensures),
      g.met.T.Transport.joined _ _ _ _ _ c.in-Ok.ensures.passed spoken.3,
    )
