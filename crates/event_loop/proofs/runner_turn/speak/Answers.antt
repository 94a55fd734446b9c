use Rattle.std.proofs.Common.{[], ◌∷◌, ◌++◌, refl, arith, ◌∙◌}
use Rattle.std.proofs.lemmas.List.{map_push}
use Rattle.event_loop.proofs.Runs.{speaks_more}
use Rattle.event_loop.specs.declared.exchange.Exchange.TheVariants.{Printed}
use Rattle.event_loop.proofs.runner_turn.speak.Goals as goal

pub loop-init : goal.loop-init
loop-init g c = (tt, tt, refl, ([], c.next-step.ensures, g.met.T.Transport.none c.args.transport.now))

pub print-requires : goal.print-requires
print-requires g c = omega (arith, c.requires, c.loop.invariant.2)

pub loop-preserved : goal.loop-preserved
loop-preserved g c =
    let spoken = c.loop.invariant.3 in
    let before = rw c.in-Print.is at spoken.1 in
    let one = rw c.as_slice.ensures at c.in-Ok.ensures.passed in (
      tt,
      tt,
      c.in-Ok.ensures.failures ∙ c.loop.invariant.2,
      (
        spoken.0 ++ c.in-Print.line ∷ [],
        speaks_more g.P.Runner.does spoken.0 _ _ c.in-Print.line _ _ _ before c.next-step-in-Print.ensures,
        rw (map_push Printed spoken.0 c.in-Print.line) (g.met.T.Transport.joined _ _ _ _ _ spoken.2 one),
      ),
    )

pub loop-preserved-in-Ok : goal.loop-preserved-in-Ok
loop-preserved-in-Ok g c =
    let spoken = c.loop.invariant.3 in
    let before = rw c.in-Print.is at spoken.1 in
    let one = rw c.as_slice.ensures at c.in-Ok.ensures.passed in (
      tt,
      tt,
      c.in-Ok.ensures.failures ∙ c.loop.invariant.2,
      (
        spoken.0 ++ c.in-Print.line ∷ [],
        speaks_more g.P.Runner.does spoken.0 _ _ c.in-Print.line _ _ _ before c.next-step-in-Print.ensures,
        rw (map_push Printed spoken.0 c.in-Print.line) (g.met.T.Transport.joined _ _ _ _ _ spoken.2 one),
      ),
    )
