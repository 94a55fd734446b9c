use Rattle.std.proofs.Common.{refl, arith, ◌∙◌}
use Rattle.std.proofs.lemmas.List.{map_more}
use Rattle.event_loop.specs.Output.{sent}
use Rattle.event_loop.proofs.output.send_all.Goals as goal

pub loop-target-init : goal.loop-target-init
loop-target-init g c = (refl, g.met.T.Transport.none c.args.transport.now)

pub send-requires : goal.send-requires
send-requires g c = omega (arith, c.requires, c.loop-target.invariant.0)

pub loop-target-preserved : goal.loop-target-preserved
loop-target-preserved g c =
    let one = rw c.as_slice.ensures at c.in-Ok.ensures.passed in (
      c.in-Ok.ensures.failures ∙ c.loop-target.invariant.0,
      rw (
        map_more sent c.args.out.now c.loop-target.target-index c.loop-target-item.result c.loop-target-test.true,
        ← c.loop-target-item.is,
      )
          (g.met.T.Transport.joined _ _ _ _ _ c.loop-target.invariant.1 one),
    )
