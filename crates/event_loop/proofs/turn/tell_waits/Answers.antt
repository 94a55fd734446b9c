use Rattle.std.proofs.Common.{sym, ap, ◌∙◌}
use Rattle.engine_calls.specs.EngineState.{EngineState}
use Rattle.engine.specs.Ticks.{after_wait}
use Rattle.event_loop.proofs.Waits.{told_more}
use Rattle.event_loop.proofs.turn.tell_waits.Goals as goal

pub loop-rank-preserved : goal.loop-rank-preserved
loop-rank-preserved g c =
    c.set_wait.ensures
    ∙ ap (λ (e : EngineState). after_wait e c.loop-rank.rank c.in-Some.wait) c.loop-rank.invariant
    ∙ sym (told_more c.args.engine.now (g.T.Transport.waits c.args.transport.now) c.loop-rank.rank c.in-Some.wait
    (sym c.wait_of.ensures ∙ c.in-Some.is))
