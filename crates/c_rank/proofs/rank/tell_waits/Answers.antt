use Rattle.std.proofs.Common.{sym, ap, ◌∙◌}
use Rattle.engine_calls.specs.EngineState.{EngineState}
use Rattle.engine.specs.Ticks.{after_wait}
use Rattle.c_rank.specs.Clocks.{waits_in}
use Rattle.c_rank.proofs.ClockSteps.{told_more, wait_there}
use Rattle.c_rank.proofs.rank.tell_waits.Goals as goal

pub loop-rank-preserved : goal.loop-rank-preserved
loop-rank-preserved c =
    c.set_wait.ensures
    ∙ ap (λ (e : EngineState). after_wait e c.loop-rank.rank c.in-Some.wait) c.loop-rank.invariant
    ∙ sym (told_more c.args.engine.now (waits_in c.args.may_repeat c.args.trips.now) c.loop-rank.rank c.in-Some.wait
    (sym (wait_there c.args.may_repeat c.args.trips.now c.loop-rank.rank) ∙ sym c.wait_told.ensures ∙ c.in-Some.is))
