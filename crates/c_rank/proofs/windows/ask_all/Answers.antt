use Rattle.std.proofs.Common.{sym, ap, ◌∙◌}
use Rattle.std.specs.Prelude.{slice_get}
use Rattle.congestion_windows.specs.Flights.{asks_in}
use Rattle.engine_calls.specs.EngineState.{EngineState}
use Rattle.c_rank.specs.Windows.{with_ask}
use Rattle.c_rank.proofs.WindowSteps.{asks_more}
use Rattle.c_rank.proofs.windows.ask_all.Goals as goal

pub loop-rank-preserved : goal.loop-rank-preserved
loop-rank-preserved c =
    let i = c.loop-rank.rank in
    c.ask_one.ensures
    ∙ ap (λ (e : EngineState). with_ask e i (asks_in (slice_get c.args.windows.now.flights i))) c.loop-rank.invariant
    ∙ sym (asks_more c.args.engine.now c.args.windows.now i)
