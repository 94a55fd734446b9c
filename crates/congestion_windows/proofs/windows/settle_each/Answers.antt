use Rattle.congestion_windows.proofs.Settling.{settled_more}
use Rattle.congestion_windows.proofs.windows.settle_each.Goals as goal

pub loop-flight-preserved : goal.loop-flight-preserved
loop-flight-preserved c =
    settled_more c.args.flights.now c.loop-flight.flights c.loop-flight.flight-index _ c.settle.new.self
    c.loop-flight-test.true c.loop-flight.invariant c.settle.ensures
