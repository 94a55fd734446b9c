use Rattle.round_trips.proofs.Learning.{learned_more}
use Rattle.round_trips.proofs.round_trips.learn_in_each.Goals as goal

pub loop-trip-preserved : goal.loop-trip-preserved
loop-trip-preserved c =
    learned_more c.args.estimate c.args.trips.now c.loop-trip.trips c.loop-trip.trip-index _ c.learn.new.self
    c.loop-trip-test.true c.loop-trip.invariant c.learn.ensures
