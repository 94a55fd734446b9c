use Rattle.std.proofs.Common.{◌≡◌, ℕ, List}
use Rattle.event_loop.specs.Drives.{Rounds, Tells}
use Rattle.event_loop.proofs.driver.make_rounds.Given as goal

abbrev pub invariant-loop : goal.invariant-loop
invariant-loop g l =
    (goal.iterator-loop g).can_next l.iterator' × (goal.iterator-loop g).is_finite l.iterator'
    × (g.T.Transport.failed l.transport ≡ g.T.Transport.failed l.fn.transport)
    × ((times : List ℕ) × Tells g.C.Clock.told l.fn.clock times l.clock
    × Rounds g.P.Runner.does g.T.Transport.passed g.T.Transport.waits l.patience
    (record {
      engine = l.fn.rank.engine;
      runner = l.fn.rank.runner;
      state = l.fn.rank.state;
      transport = l.fn.transport;
    })
    times
    (record {
      engine = l.rank.engine;
      runner = l.rank.runner;
      state = l.rank.state;
      transport = l.transport;
    }))
