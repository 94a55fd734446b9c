use Rattle.std.proofs.Common.{◌≡◌, List}
use Rattle.std.specs.Prelude.{map}
use Rattle.event_loop.specs.Input.{Word, TakesIn, after_all, nothing_heard, received}
use Rattle.event_loop.proofs.input.listen.Given as goal

abbrev pub invariant-loop : goal.invariant-loop
invariant-loop g l =
    (goal.iterator-loop g).can_next l.iterator' × (goal.iterator-loop g).is_finite l.iterator'
    × (g.T.Transport.failed l.transport ≡ g.T.Transport.failed l.fn.transport)
    × ((words : List Word) × TakesIn l.fn.engine words l.engine
    × g.T.Transport.passed l.fn.transport (map received words) l.transport
    × (l.heard ≡ after_all nothing_heard words))
