use Rattle.std.proofs.Common.{◌≡◌, take}
use Rattle.event_loop.specs.Turns.{with_waits}
use Rattle.event_loop.proofs.turn.tell_waits.Given as goal

abbrev pub invariant-loop-rank : goal.invariant-loop-rank
invariant-loop-rank g l =
    l.engine ≡ with_waits l.fn.engine 0 (take l.rank (g.T.Transport.waits l.transport))
