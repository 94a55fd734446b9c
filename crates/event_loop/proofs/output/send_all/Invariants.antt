use Rattle.std.proofs.Common.{◌≡◌, take}
use Rattle.std.specs.Prelude.{map}
use Rattle.event_loop.specs.Output.{sent}
use Rattle.event_loop.proofs.output.send_all.Given as goal

abbrev pub invariant-loop-target : goal.invariant-loop-target
invariant-loop-target g l =
    (g.T.Transport.failed l.transport ≡ g.T.Transport.failed l.fn.transport)
    × g.T.Transport.passed l.fn.transport (map sent (take l.target-index l.out)) l.transport
