use Rattle.std.proofs.Common.{◌≡◌, ℕ, List}
use Rattle.std.specs.Prelude.{map}
use Rattle.event_loop.specs.declared.exchange.Exchange.TheVariants.{Printed}
use Rattle.event_loop.specs.RunnerLines.{Speaks}
use Rattle.event_loop.proofs.runner_turn.speak.Given as goal

abbrev pub invariant-loop : goal.invariant-loop
invariant-loop g l =
    (goal.iterator-loop g).can_next l.iterator' × (goal.iterator-loop g).is_finite l.iterator'
    × (g.T.Transport.failed l.transport ≡ g.T.Transport.failed l.fn.transport)
    × ((lines : List (List ℕ)) × Speaks g.P.Runner.does l.fn.runner l.fn.reply lines l.step l.runner
    × g.T.Transport.passed l.fn.transport (map Printed lines) l.transport)
