-- The datagrams so far are printed.
use Rattle.std.proofs.Common.{◌≡◌, ◌≤◌}
use Rattle.simulation.specs.Output.{Prints}
use Rattle.simulation.specs.StepLines.{lines_between}
use Rattle.simulation.proofs.event_printing.print_between.Given as goal

abbrev pub invariant-loop-number : goal.invariant-loop-number
invariant-loop-number g l =
    (l.fn.first ≤ l.number)
    × Prints (g.W.Write.contents l.fn.out) (g.W.Write.contents l.out)
    (lines_between l.world.datagrams l.fn.first l.number)
